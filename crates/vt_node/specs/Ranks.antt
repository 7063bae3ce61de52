-- Ranks of the names that lead to one node.
use Rattle.std.specs.Prelude.{Bool, List, Option, filter, find, length, nat_eq, option_map, ℕ, ◌&&◌}
use Rattle.std.specs.Ordering.{is_lt}
use Rattle.vt_spec.specs.Tree.{Entries, name_cmp}

-- how many smaller names among some entries lead to the same node
abbrev pub rank_among : Entries ℕ → List ℕ → ℕ → ℕ
rank_among entries name id =
    length (filter (λ entry. nat_eq id entry.1 && is_lt (name_cmp entry.0 name)) entries)

-- whether an entry leads to a node, by a name of this rank
abbrev pub has_rank : Entries ℕ → ℕ → ℕ → List ℕ × ℕ → Bool
has_rank entries id rank entry = nat_eq id entry.1 && nat_eq rank (rank_among entries entry.0 id)

-- the name of a rank among the names that lead to a node
abbrev pub name_ranked : Entries ℕ → ℕ → ℕ → Option (List ℕ)
name_ranked entries id rank = option_map (λ entry. entry.0) (find (has_rank entries id rank) entries)
