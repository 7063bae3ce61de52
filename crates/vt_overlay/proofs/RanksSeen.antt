-- Ranks by slots are ranks by the numbers of inodes.
use Rattle.std.proofs.Common.{◌≡◌, ◌∙◌, ◌∷◌, ◌&&◌, [], ap, Bool, eq-eqb, eqb-true, List, map, nat_eq, option_map, refl, Some, sym, ℕ, find, if◌then◌else◌, arith}
use Rattle.vt_spec.proofs.Common.{Content, Directory, Entries, Node, Regular, Symlink, Whiteout, entries_in, entries_of, renamed_entry, same_truth, common_steps}
use Rattle.vt_location.proofs.NumberLemmas.{exchanged_back}
use Rattle.vt_location.specs.Numbers.{exchanged}
use Rattle.vt_fs.specs.FilesystemsValue.{node_seen}
use Rattle.vt_node.specs.Ranks.{name_ranked, rank_among}

module _ (f : ℕ) where
  abbrev numbered : Entries ℕ → Entries ℕ
  numbered entries = map (renamed_entry (exchanged f) (exchanged f)) entries

  pub same_slots : (a b : ℕ) → nat_eq a b ≡ nat_eq (exchanged f a) (exchanged f b)
  same_slots a b = same_truth (nat_eq a b) (nat_eq (exchanged f a) (exchanged f b))
      (λ e. eq-eqb (exchanged f a) (exchanged f b) (ap (exchanged f) (eqb-true a b e)))
      (λ e. eq-eqb a b (sym (exchanged_back f a)
      ∙ ap (exchanged f) (eqb-true (exchanged f a) (exchanged f b) e) ∙ exchanged_back f b))

  rank_numbered : (entries : Entries ℕ) (name : List ℕ) (id : ℕ)
      → rank_among entries name id ≡ rank_among (numbered entries) name (exchanged f id)
  rank_numbered [] name id = refl
  rank_numbered (entry ∷ entries) name id =
      grind (arith, common_steps, rank_numbered entries name id, same_slots id entry.1)

  -- the entry of a rank, among some of the entries
  found_numbered : (all entries : Entries ℕ) (id rank : ℕ) → option_map (λ (entry : List ℕ × ℕ). entry.0)
      (find (λ entry. nat_eq id entry.1 && nat_eq rank (rank_among all entry.0 id)) entries)
      ≡ option_map (λ (entry : List ℕ × ℕ). entry.0) (find (λ entry. nat_eq (exchanged f id) entry.1
      && nat_eq rank (rank_among (numbered all) entry.0 (exchanged f id))) (numbered entries))
  found_numbered all [] id rank = refl
  found_numbered all (entry ∷ entries) id rank = (λ i. option_map (λ (e : List ℕ × ℕ). e.0)
      (if same_slots id entry.1 i && nat_eq rank (rank_numbered all entry.0 id i) then Some entry
      else find (λ e. nat_eq id e.1 && nat_eq rank (rank_among all e.0 id)) entries))
      ∙ by (nat_eq (exchanged f id) (exchanged f entry.1)
      && nat_eq rank (rank_among (numbered all) entry.0 (exchanged f id))) (found_numbered all entries id rank)
    where
      by : (b : Bool) → option_map (λ (e : List ℕ × ℕ). e.0)
          (find (λ e. nat_eq id e.1 && nat_eq rank (rank_among all e.0 id)) entries)
          ≡ option_map (λ (e : List ℕ × ℕ). e.0) (find (λ e. nat_eq (exchanged f id) e.1
          && nat_eq rank (rank_among (numbered all) e.0 (exchanged f id))) (numbered entries))
          → option_map (λ (e : List ℕ × ℕ). e.0) (if b then Some entry
          else find (λ e. nat_eq id e.1 && nat_eq rank (rank_among all e.0 id)) entries)
          ≡ option_map (λ (e : List ℕ × ℕ). e.0) (if b then Some (renamed_entry (exchanged f) (exchanged f) entry)
          else find (λ e. nat_eq (exchanged f id) e.1
          && nat_eq rank (rank_among (numbered all) e.0 (exchanged f id))) (numbered entries))
      by b rest = grind (arith, common_steps)

  pub rank_seen : (node : Node ℕ) (name : List ℕ) (id : ℕ) → rank_among (entries_of node.content) name id
      ≡ rank_among (entries_in (Some (node_seen f node))) name (exchanged f id)
  rank_seen node name id = by node.content
    where
      by : (content : Content ℕ) → rank_among (entries_of content) name id
          ≡ rank_among (entries_in (Some (node_seen f (record { attr = node.attr; content = content })))) name
          (exchanged f id)
      by (Directory parent entries opaque) = rank_numbered entries name id
      by (Regular bytes) = refl
      by (Symlink text) = refl
      by Whiteout = refl

  pub ranked_seen : (node : Node ℕ) (id rank : ℕ) → name_ranked (entries_of node.content) id rank
      ≡ name_ranked (entries_in (Some (node_seen f node))) (exchanged f id) rank
  ranked_seen node id rank = by node.content
    where
      by : (content : Content ℕ) → name_ranked (entries_of content) id rank
          ≡ name_ranked (entries_in (Some (node_seen f (record { attr = node.attr; content = content }))))
          (exchanged f id) rank
      by (Directory parent entries opaque) = found_numbered entries entries id rank
      by (Regular bytes) = refl
      by (Symlink text) = refl
      by Whiteout = refl
