-- How many names lead to an object, once a directory has changed.
use Rattle.std.proofs.Common.{◌≡◌, refl, sym, ap, subst, ℕ, ◌+◌, ◌≤◌, nat_eq, eq-eqb, Bool, true, false, true≢false, cond, not, ◌&&◌, ◌||◌, List, [], ◌∷◌, map, Option, Some, None, arith, is_eq, is_lt, bytes_eq, Ordering, Less, Equal, Greater, ⊎_elim, ◌∙◌}
use Rattle.vt_spec.proofs.Common.{Content, Directory, Entries, Node, Regular, Symlink, Tree, Whiteout, and_parts, below_all, by_order, bytes_decides, cases_lt, entries-node_without_entry, entries_in, entries_of, entry_named, entry_named-below, entry_named-with_entry, eq_by_cmp, is_among, is_sorted, name_cmp, nat_list_cmp_total, node_with_entry, node_without_entry, targets_in, texts_ties, with_entries, with_entry, without_entry}
use Rattle.vt_fs.specs.Trees.Names.{NamesAtMost, how_often, one_if}

abbrev pub targets : Entries ℕ → List ℕ
targets entries = map (λ entry. entry.1) entries

abbrev pub one_if_some : ℕ → Option ℕ → ℕ
one_if_some number None = 0
one_if_some number (Some other) = one_if number other

-- Entries of one directory

is_less : (o : Ordering) → is_lt o ≡ true → o ≡ Less
is_less Less e = refl
is_less Equal e = cc
is_less Greater e = cc

below_less : (name other : List ℕ) (entries : Entries ℕ) → name_cmp name other ≡ Less
    → below_all name_cmp other entries ≡ true → below_all name_cmp name entries ≡ true
below_less name other [] less e = refl
below_less name other (entry ∷ rest) less e =
    let parts = and_parts (is_lt (name_cmp other entry.0)) (below_all name_cmp other rest) e in
    (λ i. is_lt (nat_list_cmp_total.trans name other entry.0 less (is_less _ parts.0) i)
    && below_less name other rest less parts.1 i)

-- an entry more, in the place of the one with its name
pub often_put : (number : ℕ) (name : List ℕ) (object : ℕ) (entries : Entries ℕ) → is_sorted name_cmp entries ≡ true
    → how_often number (targets (with_entry name object entries)) + one_if_some number (entry_named name entries)
    ≡ how_often number (targets entries) + one_if number object
often_put number name object [] sorted = omega arith
often_put number name object (entry ∷ rest) sorted =
    by (name_cmp name entry.0) refl (often_put number name object rest parts.1)
  where
    parts : (below_all name_cmp entry.0 rest ≡ true) × (is_sorted name_cmp rest ≡ true)
    parts = and_parts (below_all name_cmp entry.0 rest) (is_sorted name_cmp rest) sorted

    by : (o : Ordering) → name_cmp name entry.0 ≡ o
        → how_often number (targets (with_entry name object rest)) + one_if_some number (entry_named name rest)
        ≡ how_often number (targets rest) + one_if number object
        → how_often number (targets (by_order o ((name, object) ∷ entry ∷ rest) ((entry.0, object) ∷ rest)
        (entry ∷ with_entry name object rest)))
        + one_if_some number (cond (is_eq o) (Some entry.1) (entry_named name rest))
        ≡ how_often number (targets (entry ∷ rest)) + one_if number object
    by Less e later =
        omega (arith, ap (one_if_some number) (entry_named-below name rest (below_less name entry.0 rest e parts.0)))
    by Equal e later = omega arith
    by Greater e later = omega arith

-- an entry less
pub often_without : (number : ℕ) (name : List ℕ) (entries : Entries ℕ)
    → how_often number (targets (without_entry name entries)) + one_if_some number (entry_named name entries)
    ≤ how_often number (targets entries)
often_without number name [] = omega arith
often_without number name (entry ∷ rest) =
    by (bytes_eq entry.0 name) refl (is_eq (name_cmp name entry.0)) refl (often_without number name rest)
  where
    by : (b : Bool) → bytes_eq entry.0 name ≡ b → (c : Bool) → is_eq (name_cmp name entry.0) ≡ c
        → how_often number (targets (without_entry name rest)) + one_if_some number (entry_named name rest)
        ≤ how_often number (targets rest)
        → how_often number (targets (cond (not b) (entry ∷ without_entry name rest) (without_entry name rest)))
        + one_if_some number (cond c (Some entry.1) (entry_named name rest))
        ≤ one_if number entry.1 + how_often number (targets rest)
    by true e true f later = omega arith
    by true e false f later =
        let same : name ≡ entry.0 = sym ((bytes_decides entry.0 name).0 e) in
        absurd (true≢false (sym (sym (texts_ties name entry.0) ∙ (bytes_decides name entry.0).1 same) ∙ f))
    by false e true f later =
        let same : name ≡ entry.0 = (bytes_decides name entry.0).0 (texts_ties name entry.0 ∙ f) in
        absurd (true≢false (sym ((bytes_decides entry.0 name).1 (sym same)) ∙ e))
    by false e false f later = omega arith

-- of a node that may be missing, or no directory
pub put_in_node : (number : ℕ) (name : List ℕ) (object : ℕ) (node : Option (Node ℕ))
    → is_sorted name_cmp (entries_in node) ≡ true → how_often number (targets_in (node_with_entry name object node))
    + one_if_some number (entry_named name (entries_in node))
    ≤ how_often number (targets_in node) + one_if number object
put_in_node number name object None sorted = omega arith
put_in_node number name object (Some node) sorted = by node.content sorted
  where
    by : (content : Content ℕ) → is_sorted name_cmp (entries_of content) ≡ true
        → how_often number (targets (entries_of (with_entries content (with_entry name object (entries_of content)))))
        + one_if_some number (entry_named name (entries_of content))
        ≤ how_often number (targets (entries_of content)) + one_if number object
    by (Directory parent entries opaque) sorted =
        let same = often_put number name object entries sorted in omega arith
    by (Regular bytes) sorted = omega arith
    by (Symlink text) sorted = omega arith
    by Whiteout sorted = omega arith

pub taken_from_node : (number : ℕ) (name : List ℕ) (node : Option (Node ℕ))
    → how_often number (targets_in (node_without_entry name node))
    + one_if_some number (entry_named name (entries_in node)) ≤ how_often number (targets_in node)
taken_from_node number name node =
    subst (λ entries. how_often number (targets entries) + one_if_some number (entry_named name (entries_in node))
    ≤ how_often number (targets_in node))
    (sym (entries-node_without_entry name node)) (often_without number name (entries_in node))

-- the entry that leads to an object leads to it still, once another entry does
pub named_in_node : (name other : List ℕ) (object : ℕ) (node : Option (Node ℕ))
    → entry_named name (entries_in node) ≡ Some object
    → entry_named name (entries_in (node_with_entry other object node)) ≡ Some object
named_in_node name other object None named = named
named_in_node name other object (Some node) named = by node.content named
  where
    either : (b : Bool) (o : Option ℕ) → o ≡ Some object → cond b (Some object) o ≡ Some object
    either true o e = refl
    either false o e = e

    by : (content : Content ℕ) → entry_named name (entries_of content) ≡ Some object
        → entry_named name (entries_of (with_entries content (with_entry other object (entries_of content))))
        ≡ Some object
    by (Directory parent entries opaque) e = entry_named-with_entry name other object entries
        ∙ either (eq_by_cmp name_cmp name other) (entry_named name entries) e
    by (Regular bytes) e = e
    by (Symlink text) e = e
    by Whiteout e = e

-- a name is one at least
pub among_often : (number : ℕ) (list : List ℕ) → is_among nat_eq number list ≡ true → 1 ≤ how_often number list
among_often number [] e = cc
among_often number (other ∷ rest) e = by (nat_eq number other) e (among_often number rest)
  where
    by : (b : Bool) → (b || is_among nat_eq number rest) ≡ true
        → (is_among nat_eq number rest ≡ true → 1 ≤ how_often number rest) → 1 ≤ cond b 1 0 + how_often number rest
    by true e later = omega arith
    by false e later = omega (arith, later e)

pub often_among : (number : ℕ) (list : List ℕ) → 1 ≤ how_often number list → is_among nat_eq number list ≡ true
often_among number [] e = absurd (omega (arith, e))
often_among number (other ∷ rest) e = by (nat_eq number other) e (often_among number rest)
  where
    by : (b : Bool) → 1 ≤ cond b 1 0 + how_often number rest
        → (1 ≤ how_often number rest → is_among nat_eq number rest ≡ true) → (b || is_among nat_eq number rest) ≡ true
    by true e later = refl
    by false e later = later (omega (arith, e))

pub among_never : (number : ℕ) (list : List ℕ) → is_among nat_eq number list ≡ false → how_often number list ≡ 0
among_never number list none = ⊎_elim
    (λ some. absurd (true≢false (sym (often_among number list (omega (arith, some))) ∙ none)))
    (λ past. omega (arith, past)) (cases_lt 0 (how_often number list))

-- what a name leads to
pub named_often : (name : List ℕ) (object : ℕ) (node : Option (Node ℕ))
    → entry_named name (entries_in node) ≡ Some object → 1 ≤ how_often object (targets_in node)
named_often name object node named =
    omega (arith, taken_from_node object name node, ap (one_if_some object) named, one_itself object)
  where
    one_itself : (object : ℕ) → one_if object object ≡ 1
    one_itself object = ap (λ b. cond b 1 0) (eq-eqb object object refl)

-- At most so many names

-- more may be counted
pub most_weaker : (tree : Tree ℕ) (most other : ℕ → ℕ → ℕ) → NamesAtMost tree most
    → ((object directory : ℕ) → most object directory ≤ other object directory) → NamesAtMost tree other
most_weaker tree most other counted fewer object directory =
    omega (arith, counted object directory, fewer object directory)
