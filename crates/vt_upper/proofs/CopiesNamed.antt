-- The object that is copied last has the name of its copy alone, in the inode in which it was made.
use Rattle.std.proofs.Common.{◌≡◌, ◌≢◌, ◌∙◌, ◌+◌, ◌<◌, ◌≤◌, ◌∷◌, ◌||◌, [], arith, ap, Bool, cond, Equal, eqb-true, false, Greater, is_some, length, Less, List, map, nat_eq, None, Option, refl, Some, subst, sym, true, true≢false, ℕ}
use Rattle.std.specs.Prelude.{⊤}
use Rattle.std.specs.declared.cmp.Ordering.{Ordering}
use Rattle.std.specs.Ordering.{eq_by_cmp, is_eq}
use Rattle.vt_spec.proofs.Common.{Entries, Inode, Inodes, IsDirectory, Node, by_order, directory_used, entries-node_with_entry, entries_in, entry_at, entry_named, entry_named-with_entry, has_entry_to, inode_with_node, is_among, is_directory_node, kind_of, name_cmp, nat_eq_itself, nat_list_cmp_total, node_in, node_with_entry, tied_itself, tree_of, uses_in, with_entry}
use Rattle.vt_spec.specs.FileTree.{targets_in}
use Rattle.vt_spec.specs.Rights.{is_directory}
use Rattle.vt_laws_worlds.specs.Merging.UpperChanges.{copy_node}
use Rattle.vt_laws_worlds.specs.Seen.CopySteps.{Copy}
use Rattle.vt_copyup.specs.Made.{AreFree, Made, made_copies, parent_made, with_copies}
use Rattle.vt_copyup.specs.Plans.{EntriesAreThere}
use Rattle.vt_copyup.proofs.Grown.{is_other, one_grown, one_made}
use Rattle.vt_copyup.proofs.Making.{alive_after, tree_grown}
use Rattle.vt_copyup.proofs.Stepping.{directory-copy, entries-copy, last_number}
use Rattle.vt_fs.specs.Trees.Names.{IsNamed, ListsNames, how_often, names_at, one_if}
use Rattle.vt_location.specs.declared.locations.InodeRef.{InodeRef}
use Rattle.vt_location.specs.Locations.{inode_of}
use Rattle.vt_upper.proofs.CopiesBeside.{after}

-- each copy but the last is a directory
abbrev pub AreNestedCopies : List Copy → Type 0
AreNestedCopies [] = ⊤
AreNestedCopies (copy ∷ []) = ⊤
AreNestedCopies (copy ∷ next ∷ rest) =
    (is_directory (kind_of copy.node.content) ≡ true) × AreNestedCopies (next ∷ rest)

-- the inode in which the last one is made
abbrev pub parent_number : ℕ → List Copy → ℕ
parent_number d [] = d
parent_number d (copy ∷ []) = d
parent_number d (copy ∷ next ∷ rest) = parent_number copy.number (next ∷ rest)

pub parent_number_is : (made : List Made) (directory : InodeRef)
    → inode_of (parent_made directory made)
    ≡ parent_number (inode_of directory) (made_copies directory.filesystem.count made)
parent_number_is [] directory = refl
parent_number_is (one ∷ []) directory = refl
parent_number_is (one ∷ next ∷ made) directory =
    parent_number_is (next ∷ made) (record { filesystem = directory.filesystem; slot = one.slot })

pub parent_filesystem : (made : List Made) (directory : InodeRef)
    → (parent_made directory made).filesystem ≡ directory.filesystem
parent_filesystem [] directory = refl
parent_filesystem (one ∷ []) directory = refl
parent_filesystem (one ∷ next ∷ made) directory =
    parent_filesystem (next ∷ made) (record { filesystem = directory.filesystem; slot = one.slot })

-- it has one use, and one name
pub record IsNamedOnce (inodes : Inodes ℕ) (p o : ℕ) : Type 0 where
  pub once : uses_in (inodes.inode o) ≡ 1
  pub there : is_some (node_in (inodes.inode o)) ≡ true
  pub named : IsNamed (tree_of inodes) o
  pub lists : ListsNames (tree_of inodes) o (p ∷ [])

-- what is not among numbers stands never there
not_often : (o : ℕ) (list : List ℕ) → is_among nat_eq o list ≡ false → how_often o list ≡ 0
not_often o [] none = refl
not_often o (other ∷ rest) none = by (nat_eq o other) refl (not_often o rest)
  where
    by : (b : Bool) → nat_eq o other ≡ b → (is_among nat_eq o rest ≡ false → how_often o rest ≡ 0)
        → how_often o (other ∷ rest) ≡ 0
    by true e later = absurd (true≢false (sym (ap (λ b. b || is_among nat_eq o rest) e) ∙ none))
    by false e later =
        let apart : one_if o other ≡ 0 = ap (λ b. cond b 1 0) e in
        let never = later (sym (ap (λ b. b || is_among nat_eq o rest) e) ∙ none) in
        omega (arith, apart, never)

one_small : (a b : ℕ) → one_if a b ≤ 1
one_small a b = by (nat_eq a b)
  where
    by : (same : Bool) → cond same 1 0 ≤ 1
    by true = omega arith
    by false = omega arith

-- an entry more is one name more at most
often_more : (name : List ℕ) (number o : ℕ) (entries : Entries ℕ)
    → how_often o (map (λ e. e.1) (with_entry name number entries)) ≤ how_often o (map (λ e. e.1) entries) + 1
often_more name number o [] = let one = one_small o number in omega (arith, one)
often_more name number o (first ∷ entries) = by (name_cmp name first.0) (often_more name number o entries)
  where
    one : one_if o number ≤ 1
    one = one_small o number

    by : (order : Ordering)
        → how_often o (map (λ e. e.1) (with_entry name number entries)) ≤ how_often o (map (λ e. e.1) entries) + 1
        → how_often o (map (λ e. e.1) (by_order order ((name, number) ∷ first ∷ entries)
        ((first.0, number) ∷ entries) (first ∷ with_entry name number entries)))
        ≤ how_often o (map (λ e. e.1) (first ∷ entries)) + 1
    by Less rest = omega (arith, one)
    by Equal rest = omega (arith, one)
    by Greater rest = omega (arith, rest)

-- one copy
module _ (inodes : Inodes ℕ) (d : ℕ) (copy : Copy) (vacant : node_in (inodes.inode copy.number) ≡ None)
    (directory : IsDirectory (tree_of inodes) d) (alive : EntriesAreThere (tree_of inodes)) where
  abbrev o : ℕ
  o = copy.number

  abbrev node : Node ℕ
  node = copy_node d copy.node

  abbrev now : Inodes ℕ
  now = after inodes d copy

  abbrev new : Option (Inode ℕ)
  new = Some (record { node = node; uses = 1 })

  abbrev grown : Option (Inode ℕ)
  grown = inode_with_node (node_with_entry copy.name o (node_in (inodes.inode d))) (inodes.inode d)

  other : d ≢ o
  other = is_other inodes o d vacant (directory_used (tree_of inodes) d directory)

  entered : (inode : Option (Inode ℕ))
      → node_in (inode_with_node (node_with_entry copy.name o (node_in inode)) inode)
      ≡ node_with_entry copy.name o (node_in inode)
  entered None = refl
  entered (Some inode) = refl

  entries_d : entries_in (node_in (now.inode d)) ≡ with_entry copy.name o (entries_in (node_in (inodes.inode d)))
  entries_d = ap (λ i. entries_in (node_in i)) (one_grown inodes d copy.name o node other)
      ∙ ap entries_in (entered (inodes.inode d))
      ∙ entries-node_with_entry copy.name o (node_in (inodes.inode d)) directory

  tied : eq_by_cmp name_cmp copy.name copy.name ≡ true
  tied = ap is_eq (tied_itself nat_list_cmp_total copy.name)

  leads : entry_at (tree_of now) d copy.name ≡ Some o
  leads = ap (entry_named copy.name) entries_d
      ∙ entry_named-with_entry copy.name copy.name o (entries_in (node_in (inodes.inode d)))
      ∙ ap (λ b. cond b (Some o) (entry_named copy.name (entries_in (node_in (inodes.inode d))))) tied

  none_before : (m : ℕ) → names_at (tree_of inodes) o m ≡ 0
  none_before m = not_often o (targets_in ((tree_of inodes).node m)) (by (has_entry_to nat_eq (tree_of inodes) m o) refl)
    where
      by : (b : Bool) → has_entry_to nat_eq (tree_of inodes) m o ≡ b → has_entry_to nat_eq (tree_of inodes) m o ≡ false
      by false e = e
      by true e = absurd (true≢false (sym (alive m o e) ∙ ap is_some vacant))

  listed : ListsNames (tree_of now) o (d ∷ [])
  listed m = by (nat_eq m o) refl (nat_eq m d) refl
    where
      by : (b : Bool) → nat_eq m o ≡ b → (here : Bool) → nat_eq m d ≡ here
          → names_at (tree_of now) o m ≤ how_often m (d ∷ [])
      by true e here f = subst (λ n. how_often o (targets_in (node_in (now.inode n))) ≤ how_often m (d ∷ []))
          (sym (eqb-true m o e)) (subst (λ i. how_often o (targets_in (node_in i)) ≤ how_often m (d ∷ []))
          (sym (one_made inodes d copy.name o node))
          (subst (λ (es : Entries ℕ). how_often o (map (λ x. x.1) es) ≤ how_often m (d ∷ []))
          (sym (entries-copy d copy.node)) (omega arith)))
      by false e true f =
          let at : m ≡ d = eqb-true m d f in
          let more = often_more copy.name o o (entries_in (node_in (inodes.inode d))) in
          let none = none_before d in
          let one : one_if d d ≡ 1 = ap (λ b. cond b 1 0) (nat_eq_itself d) in
          subst (λ n. names_at (tree_of now) o n ≤ how_often n (d ∷ [])) (sym at)
          (subst (λ (es : Entries ℕ). how_often o (map (λ x. x.1) es) ≤ how_often d (d ∷ [])) (sym entries_d)
          (omega (arith, more, none, one)))
      by false e false f =
          let none = none_before m in
          let same : now.inode m ≡ inodes.inode m =
          ap (λ b. cond b new (cond (nat_eq m d) grown (inodes.inode m))) e
          ∙ ap (λ b. cond b grown (inodes.inode m)) f in
          subst (λ i. how_often o (targets_in (node_in i)) ≤ how_often m (d ∷ [])) (sym same) (omega (arith, none))

  named_once : IsNamedOnce now d o
  named_once =
      let made = one_made inodes d copy.name o node in
      record {
        once = ap uses_in made;
        there = ap (λ i. is_some (node_in i)) made;
        named = record { directory = d; name = copy.name; leads = leads };
        lists = listed;
      }

  alive_now : EntriesAreThere (tree_of now)
  alive_now = subst EntriesAreThere (sym (tree_grown inodes d o copy.name node other))
      (alive_after (tree_of inodes) d copy.name o node directory other (entries-copy d copy.node) alive)

  directory_now : is_directory (kind_of copy.node.content) ≡ true → IsDirectory (tree_of now) o
  directory_now kind = ap (λ i. is_directory_node (node_in i)) (one_made inodes d copy.name o node)
      ∙ directory-copy d copy.node kind

-- copies
pub last_named : (copies : List Copy) (inodes : Inodes ℕ) (d : ℕ) → 0 < length copies → AreFree inodes d copies
    → IsDirectory (tree_of inodes) d → EntriesAreThere (tree_of inodes) → AreNestedCopies copies
    → IsNamedOnce (with_copies inodes d copies) (parent_number d copies) (last_number d copies)
last_named [] inodes d some free directory alive nested = absurd (let no : ⊥ = omega (arith, some) in no)
last_named (copy ∷ []) inodes d some free directory alive nested = named_once inodes d copy free.0 directory alive
last_named (copy ∷ next ∷ rest) inodes d some free directory alive nested =
    last_named (next ∷ rest) (after inodes d copy) copy.number (omega arith) free.1
    (directory_now inodes d copy free.0 directory alive nested.0) (alive_now inodes d copy free.0 directory alive) nested.1
