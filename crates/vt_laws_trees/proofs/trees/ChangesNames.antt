-- The entries of a tree in which a name is given, or taken away.
use Rattle.std.proofs.Common.{arith, ◌≡◌, ◌≢◌, refl, ap, ◌∙◌, ℕ, nat_eq, Bool, true, false, not, cond, List, [], ◌⊎◌, inl, inr, ⊎_elim, Some, None, bytes_eq, is_eq}
use Rattle.vt_spec.proofs.Common.{FileTree, IsDirectory, T_from_true, bytes_decides, common_steps, entries-node_with_entry, entries-node_without_entry, entries_in, entry_at, entry_named, entry_named-with_entry, entry_named-without_entry, eq_by_cmp, eqb_tells, is_sorted, is_sorted-put, is_sorted-where_key, name_cmp, nat_list_cmp_total, node_with_entry, node_without_entry, none_is_not, passes, tied_itself, with_entry, with_name, without_entry, without_name}
use Rattle.vt_spec.proofs.Nodes.{same_name}
use Rattle.vt_laws_trees.proofs.trees.ChangesNodes.{changed_node_there, elsewhere}

-- A name taken away
module _ (files : FileTree ℕ) (directory : ℕ) (name : List ℕ) where
  entries_there : entries_in ((without_name nat_eq files directory name).tree.node directory) ≡ without_entry name
      (entries_in (files.tree.node directory))
  entries_there = ap entries_in (changed_node_there files directory (node_without_entry name))
      ∙ entries-node_without_entry name (files.tree.node directory)

  entries_elsewhere : (other : ℕ) → other ≢ directory
      → entries_in ((without_name nat_eq files directory name).tree.node other) ≡ entries_in (files.tree.node other)
  entries_elsewhere other differ = ap entries_in (elsewhere files directory (node_without_entry name) other differ)

  -- what is left was there
  pub untaken_told : (d : ℕ) (n : List ℕ) (k : ℕ)
      → entry_at (without_name nat_eq files directory name).tree d n ≡ Some k
      → (entry_at files.tree d n ≡ Some k) × ¬ ((d ≡ directory) × (n ≡ name))
  untaken_told d n k e = ⊎_elim (λ t. by _ refl t.1 (cc (entry_named-without_entry n name _, entries_there, t.1)))
      (λ t. (cc (entries_elsewhere d t.1), λ same. t.1 same.0)) (eqb_tells d directory)
    where
      by : (b : Bool) → bytes_eq n name ≡ b → d ≡ directory
          → cond (not b) (entry_named n (entries_in (files.tree.node directory))) None ≡ Some k
          → (entry_at files.tree d n ≡ Some k) × ¬ ((d ≡ directory) × (n ≡ name))
      by true same here is = none_is_not None k refl is
      by false differ here is = (
        cc (here, is),
        λ both. cc ((bytes_decides n name).1 both.1),
      )

  -- and what was there is left, but for that name
  pub untaken_kept : (d : ℕ) (n : List ℕ) (k : ℕ) → entry_at files.tree d n ≡ Some k
      → ((d ≡ directory) × (n ≡ name)) ⊎ (entry_at (without_name nat_eq files directory name).tree d n ≡ Some k)
  untaken_kept d n k e = ⊎_elim (λ t. by _ refl t.1) (λ t. inr (cc (entries_elsewhere d t.1))) (eqb_tells d directory)
    where
      by : (b : Bool) → bytes_eq n name ≡ b → d ≡ directory
          → ((d ≡ directory) × (n ≡ name)) ⊎ (entry_at (without_name nat_eq files directory name).tree d n ≡ Some k)
      by true same here = inl (here, (bytes_decides n name).0 same)
      by false differ here = grind (arith, common_steps, entries_there, entry_named-without_entry)

  -- entries stay in order, and what is empty stays so
  pub untaken_in_order : ((d : ℕ) → is_sorted name_cmp (entries_in (files.tree.node d)) ≡ true)
      → (d : ℕ) → is_sorted name_cmp (entries_in ((without_name nat_eq files directory name).tree.node d)) ≡ true
  untaken_in_order sorted d = ⊎_elim (λ t. cc (t.1, entries_there, here))
      (λ t. cc (entries_elsewhere d t.1, sorted d)) (eqb_tells d directory)
    where
      here : is_sorted name_cmp (without_entry name (entries_in (files.tree.node directory))) ≡ true
      here = passes _ (is_sorted-where_key name_cmp (λ x. not (bytes_eq x name))
          (entries_in (files.tree.node directory)) (T_from_true _ (sorted directory)))

  pub untaken_empty : (d : ℕ) → entries_in (files.tree.node d) ≡ []
      → entries_in ((without_name nat_eq files directory name).tree.node d) ≡ []
  untaken_empty d empty = ⊎_elim (λ t. cc (t.1, entries_there)) (λ t. entries_elsewhere d t.1 ∙ empty) (eqb_tells d _)

-- A name given
module _ (files : FileTree ℕ) (directory : ℕ) (name : List ℕ) (number : ℕ)
    (in_directory : IsDirectory files.tree directory) where
  given_there : entries_in ((with_name nat_eq files directory name number).tree.node directory) ≡ with_entry name number
      (entries_in (files.tree.node directory))
  given_there = ap entries_in (changed_node_there files directory (node_with_entry name number))
      ∙ entries-node_with_entry name number (files.tree.node directory) in_directory

  pub given_elsewhere : (other : ℕ) → other ≢ directory
      → entries_in ((with_name nat_eq files directory name number).tree.node other) ≡ entries_in (files.tree.node other)
  given_elsewhere other differ = ap entries_in (elsewhere files directory (node_with_entry name number) other differ)

  -- the name leads to the number
  pub given_entry : entry_at (with_name nat_eq files directory name number).tree directory name ≡ Some number
  given_entry = ap (entry_named name) given_there ∙ entry_named-with_entry name name number _
      ∙ ap (λ o. cond (is_eq o) (Some number) (entry_named name (entries_in (files.tree.node directory))))
      (tied_itself nat_list_cmp_total name)

  -- every entry is that one, or was there under another name
  pub given_told : (d : ℕ) (n : List ℕ) (k : ℕ)
      → entry_at (with_name nat_eq files directory name number).tree d n ≡ Some k
      → ((d ≡ directory) × (n ≡ name) × (k ≡ number))
      ⊎ ((entry_at files.tree d n ≡ Some k) × ¬ ((d ≡ directory) × (n ≡ name)))
  given_told d n k e = ⊎_elim (λ t. by _ refl t.1 (cc (entry_named-with_entry n name number _, given_there, t.1)))
      (λ t. inr (cc (given_elsewhere d t.1), λ same. t.1 same.0)) (eqb_tells d directory)
    where
      by : (b : Bool) → eq_by_cmp name_cmp n name ≡ b → d ≡ directory
          → cond b (Some number) (entry_named n (entries_in (files.tree.node directory))) ≡ Some k
          → ((d ≡ directory) × (n ≡ name) × (k ≡ number))
          ⊎ ((entry_at files.tree d n ≡ Some k) × ¬ ((d ≡ directory) × (n ≡ name)))
      by true tie here is = inl (here, same_name n name tie, cc)
      by false apart here is = inr (
        cc (here, is),
        λ both. cc (both.1, tied_itself nat_list_cmp_total name),
      )

  -- every entry stays, but for what had that name
  pub given_kept : (d : ℕ) (n : List ℕ) (k : ℕ) → entry_at files.tree d n ≡ Some k
      → ((d ≡ directory) × (n ≡ name)) ⊎ (entry_at (with_name nat_eq files directory name number).tree d n ≡ Some k)
  given_kept d n k e =
      grind (arith, common_steps, given_elsewhere, eqb_tells, same_name, given_there, entry_named-with_entry)

  -- entries stay in order
  pub given_in_order : ((d : ℕ) → is_sorted name_cmp (entries_in (files.tree.node d)) ≡ true)
      → (d : ℕ) → is_sorted name_cmp (entries_in ((with_name nat_eq files directory name number).tree.node d)) ≡ true
  given_in_order sorted d = ⊎_elim (λ t. cc (t.1, given_there, here)) (λ t. cc (given_elsewhere d t.1, sorted d))
      (eqb_tells d directory)
    where
      here : is_sorted name_cmp (with_entry name number (entries_in (files.tree.node directory))) ≡ true
      here = passes _ (is_sorted-put name_cmp nat_list_cmp_total name number (entries_in (files.tree.node directory))
          (T_from_true _ (sorted directory)))
