-- The directories from the root down to one.
use Rattle.std.proofs.Common.{arith, ◌≡◌, ◌≢◌, refl, sym, subst, ℕ, zero, suc, nat_eq, Bool, true, false, List, [], ◌∷◌, Option, Some, None, ⊎_elim, find, filter_map, option_map}
use Rattle.vt_spec.proofs.Common.{FileTree, HasName, IsDirectory, IsTree, Tree, a_name, common_steps, entries_in, entry_at, entry_from, entry_to, eqb_tells, first_of_list, found_is_named, has_entry_to, led, name_in, none_is_some, parent_in, same_Some}
use Rattle.vt_spec.proofs.Trees.{found}

-- a name of an object leads to it
pub named_so : (files : FileTree ℕ) → IsTree files.tree → (object : ℕ) (name : ℕ × List ℕ)
    → a_name nat_eq files object ≡ Some name → entry_at files.tree name.0 name.1 ≡ Some object
named_so files tree object name e = leads_among files.numbers e
  where
    -- the name that one directory has for it
    leads_in : (directory : ℕ) (found : Option (List ℕ × ℕ))
        → find (λ entry. nat_eq object entry.1) (entries_in (files.tree.node directory)) ≡ found
        → option_map (λ entry. (directory, entry.0)) found ≡ Some name → entry_at files.tree name.0 name.1 ≡ Some object
    leads_in directory None f e = cc
    leads_in directory (Some entry) f e =
        let named = found_is_named object (entries_in (files.tree.node directory)) entry (tree.in_order directory) f in
        cc (same_Some (directory, entry.0) name e, named.0, named.1)

    -- the first name that some of the directories have
    leads_among : (directories : List ℕ)
        → first_of_list (filter_map (name_in nat_eq files object) directories) ≡ Some name
        → entry_at files.tree name.0 name.1 ≡ Some object
    leads_among [] e = cc
    leads_among (directory ∷ rest) e =
        let here = leads_in directory (find _ (entries_in (files.tree.node directory))) refl
        in grind (arith, here, leads_among rest)

-- what has an entry is a directory
pub has_entries : (tree : Tree ℕ) (directory : ℕ) (name : List ℕ) (object : ℕ)
    → entry_at tree directory name ≡ Some object → IsDirectory tree directory
has_entries tree directory name object e = grind (arith, common_steps, none_is_some)

-- so many steps from the root
abbrev pub ReachedIn : Tree ℕ → ℕ → ℕ → Type 0
ReachedIn tree zero directory = directory ≡ tree.root
ReachedIn tree (suc steps) directory =
    (parent : ℕ) × (name : List ℕ) × ReachedIn tree steps parent × (entry_at tree parent name ≡ Some directory)
    × IsDirectory tree directory

module _ (files : FileTree ℕ) (tree : IsTree files.tree) where
  pub reached_directory : (steps directory : ℕ) → ReachedIn files.tree steps directory
      → IsDirectory files.tree directory
  reached_directory zero directory e = subst (IsDirectory files.tree) (sym e) tree.root_directory
  reached_directory (suc steps) directory r = r.4

  -- from where names lead to a directory, there is one
  pub from_directory : (names : List (List ℕ)) (from to : ℕ) → led files.tree from names ≡ Some to
      → IsDirectory files.tree to → IsDirectory files.tree from
  from_directory [] from to e d = subst (IsDirectory files.tree) (sym (same_Some from to e)) d
  from_directory (name ∷ names) from to e d =
      let next = found (λ next. led files.tree next names) (entry_at files.tree from name) to e in
      has_entries files.tree from name next.0 next.1

  -- names that lead on from a directory that is reached lead to one that is reached
  pub reached_on : (names : List (List ℕ)) (steps from to : ℕ) → ReachedIn files.tree steps from
      → led files.tree from names ≡ Some to → IsDirectory files.tree to → (more : ℕ) × ReachedIn files.tree more to
  reached_on [] steps from to r e d = (steps, subst (ReachedIn files.tree steps) (same_Some from to e) r)
  reached_on (name ∷ names) steps from to r e d =
      let next = found (λ next. led files.tree next names) (entry_at files.tree from name) to e in
      reached_on names (suc steps) next.0 to (from, name, r, next.1, from_directory names next.0 to next.2 d) next.2 d

  -- a directory that has a name, or an entry, is reached
  pub is_reached_in : (directory : ℕ) (name : List ℕ) (object : ℕ) → entry_at files.tree directory name ≡ Some object
      → (steps : ℕ) × ReachedIn files.tree steps directory
  is_reached_in directory name object e = ⊎_elim (λ same. (0, same.1)) (λ other. below other.1 _ refl) (eqb_tells _ _)
    where
      is : IsDirectory files.tree directory
      is = has_entries files.tree directory name object e

      from_root : HasName files.tree directory → (steps : ℕ) × ReachedIn files.tree steps directory
      from_root named =
          let way = tree.reached directory is named in
          reached_on way.0 0 files.tree.root directory refl way.1 is

      -- other than the root: its parent has a name for it, as without one it would be empty
      below : directory ≢ files.tree.root → (named : Bool)
          → has_entry_to nat_eq files.tree (parent_in directory (files.tree.node directory)) directory ≡ named
          → (steps : ℕ) × ReachedIn files.tree steps directory
      below other true h =
          let named = entry_from files.tree tree (parent_in directory (files.tree.node directory)) directory h in
          from_root (parent_in directory (files.tree.node directory), named.0, named.1)
      below other false h =
          let empty = tree.unnamed_empty directory is other (λ named.
          cc (
            tree.one_parent named.0 named.1 directory named.2 is,
            entry_to files.tree named.0 named.1 directory named.2,
          ))
          in none_is_some object (cc (empty))
