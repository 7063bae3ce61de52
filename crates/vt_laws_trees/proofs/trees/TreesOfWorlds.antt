-- A change of a filesystem in a world of trees leaves a world of trees.
use Rattle.std.proofs.Common.{arith, eqb-true, ◌≡◌, refl, sym, ap, subst, ℕ, nat_eq, Bool, true, false, cond, List, [], ◌∷◌, map, ◌⊎◌, inl, inr, ⊎_elim, Some, None, is_some, unwrap_or, All, find}
use Rattle.vt_spec.proofs.Common.{All-cons, All-head, All-nil, All-tail, Change, Filesystem, Fresh, Location, World, changed, common_steps, files_at, filesystem_at, filesystem_changed, filesystems-taken_away, filesystems_raised, is_overlay, mount_at, no_filesystem, none_from_not_some, raised, raised_if_changed, replaced_if_numbered, shown-taken_away, taken_away, with_change, with_files, with_filesystem}
use Rattle.vt_laws_trees.specs.Trees.{IsFileTree, IsProper}
use Rattle.vt_laws_trees.specs.Trees.Calls.{AreNew, IsWorldOfTrees}
use Rattle.vt_laws_trees.proofs.trees.ChangesKeepTrees.{changes_keep_numbers, changes_keep_own_parents, changes_keep_trees}

-- a filesystem of the list, or the one that is not there
abbrev pub numbered : ℕ → List (Filesystem ℕ) → Filesystem ℕ
numbered number list = unwrap_or (find (λ filesystem. nat_eq number filesystem.number) list) (no_filesystem number)

-- What holds of all filesystems holds of one by its number, if it is there; and if not, none has its number.
pub numbered_all : (P : Filesystem ℕ → Type 0) (number : ℕ) (list : List (Filesystem ℕ)) → All P list
    → P (numbered number list)
    ⊎ ((numbered number list ≡ no_filesystem number) × All (λ filesystem. nat_eq number filesystem.number ≡ false) list)
numbered_all P number [] h = inr (refl, All-nil (λ filesystem. nat_eq number filesystem.number ≡ false))
numbered_all P number (filesystem ∷ list) h = by _ refl (numbered_all P number list (All-tail P filesystem list h))
  where
    by : (b : Bool) → nat_eq number filesystem.number ≡ b → P (numbered number list)
        ⊎ ((numbered number list ≡ no_filesystem number) × All (λ other. nat_eq number other.number ≡ false) list)
        → P (unwrap_or (cond b (Some filesystem) (find (λ other. nat_eq number other.number) list))
        (no_filesystem number))
        ⊎ ((unwrap_or (cond b (Some filesystem) (find (λ other. nat_eq number other.number) list))
        (no_filesystem number) ≡ no_filesystem number)
        × All (λ other. nat_eq number other.number ≡ false) (filesystem ∷ list))
    by true e rest = inl (All-head P filesystem list h)
    by false e rest = ⊎_elim inl
        (λ none. inr (none.0, All-cons (λ other. nat_eq number other.number ≡ false) filesystem list e none.1)) rest

-- what holds of a filesystem by its number in any case
pub numbered_anyhow : (P : Filesystem ℕ → Type 0) (number : ℕ) (list : List (Filesystem ℕ)) → All P list
    → P (no_filesystem number) → P (numbered number list)
numbered_anyhow P number list h none =
    ⊎_elim (λ is. is) (λ missing. subst P (sym missing.0) none) (numbered_all P number list h)

-- its number is the one it is found by
pub number_numbered : (number : ℕ) (list : List (Filesystem ℕ)) → (numbered number list).number ≡ number
number_numbered number [] = refl
number_numbered number (filesystem ∷ list) = grind (arith, common_steps, eqb-true, number_numbered number list)

-- one filesystem replaced
pub replaced_all : (P : Filesystem ℕ → Type 0) (new : Filesystem ℕ) (list : List (Filesystem ℕ)) → All P list
    → P new ⊎ All (λ filesystem. nat_eq new.number filesystem.number ≡ false) list
    → All P (map (replaced_if_numbered nat_eq new) list)
replaced_all P new [] h either = All-nil P
replaced_all P new (filesystem ∷ list) h either = All-cons P (replaced_if_numbered nat_eq new filesystem) _
    (by (nat_eq new.number filesystem.number) refl either) (replaced_all P new list (All-tail P filesystem list h)
    (⊎_elim inl (λ none. inr (All-tail (λ other. nat_eq new.number other.number ≡ false) filesystem list none)) either))
  where
    by : (b : Bool) → nat_eq new.number filesystem.number ≡ b
        → P new ⊎ All (λ other. nat_eq new.number other.number ≡ false) (filesystem ∷ list) → P (cond b new filesystem)
    by true e (inl is) = is
    by true e (inr none) = cc (All-head (λ other. nat_eq new.number other.number ≡ false) filesystem list none)
    by false e either = All-head P filesystem list h

-- change numbers of some raised
pub raised_all : (P : Filesystem ℕ → Type 0) (changed : List ℕ)
    → ((filesystem : Filesystem ℕ) → P filesystem → P (record filesystem { change = raised filesystem.change }))
    → (list : List (Filesystem ℕ)) → All P list → All P (map (raised_if_changed nat_eq changed) list)
raised_all P changed keeps [] h = All-nil P
raised_all P changed keeps (filesystem ∷ list) h = All-cons P (raised_if_changed nat_eq changed filesystem) _
    (by _ (All-head P filesystem list h)) (raised_all P changed keeps list (All-tail P filesystem list h))
  where
    by : (b : Bool) → P filesystem → P (cond b (record filesystem { change = raised filesystem.change }) filesystem)
    by true is = keeps filesystem is
    by false is = is

pub raised_keeps_world : (changed : List ℕ) (world : World ℕ) → IsWorldOfTrees world
    → IsWorldOfTrees (filesystems_raised nat_eq changed world)
raised_keeps_world changed world conditions = record {
  plain = raised_all (λ filesystem. is_overlay filesystem ≡ false) changed (λ filesystem is. is) _ conditions.plain;
  trees = raised_all (λ filesystem. IsFileTree filesystem.files) changed (λ filesystem is. is) _ conditions.trees;
}

-- A change
module _ (fresh : Fresh ℕ) (world : World ℕ) (location : Location ℕ) (change : Change ℕ) where
  abbrev old : Filesystem ℕ
  old = filesystem_at nat_eq world location

  abbrev new : Filesystem ℕ
  new = with_files old (changed nat_eq old.files change)

  no_overlay : IsWorldOfTrees world → old.overlay ≡ None
  no_overlay conditions = none_from_not_some old.overlay (numbered_anyhow (λ filesystem. is_overlay filesystem ≡ false)
      (mount_at nat_eq world location).filesystem world.filesystems conditions.plain refl)

  change_of_plain : IsWorldOfTrees world
      → with_change nat_eq fresh world location change ≡ with_filesystem nat_eq world new
  change_of_plain conditions = ap (λ o. filesystem_changed nat_eq fresh world old o change) (no_overlay conditions)

  new_is_tree : IsFileTree old.files → IsProper old.files.tree change → IsFileTree new.files
  new_is_tree conditions proper = record {
    tree = changes_keep_trees old.files change conditions.tree proper;
    numbers = changes_keep_numbers old.files change conditions.numbers;
    own_parents = changes_keep_own_parents old.files change conditions.tree conditions.own_parents proper;
  }

  pub change_keeps_world : IsWorldOfTrees world
      → (IsFileTree (files_at nat_eq world location) → IsProper (files_at nat_eq world location).tree change)
      → IsWorldOfTrees (with_change nat_eq fresh world location change)
  change_keeps_world conditions proper = subst IsWorldOfTrees (sym (change_of_plain conditions)) (record {
    plain = replaced_all (λ filesystem. is_overlay filesystem ≡ false) new world.filesystems conditions.plain
        (inl (ap is_some (no_overlay conditions)));
    trees = replaced_all (λ filesystem. IsFileTree filesystem.files)
        new world.filesystems conditions.trees (⊎_elim (λ is. inl (new_is_tree is (proper is)))
        (λ missing. inr (subst (λ n. All (λ filesystem. nat_eq n filesystem.number ≡ false) world.filesystems)
        (sym (number_numbered (mount_at nat_eq world location).filesystem world.filesystems)) missing.1))
        (numbered_all (λ filesystem. IsFileTree filesystem.files) _ world.filesystems conditions.trees));
  })

-- a number that is handed in is new wherever it is used
pub new_at : (fresh : Fresh ℕ) (world : World ℕ) (location : Location ℕ) → AreNew fresh world → (k : ℕ)
    → (files_at nat_eq world location).tree.node (fresh k) ≡ None
new_at fresh world location new k =
    numbered_anyhow (λ filesystem. (j : ℕ) → filesystem.files.tree.node (fresh j) ≡ None)
    (mount_at nat_eq world location).filesystem world.filesystems new (λ j. refl) k

-- so the trees seen at each location stay
pub taken_files : (world : World ℕ) (gone : List ℕ) (location : Location ℕ)
    → files_at nat_eq (taken_away nat_eq world gone) location ≡ files_at nat_eq world location
taken_files world gone location =
    λ i. (numbered (shown-taken_away world gone location i) (filesystems-taken_away world gone i)).files

-- a world with the filesystems of a world of trees is one
pub same_filesystems : (a b : World ℕ) → a.filesystems ≡ b.filesystems → IsWorldOfTrees b → IsWorldOfTrees a
same_filesystems a b same conditions = record {
  plain = subst (All (λ filesystem. is_overlay filesystem ≡ false)) (sym same) conditions.plain;
  trees = subst (All (λ filesystem. IsFileTree filesystem.files)) (sym same) conditions.trees;
}
