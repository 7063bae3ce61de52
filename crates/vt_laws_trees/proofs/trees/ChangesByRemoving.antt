-- What is removed and renamed may be.
use Rattle.std.proofs.Common.{arith, eqb-true, ◌≡◌, ◌≢◌, refl, sym, ap, subst, ◌∙◌, true≢false, ℕ, nat_eq, eq-eqb, Bool, true, false, not, List, [], ◌∷◌, ◌&&◌, Option, Some, None, is_some, option_map}
use Rattle.vt_spec.proofs.Common.{FileTree, IsDirectory, IsReached, IsTree, Location, NoneFails, Place, Task, World, and_from, common_steps, directory_from_entry, entries_in, entries_in-no_directory, entry_at, entry_named, files_at, found, holds_of, is_directory_at, is_directory_node, is_directory_under, is_removed_at, is_special, led, mount_at, name_of, new_name_rules, nil_from_not_some, node_at, none_is_not, not-false, object_there, same_Some}
use Rattle.vt_spec.proofs.Tables.{is_nonempty, is_one_object, rename_rules, same_filesystem}
use Rattle.vt_spec.proofs.Walk.{entry_location}
use Rattle.vt_laws_trees.specs.Trees.{IsFileTree, MayMove, MayRemove}
use Rattle.vt_laws_trees.proofs.trees.TreesAbove.{under_seen}
use Rattle.vt_laws_trees.proofs.trees.TreesReached.{filled_reached, not_removed_reached}
use Rattle.vt_laws_trees.proofs.trees.TreesWalked.{IsPlace, place_named}
use Rattle.vt_spec.proofs.Truths.{and_from_three}

-- the tree that a mount shows
abbrev pub shown : World ℕ → ℕ → FileTree ℕ
shown world mount = files_at nat_eq world (record { mount = mount; node = 0 })

module _ (world : World ℕ) (parent : Location ℕ) (name : List ℕ) where
  -- what a name leads to is seen through the mount of its directory, and is what the entry leads to
  named_by : (object : Location ℕ) → Some object ≡ entry_location nat_eq world parent name
      → (object.mount ≡ parent.mount)
      × (entry_at (files_at nat_eq world parent).tree parent.node name ≡ Some object.node)
  named_by object e = by (entry_named name (entries_in (node_at nat_eq world parent))) e
    where
      by : (o : Option ℕ) → Some object ≡ option_map (λ number. record { mount = parent.mount; node = number }) o
          → (object.mount ≡ parent.mount) × (o ≡ Some object.node)
      by None h = none_is_not None object refl (sym h)
      by (Some number) h =
          let same = same_Some object (record { mount = parent.mount; node = number }) h in
          (ap (λ (l : Location ℕ). l.mount) same, ap (λ (l : Location ℕ). Some l.node) (sym same))

-- An old place: its object
module _ (world : World ℕ) (place : Place ℕ) (plain : is_special place.last ≡ false) (is : IsPlace world place)
    (there : is_some place.object ≡ true) where
  abbrev object : Location ℕ
  object = object_there place

  object_is : place.object ≡ Some object
  object_is = grind (arith, common_steps, true≢false)

  old_named : (object.mount ≡ place.parent.mount)
      × (entry_at (files_at nat_eq world place.parent).tree place.parent.node (name_of place.last) ≡ Some object.node)
  old_named = named_by world place.parent _ object (sym object_is ∙ (place_named world _ place.last _ plain is).1)

  -- it is seen in the tree of its directory
  old_node : node_at nat_eq world object ≡ (files_at nat_eq world place.parent).tree.node object.node
  old_node = ap (λ m. (shown world m).tree.node object.node) old_named.0

  pub old_removable : entries_in (node_at nat_eq world object) ≡ []
      → MayRemove (files_at nat_eq world place.parent).tree place.parent.node (name_of place.last) object.node
  old_removable empty = record { named = old_named.1; empty = ap entries_in (sym old_node) ∙ empty }

-- A rename, where its rules pass
module _ (world : World ℕ) (task : Task ℕ) (from to : Place ℕ)
    (from_plain : is_special from.last ≡ false) (from_is : IsPlace world from) (from_there : is_some from.object ≡ true)
    (to_plain : is_special to.last ≡ false) (to_is : IsPlace world to)
    (to_new : NoneFails (new_name_rules nat_eq world to))
    (other : is_one_object nat_eq world (object_there from) to.object ≡ false)
    (passed : NoneFails (rename_rules nat_eq world task from to (object_there from)))
    (trees : IsFileTree (files_at nat_eq world from.parent)) where
  abbrev old : Location ℕ
  old = object_there from

  abbrev files : FileTree ℕ
  files = files_at nat_eq world from.parent

  old_is : (old.mount ≡ from.parent.mount) × (entry_at files.tree from.parent.node (name_of from.last) ≡ Some old.node)
  old_is = old_named world from from_plain from_is from_there

  one_mount : from.parent.mount ≡ to.parent.mount
  one_mount = eqb-true from.parent.mount to.parent.mount (not-false _ passed.1.1.1.1.1.1.1.1.0)

  to_files : files_at nat_eq world to.parent ≡ files
  to_files = ap (shown world) (sym one_mount)

  to_named : (is_directory_at nat_eq world to.parent ≡ true)
      × (to.object ≡ entry_location nat_eq world to.parent (name_of to.last))
  to_named = place_named world to.parent to.last to.object to_plain to_is

  to_directory : IsDirectory files.tree to.parent.node
  to_directory = ap (λ (f : FileTree ℕ). is_directory_node (f.tree.node to.parent.node)) (sym to_files) ∙ to_named.0

  -- what has the new name
  new_object : (number : ℕ) → entry_at files.tree to.parent.node (name_of to.last) ≡ Some number
      → to.object ≡ Some (record { mount = to.parent.mount; node = number })
  new_object number entry = cc (to_named.1, to_files, entry)

  to_reached : IsReached files.tree to.parent.node
  to_reached = by to.object refl
    where
      by : (o : Option (Location ℕ)) → to.object ≡ o → IsReached files.tree to.parent.node
      by None e = subst (λ (f : FileTree ℕ). IsReached f.tree to.parent.node) to_files (not_removed_reached
          (files_at nat_eq world to.parent).tree (subst (λ (f : FileTree ℕ). IsTree f.tree) (sym to_files) trees.tree) _
          to_named.0 (ap (λ o. not (is_some o) && is_removed_at nat_eq world to.parent) (sym e) ∙ to_new.0))
      by (Some object) e =
          let named = named_by world to.parent (name_of to.last) object (sym e ∙ to_named.1) in
          filled_reached files.tree trees.tree to.parent.node to_directory (name_of to.last) object.node
          (ap (λ (f : FileTree ℕ). entry_at f.tree to.parent.node (name_of to.last)) (sym to_files) ∙ named.1)

  old_node_in : node_at nat_eq world old ≡ files.tree.node old.node
  old_node_in = ap (λ m. (shown world m).tree.node old.node) old_is.0

  -- it does not go under itself
  moves_not_under : (names : List (List ℕ)) → led files.tree old.node names ≢ Some to.parent.node
  moves_not_under names e = by (is_directory_at nat_eq world old) refl
    where
      same : same_filesystem nat_eq world old to.parent ≡ true
      same = eq-eqb _ _ (cc (old_is.0, one_mount))

      under : is_directory_under nat_eq (files_at nat_eq world old) old.node to.parent.node ≡ true
      under = cc (old_is.0, under_seen files trees to.parent.node to_directory to_reached old.node names e)

      start_directory : (list : List (List ℕ)) → led files.tree old.node list ≡ Some to.parent.node
          → IsDirectory files.tree old.node
      start_directory [] h = subst (IsDirectory files.tree) (sym (same_Some old.node to.parent.node h)) to_directory
      start_directory (name ∷ list) h =
          let step = found (λ next. led files.tree next list) (entry_at files.tree old.node name) to.parent.node h in
          directory_from_entry name step.0 (files.tree.node old.node) step.1

      by : (b : Bool) → is_directory_at nat_eq world old ≡ b → ⊥
      by true is = true≢false (sym (and_from_three _ _ _ is same under) ∙ passed.1.1.1.0)
      by false is = true≢false (sym (start_directory names e) ∙ ap is_directory_node (sym old_node_in) ∙ is)

  moves_other : entry_at files.tree to.parent.node (name_of to.last) ≢ Some old.node
  moves_other entry = true≢false (sym (and_from _ _
      (eq-eqb _ _ (ap (λ m. (mount_at nat_eq world (record { mount = m; node = 0 })).filesystem)
      (old_is.0 ∙ one_mount))) (eq-eqb old.node old.node refl))
      ∙ ap (is_one_object nat_eq world old) (sym (new_object old.node entry)) ∙ other)

  moves_empty : (number : ℕ) → entry_at files.tree to.parent.node (name_of to.last) ≡ Some number
      → entries_in (files.tree.node number) ≡ []
  moves_empty number entry = by (is_directory_at nat_eq world old) refl
    where
      here : to.object ≡ Some (record { mount = to.parent.mount; node = number })
      here = new_object number entry

      seen : node_at nat_eq world (record { mount = to.parent.mount; node = number }) ≡ files.tree.node number
      seen = ap (λ (f : FileTree ℕ). f.tree.node number) to_files

      by : (b : Bool) → is_directory_at nat_eq world old ≡ b → entries_in (files.tree.node number) ≡ []
      by true is = ap entries_in (sym seen) ∙ nil_from_not_some _
          (ap (λ b. b && is_nonempty nat_eq world (record { mount = to.parent.mount; node = number })) (sym is) ∙ ap
          (λ o. is_directory_at nat_eq world old && holds_of (is_nonempty nat_eq world) o) (sym here) ∙ passed.1.1.0)
      by false is = ap entries_in (sym seen) ∙ entries_in-no_directory _
          (ap (λ b. not b && is_directory_at nat_eq world (record { mount = to.parent.mount; node = number })) (sym is)
          ∙ ap (λ o. not (is_directory_at nat_eq world old) && holds_of (is_directory_at nat_eq world) o) (sym here)
          ∙ passed.0)

  pub may_move : MayMove files.tree from.parent.node (name_of from.last) to.parent.node (name_of to.last) old.node
  may_move = grind (arith, common_steps, old_is, to_directory, to_reached, moves_not_under, moves_other, moves_empty)
