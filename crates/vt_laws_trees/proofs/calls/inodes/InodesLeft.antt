-- What each permit leaves of an inode, in worlds without overlays.
use Rattle.std.proofs.Common.{arith, ◌≡◌, refl, sym, subst, ◌∙◌, true≢false, ℕ, nat_eq, eqb-true, eq-eqb, Bool, true, false, cond, List, [], ◌∷◌, ◌++◌, map, find, Option, Some, None, is_some, unwrap_or, All}
use Rattle.vt_spec.proofs.Common.{Change, CopyUp, Filesystem, Fresh, Location, Node, Overlay, Permit, Task, ToChange, ToEnterNamespace, ToExit, ToMake, ToMountOverlay, ToMountPlain, ToOpen, ToOpenNew, ToRemoveDirectory, ToRename, ToSetType, ToUnmount, ToUnmountLazily, ToUnshare, ToWritePart, World, apply, changed, common_steps, deepest_first, evens, files_at, filesystem_at, filesystem_changed, filesystems-taken_away, filesystems-without_replaced, is_copied_up, is_overlay, mount_at, mount_numbered, mount_tree, namespace_entered, new_directory, new_plain, no_filesystem, odds, pwritten, replaced_if_numbered, root_attr, shown-without_replaced, unshared, with_change, with_copy, without_replaced, without_task}
use Rattle.vt_laws_trees.specs.Calls.Inodes.{change_of}
use Rattle.vt_laws_trees.proofs.trees.TreesOfWorlds.{number_numbered, numbered, numbered_anyhow, taken_files}
use Rattle.vt_laws_trees.proofs.trees.ChangesByOthers.{lazily_filesystems, typed_filesystems}
use Rattle.vt_laws_rules.specs.Plain.{IsPlain}

replaced_files : (world : World ℕ) (replaced : Option (Location ℕ)) (location : Location ℕ)
    → files_at nat_eq (without_replaced nat_eq world replaced) location ≡ files_at nat_eq world location
replaced_files world None location = refl
replaced_files world (Some gone) location = taken_files world _ location

module _ (Q : Option (Node ℕ) → Type 0) (number inode : ℕ) where
  abbrev Holds : List (Filesystem ℕ) → Type 0
  Holds list = Q ((numbered number list).files.tree.node inode)

  abbrev found : Bool → Filesystem ℕ → List (Filesystem ℕ) → Filesystem ℕ
  found b one others =
      unwrap_or (cond b (Some one) (find (λ filesystem. nat_eq number filesystem.number) others)) (no_filesystem number)

  -- one filesystem in its place
  replaced_holds : (new : Filesystem ℕ) → (number ≡ new.number → Q (new.files.tree.node inode))
      → (list : List (Filesystem ℕ)) → Holds list → Holds (map (replaced_if_numbered nat_eq new) list)
  replaced_holds new here [] h = h
  replaced_holds new here (first ∷ rest) h = grind (arith, common_steps, eqb-true, eq-eqb, replaced_holds new here rest)

  -- one filesystem more
  added_holds : (new : Filesystem ℕ) → (number ≡ new.number → Q None → Q (new.files.tree.node inode))
      → (list : List (Filesystem ℕ)) → Holds list → Holds (list ++ (new ∷ []))
  added_holds new here [] h = grind (arith, common_steps, eqb-true)
  added_holds new here (first ∷ rest) h = grind (arith, common_steps, added_holds new here rest)

  -- what a change makes of the inode, in the filesystem that it is made in
  abbrev pub ChangeHolds : World ℕ → Location ℕ → Change ℕ → Type 0
  ChangeHolds world location change = number ≡ (mount_at nat_eq world location).filesystem
      → Q ((changed nat_eq (files_at nat_eq world location) change).tree.node inode)

  change_left : (fresh : Fresh ℕ) (world : World ℕ) (location : Location ℕ) (change : Change ℕ) → IsPlain world
      → Holds world.filesystems → ChangeHolds world location change
      → Holds (with_change nat_eq fresh world location change).filesystems
  change_left fresh world location change plain h here = by at.overlay overlay
    where
      at : Filesystem ℕ
      at = filesystem_at nat_eq world location

      shown : ℕ
      shown = (mount_at nat_eq world location).filesystem

      overlay : is_some at.overlay ≡ false
      overlay = numbered_anyhow (λ filesystem. is_overlay filesystem ≡ false) shown world.filesystems plain refl

      by : (o : Option (Overlay ℕ)) → is_some o ≡ false
          → Holds (filesystem_changed nat_eq fresh world at o change).filesystems
      by None e = replaced_holds _ (λ same. here (same ∙ number_numbered shown world.filesystems)) world.filesystems h
      by (Some overlay) e = absurd (true≢false e)

  module _ (fresh : Fresh ℕ) (world : World ℕ) (plain : IsPlain world) (h : Holds world.filesystems) where
    -- what is made by a permit
    abbrev pub MadeBy : Option (Location ℕ × Change ℕ) → Type 0
    MadeBy None = Unit {0}
    MadeBy (Some made) = ChangeHolds world made.0 made.1

    abbrev pub LeftBy : Permit ℕ → Type 0
    LeftBy (ToMountPlain place flags) = number ≡ evens fresh 0 → inode ≡ evens fresh 1
        → Q (Some (record { attr = root_attr; content = new_directory (evens fresh 1) }))
    LeftBy (ToMountOverlay place overlay flags) = ⊥
    LeftBy permit = MadeBy (change_of fresh world permit)

    abbrev same_list : (list : List (Filesystem ℕ)) → list ≡ world.filesystems → Holds list
    same_list list e = subst Holds (sym e) h

    -- a change, where mounts were taken away before
    replaced_left : (replaced : Option (Location ℕ)) (location : Location ℕ) (change : Change ℕ)
        → ChangeHolds world location change
        → Holds (with_change nat_eq fresh (without_replaced nat_eq world replaced) location change).filesystems
    replaced_left replaced location change here =
        change_left fresh (without_replaced nat_eq world replaced) location change
        (subst (All (λ filesystem. is_overlay filesystem ≡ false))
        (sym (filesystems-without_replaced world replaced)) plain)
        (same_list (without_replaced nat_eq world replaced).filesystems (filesystems-without_replaced world replaced))
        (λ same.
        subst (λ files. Q ((changed nat_eq files change).tree.node inode))
        (sym (replaced_files world replaced location)) (here (same ∙ shown-without_replaced world replaced location)))

    copied_left : (copies : Bool) (file : Location ℕ) → Holds (with_copy nat_eq copies fresh world file).filesystems
    copied_left true file = change_left fresh world file (CopyUp file.node) plain h
        (λ same. subst (λ n. Q ((numbered n world.filesystems).files.tree.node inode)) same h)
    copied_left false file = h

    written_left : (file : Location ℕ) (offset : ℕ) (bytes : List ℕ)
        → MadeBy (change_of fresh world (ToWritePart file offset bytes))
        → Holds (pwritten nat_eq fresh world file offset bytes).filesystems
    written_left file offset [] here = h
    written_left file offset (byte ∷ bytes) here = change_left fresh world file _ plain h here

    pub inode_left : (task : Task ℕ) (permit : Permit ℕ) → LeftBy permit
        → Holds (apply nat_eq fresh world task permit).world.filesystems
    inode_left task (ToChange location change) here = change_left fresh world location change plain h here
    inode_left task (ToMake directory name node) here = change_left (odds fresh) world directory _ plain h here
    inode_left task (ToRemoveDirectory parent name directory) here = replaced_left (Some directory) parent _ here
    inode_left task (ToRename from old to new object replaced) here = replaced_left replaced from _ here
    inode_left task (ToOpen file access) here = copied_left (is_copied_up nat_eq world file access) file
    inode_left task (ToOpenNew directory name node access) here =
        change_left (odds fresh) world directory _ plain h here
    inode_left task (ToWritePart file offset bytes) here = written_left file offset bytes here
    inode_left task ToExit here = same_list _ (filesystems-taken_away (without_task world task.name) _)
    inode_left task ToUnshare here = same_list _ (filesystems-taken_away (unshared nat_eq world fresh task) _)
    inode_left task (ToEnterNamespace namespace) here =
        same_list _ (filesystems-taken_away (namespace_entered nat_eq world task namespace) _)
    inode_left task (ToMountPlain place flags) here =
        added_holds (new_plain nat_eq (evens fresh 0) (evens fresh 1)) root world.filesystems h
      where
        root : number ≡ evens fresh 0 → Q None
            → Q ((new_plain nat_eq (evens fresh 0) (evens fresh 1)).files.tree.node inode)
        root same none = grind (arith, common_steps, eqb-true)
    inode_left task (ToMountOverlay place overlay flags) here = absurd here
    inode_left task (ToUnmount mount) here = same_list _ (filesystems-taken_away world _)
    inode_left task (ToUnmountLazily mount) here = same_list _ (lazily_filesystems (deepest_first nat_eq world
        (mount_tree nat_eq world.mounts (mount_numbered nat_eq world mount))) world)
    inode_left task (ToSetType mount word recursive) here =
        same_list _ (typed_filesystems fresh world mount word recursive)
    inode_left task permit here = h
