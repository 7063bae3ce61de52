-- What plans make of the upper layer's tree, as the definitions see it: the kernel's overlayfs document, "upper and
-- lower" (copy_up); chmod(2), chown(2), write(2).
use Rattle.std.specs.Prelude.{List, Some, [], is_some, length, true, ℕ, ◌≡◌}
use Rattle.vt_spec.specs.Lists.{Fresh}
use Rattle.vt_spec.specs.Machine.CopyUp.{Merge, Stack}
use Rattle.vt_spec.specs.Machine.World.Real.{Upper}
use Rattle.vt_spec.specs.Rights.{Credentials}
use Rattle.vt_births.specs.Births.{BirthsValue}
use Rattle.vt_copyup.specs.declared.plans.Plan.{Plan}
use Rattle.vt_copyup.specs.Laws.{AreHanded}
use Rattle.vt_copyup.specs.Planned.{IsPlanOf, stack_of}
use Rattle.vt_copyup.specs.Plans.{AreNested, in_turn}
use Rattle.vt_fs.specs.FilesystemsValue.{Filesystems, files_at}
use Rattle.vt_laws_trees.specs.Overlays.WhatIsShown.{IsWhole}
use Rattle.vt_laws_worlds.specs.Merging.UpperCalls.{ChangeAt, changed_above}
use Rattle.vt_laws_worlds.specs.Merging.UpperCalls.ChangeAt.{AttrAt, BytesAt, CopyAt}
use Rattle.vt_laws_worlds.specs.Merging.UpperChanges.{AreNew, IsAt, Place}
use Rattle.vt_laws_worlds.specs.Merging.UpperChanges.Place.{Named}
use Rattle.vt_location.specs.declared.locations.InodeRef.{InodeRef}
use Rattle.vt_location.specs.declared.numbers.FilesystemId.{FilesystemId}
use Rattle.vt_location.specs.Locations.{inode_of}
use Rattle.vt_overlay.specs.declared.merge.layers.LayerRef.{LayerRef}
use Rattle.vt_upper.specs.Changes.{IsChanged, keeps_bytes, row_of}
use Rattle.vt_upper.specs.declared.changing.ObjectChange.{ObjectChange}
use Rattle.vt_upper.specs.declared.changing.ObjectChange.TheVariants.{Attr, Bytes, Copied}

-- the change of an object at a place
abbrev pub change_at : ObjectChange → Place → ChangeAt
change_at Copied place = CopyAt place
change_at (Attr attr) place = AttrAt place attr
change_at (Bytes bytes) place = BytesAt place bytes.items

-- An object is changed for which a plan has the copies of its path: the upper layer's tree is then that after the change
-- by the definitions, if the copies have the numbers that are handed out.
abbrev pub ChangesBelowAreMade : Type 0
ChangesBelowAreMade =
    (fresh : Fresh ℕ) (mounter : Credentials) (merge : Merge ℕ) (trees promised : Filesystems) (upper : LayerRef)
    (lowers : List LayerRef) (overlay : FilesystemId) (path : List (List ℕ)) (plan : Plan) (change : ObjectChange)
    (births : BirthsValue) (after : Filesystems) (births_after : BirthsValue) (object : InodeRef)
    → IsWhole (stack_of trees upper lowers mounter) merge
    → merge.upper ≡ files_at trees plan.directory.filesystem.count
    → merge.upper ≡ files_at promised plan.directory.filesystem.count → AreNew fresh merge.upper
    → (is : IsPlanOf (keeps_bytes change) trees upper lowers overlay path plan) → AreNested (in_turn plan)
    → (changed : IsChanged plan (row_of change) promised births after births_after object)
    → AreHanded fresh plan.directory.filesystem.count (length is.front) changed.made.made
    → (files_at after plan.directory.filesystem.count).tree
    ≡ (changed_above fresh (stack_of trees upper lowers mounter) merge.upper (change_at change (Named path))).tree

-- So where an object is changed that is in the upper layer: nothing is copied then.
abbrev pub ChangesAboveAreMade : Type 0
ChangesAboveAreMade =
    (fresh : Fresh ℕ) (stack : Stack ℕ) (merge : Merge ℕ) (promised : Filesystems) (plan : Plan)
    (change : ObjectChange) (number : ℕ) (place : Place) (births : BirthsValue) (after : Filesystems)
    (births_after : BirthsValue) (object : InodeRef)
    → IsWhole stack merge → merge.upper ≡ files_at promised plan.directory.filesystem.count
    → is_some (merge.files.tree.node number) ≡ true → IsAt merge number place
    → merge.real number ≡ Some (Upper (inode_of plan.directory)) → in_turn plan ≡ []
    → IsChanged plan (row_of change) promised births after births_after object
    → (files_at after plan.directory.filesystem.count).tree
    ≡ (changed_above fresh stack merge.upper (change_at change place)).tree
