-- What calls make of the upper layer of an overlay: its files after the call, in terms of layers alone. The kernel's
-- overlayfs document, "upper and lower" and "whiteouts and opaque directories".
use Rattle.std.specs.Prelude.{Bool, List, Ok, Option, Some, [], is_some, nat_eq, true, ℕ, ◌++◌, ◌∷◌, ◌≡◌}
use Rattle.vt_spec.specs.declared.attributes.Attr.{Attr}
use Rattle.vt_spec.specs.FileTree.{FileTree}
use Rattle.vt_spec.specs.Language.Calls.{Access, Call}
use Rattle.vt_spec.specs.Language.Changes.{Change, node_with_attr, node_with_mark}
use Rattle.vt_spec.specs.Language.Changes.Change.{AddName, CopyUp, Make, Move, Remove, SetAttr, SetBytes, SetMark}
use Rattle.vt_spec.specs.Lists.{Fresh, evens, odds}
use Rattle.vt_spec.specs.Machine.Apply.{apply}
use Rattle.vt_spec.specs.Machine.CopyUp.{Merge, Stack, merge_changed}
use Rattle.vt_spec.specs.Machine.Filesystems.{merge_of, stack_of}
use Rattle.vt_spec.specs.Machine.Invariants.{IsWorld, number_at_path}
use Rattle.vt_spec.specs.Machine.Judge.{judge_in}
use Rattle.vt_spec.specs.Machine.Mounts.{Location}
use Rattle.vt_spec.specs.Machine.Policy.{call_outcome}
use Rattle.vt_spec.specs.Machine.Descriptors.{is_copied_up, overwritten}
use Rattle.vt_spec.specs.Machine.Permits.{Permit}
use Rattle.vt_spec.specs.Machine.Permits.Permit.{ToChange, ToMake, ToOpen, ToOpenNew, ToRemoveDirectory, ToRename, ToWritePart}
use Rattle.vt_spec.specs.Machine.World.{Layer, Overlay, Task, World, filesystem_at, filesystem_numbered, node_at}
use Rattle.vt_spec.specs.Tree.{Node, bytes_in, node_with_bytes}
use Rattle.vt_laws_trees.specs.Trees.{MayMove}
use Rattle.vt_laws_trees.specs.Overlays.WhatIsShown.{IsWhole}
use Rattle.vt_laws_trees.specs.Overlays.WholeChanges.{IsAskedWell}
use Rattle.vt_laws_worlds.specs.Merging.UpperChanges.{AreNew, IsAt, LeadsToDirectory, OfCopies, Place, copied_for, copied_to, linked_in, object_of, made_in, moved_in, removed_in, upper_with}

-- a change, by places in place of numbers
pub data ChangeAt : Type 0 where
  MakeAt : (path : List (List ℕ)) → (name : List ℕ) → (node : Node ℕ) → ChangeAt
  LinkAt : (old : Place) → (path : List (List ℕ)) → (name : List ℕ) → ChangeAt
  RemoveAt : (path : List (List ℕ)) → (name : List ℕ) → ChangeAt
  MoveAt : (from : List (List ℕ)) → (old : List ℕ) → (to : List (List ℕ)) → (new : List ℕ) → ChangeAt
  BytesAt : (file : Place) → (bytes : List ℕ) → ChangeAt
  AttrAt : (object : Place) → (attr : Attr) → ChangeAt
  MarkAt : (directory : Place) → (opaque : Bool) → ChangeAt
  CopyAt : (object : Place) → ChangeAt

-- an object is there, at a place
abbrev pub IsThereAt : Merge ℕ → ℕ → Place → Type 0
IsThereAt merge object place = (is_some (merge.files.tree.node object) ≡ true) × IsAt merge object place

-- A change of an overlay is at these places.
pub data Asks (merge : Merge ℕ) : Change ℕ → ChangeAt → Type 0 where
  makes : (path : List (List ℕ)) (directory : ℕ) (name : List ℕ) (number : ℕ) (node : Node ℕ)
      → LeadsToDirectory merge path directory → Asks merge (Make directory name number node) (MakeAt path name node)
  links : (old : Place) (path : List (List ℕ)) (directory object : ℕ) (name : List ℕ)
      → LeadsToDirectory merge path directory → IsThereAt merge object old
      → Asks merge (AddName directory name object) (LinkAt old path name)
  removes : (path : List (List ℕ)) (directory object : ℕ) (name : List ℕ)
      → LeadsToDirectory merge path directory → Asks merge (Remove directory name object) (RemoveAt path name)
  moves : (from_path to_path : List (List ℕ)) (from to object : ℕ) (old new : List ℕ)
      → number_at_path merge.files from_path ≡ Some from → number_at_path merge.files to_path ≡ Some to
      → MayMove merge.files.tree from old to new object
      → Asks merge (Move from old to new object) (MoveAt from_path old to_path new)
  sets_bytes : (file : ℕ) (place : Place) (bytes : List ℕ)
      → IsThereAt merge file place → Asks merge (SetBytes file bytes) (BytesAt place bytes)
  sets_attr : (object : ℕ) (place : Place) (attr : Attr)
      → IsThereAt merge object place → Asks merge (SetAttr object attr) (AttrAt place attr)
  sets_mark : (directory : ℕ) (place : Place) (opaque : Bool)
      → IsThereAt merge directory place → Asks merge (SetMark directory opaque) (MarkAt place opaque)
  copies : (object : ℕ) (place : Place) → IsThereAt merge object place → Asks merge (CopyUp object) (CopyAt place)

-- what it makes of the upper layer's tree
abbrev pub changed_above : Fresh ℕ → Stack ℕ → FileTree ℕ → ChangeAt → FileTree ℕ
changed_above fresh stack upper (MakeAt path name node) =
    made_in (odds fresh) stack upper (copied_to (evens fresh) stack upper path) path name node
changed_above fresh stack upper (LinkAt old path name) =
    linked_in stack (copied_to (odds fresh) stack (copied_for (evens fresh) stack upper old) path)
    (object_of (evens fresh) stack upper old) path name
changed_above fresh stack upper (RemoveAt path name) =
    removed_in (odds fresh) stack upper (copied_to (evens fresh) stack upper path) path name
changed_above fresh stack upper (MoveAt from old to new) =
    moved_in (odds (odds fresh)) stack upper
    (copied_to (evens (odds fresh)) stack (copied_to (evens fresh) stack upper (from ++ old ∷ [])) to) from old to new
changed_above fresh stack upper (BytesAt place bytes) = upper_with fresh stack upper place (node_with_bytes bytes)
changed_above fresh stack upper (AttrAt place attr) = upper_with fresh stack upper place (node_with_attr attr)
changed_above fresh stack upper (MarkAt place opaque) = upper_with fresh stack upper place (node_with_mark opaque)
changed_above fresh stack upper (CopyAt place) = copied_for fresh stack upper place

abbrev pub ChangesAreByLayers : Type 0
ChangesAreByLayers =
    OfCopies (λ fresh stack merge.
    (change : Change ℕ) (at : ChangeAt) → Asks merge change at
    → (merge_changed nat_eq fresh stack merge change).upper ≡ changed_above fresh stack merge.upper at)

-- What is asked well, as the calls' tables of rules see to, is at some places.
abbrev pub AskedChangesHavePlaces : Type 0
AskedChangesHavePlaces =
    (stack : Stack ℕ) (merge : Merge ℕ) (change : Change ℕ) → IsWhole stack merge → IsAskedWell stack merge change
    → (at : ChangeAt) × Asks merge change at

-- The change of a filesystem that a permit makes: at which location, and by which new numbers.
pub data Does (fresh : Fresh ℕ) (world : World ℕ) : Permit ℕ → Location ℕ → Fresh ℕ → Change ℕ → Type 0 where
  does_change : (location : Location ℕ) (change : Change ℕ)
      → Does fresh world (ToChange location change) location fresh change
  does_make : (directory : Location ℕ) (name : List ℕ) (node : Node ℕ)
      → Does fresh world (ToMake directory name node) directory (odds fresh)
      (Make directory.node name (evens fresh 0) node)
  does_open_new : (directory : Location ℕ) (name : List ℕ) (node : Node ℕ) (access : Access)
      → Does fresh world (ToOpenNew directory name node access) directory (odds fresh)
      (Make directory.node name (evens fresh 0) node)
  does_remove : (parent : Location ℕ) (name : List ℕ) (directory : Location ℕ)
      → Does fresh world (ToRemoveDirectory parent name directory) parent fresh
      (Remove parent.node name directory.node)
  does_rename : (from : Location ℕ) (old : List ℕ) (to : Location ℕ) (new : List ℕ) (object : Location ℕ)
      (replaced : Option (Location ℕ))
      → Does fresh world (ToRename from old to new object replaced) from fresh
      (Move from.node old to.node new object.node)
  does_open : (file : Location ℕ) (access : Access) → is_copied_up nat_eq world file access ≡ true
      → Does fresh world (ToOpen file access) file fresh (CopyUp file.node)
  does_write : (file : Location ℕ) (offset byte : ℕ) (bytes : List ℕ)
      → Does fresh world (ToWritePart file offset (byte ∷ bytes)) file fresh
      (SetBytes file.node (overwritten offset (byte ∷ bytes) (bytes_in (node_at nat_eq world file))))

-- The files of the upper layer after a permitted call are those before it, changed by layers alone.
abbrev pub UpperLayersAfterCalls : Type 0
UpperLayersAfterCalls =
    (fresh numbers : Fresh ℕ) (world : World ℕ) (task : Task ℕ) (permit : Permit ℕ) (location : Location ℕ)
    (change : Change ℕ)
    (at : ChangeAt) (overlay : Overlay ℕ) (upper : Layer ℕ)
    → IsWorld nat_eq world → Does fresh world permit location numbers change
    → (filesystem_at nat_eq world location).overlay ≡ Some overlay → overlay.upper ≡ Some upper
    → AreNew numbers (filesystem_numbered nat_eq world upper.filesystem).files
    → Asks (merge_of nat_eq world (filesystem_at nat_eq world location) overlay upper) change at
    → (filesystem_numbered nat_eq (apply nat_eq fresh world task permit).world upper.filesystem).files
    ≡ changed_above numbers (stack_of nat_eq world overlay upper)
    (filesystem_numbered nat_eq world upper.filesystem).files at

-- So after a whole call, before what nothing uses is gone.
abbrev pub UpperLayersAfterWholeCalls : Type 0
UpperLayersAfterWholeCalls =
    (fresh numbers : Fresh ℕ) (world : World ℕ) (task : Task ℕ) (call : Call) (permit : Permit ℕ)
    (location : Location ℕ)
    (change : Change ℕ) (at : ChangeAt) (overlay : Overlay ℕ) (upper : Layer ℕ)
    → IsWorld nat_eq world → judge_in nat_eq fresh world task call ≡ Ok permit
    → Does fresh world permit location numbers change
    → (filesystem_at nat_eq world location).overlay ≡ Some overlay → overlay.upper ≡ Some upper
    → AreNew numbers (filesystem_numbered nat_eq world upper.filesystem).files
    → Asks (merge_of nat_eq world (filesystem_at nat_eq world location) overlay upper) change at
    → (filesystem_numbered nat_eq (call_outcome nat_eq fresh world task call).world upper.filesystem).files
    ≡ changed_above numbers (stack_of nat_eq world overlay upper)
    (filesystem_numbered nat_eq world upper.filesystem).files at
