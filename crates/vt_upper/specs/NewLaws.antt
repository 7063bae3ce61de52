-- What plans of new objects make of the upper layer's tree, as the definitions see it: mkdir(2), symlink(2), open(2) with
-- O_CREAT; the kernel's overlayfs document, "whiteouts and opaque directories".
use Rattle.std.specs.Prelude.{Bool, List, Some, [], length, true, ℕ, ◌++◌, ◌∷◌, ◌≡◌, ◌≢◌}
use Rattle.vt_spec.specs.Language.Changes.{content_with_parent}
use Rattle.vt_spec.specs.Language.Changes.Change.{Make}
use Rattle.vt_spec.specs.Lists.{Fresh, evens, odds}
use Rattle.vt_spec.specs.Machine.CopyUp.{Merge, copied_content}
use Rattle.vt_spec.specs.Machine.Layers.{at_path}
use Rattle.vt_spec.specs.Rights.{Credentials}
use Rattle.vt_spec.specs.Tree.{Node}
use Rattle.vt_births.specs.Births.{BirthsValue}
use Rattle.vt_copyup.specs.Laws.{AreHanded}
use Rattle.vt_copyup.specs.Made.{Made}
use Rattle.vt_copyup.specs.Planned.{IsPlanOf, stack_of}
use Rattle.vt_fs.specs.FilesystemsValue.{Filesystems, files_at}
use Rattle.vt_laws_trees.specs.Overlays.WhatIsShown.{IsWhole}
use Rattle.vt_laws_trees.specs.Overlays.WholeChanges.{IsAskedWell}
use Rattle.vt_laws_worlds.specs.Merging.UpperCalls.{changed_above}
use Rattle.vt_laws_worlds.specs.Merging.UpperCalls.ChangeAt.{MakeAt}
use Rattle.vt_laws_worlds.specs.Merging.UpperChanges.{AreNew, LeadsToDirectory}
use Rattle.vt_location.specs.declared.locations.InodeRef.{InodeRef}
use Rattle.vt_location.specs.declared.numbers.FilesystemId.{FilesystemId}
use Rattle.vt_location.specs.Locations.{inode_of}
use Rattle.vt_overlay.specs.declared.merge.layers.LayerRef.{LayerRef}
use Rattle.vt_overlay.specs.Merge.LayerValue.{layer_of}
use Rattle.vt_upper.specs.Below.{is_directory_below}
use Rattle.vt_upper.specs.Leaving.{within_of}
use Rattle.vt_upper.specs.New.{IsNewMade, IsPlaceReady, leaves_in, made_new, start_of}
use Rattle.vt_upper.specs.declared.making.Place.{Place}
use Rattle.vt_upper.specs.declared.making.Place.TheVariants.{Copied, There}

-- a new inode has no entries and no mark
abbrev pub HasNothing : Node ℕ → Type 0
HasNothing node =
    (directory : ℕ) → content_with_parent directory node.content ≡ copied_content directory node.content

-- A place is that of a directory at a path: the directory as it is in the upper layer, or its copy, of those that have
-- the numbers that are handed out.
abbrev pub IsPlaceAt : Fresh ℕ → Filesystems → LayerRef → List LayerRef → FilesystemId → List (List ℕ) → List Made → Place
    → Type 0
IsPlaceAt fresh trees upper lowers overlay path made (There spot) =
    at_path (layer_of trees upper) path ≡ Some (inode_of spot.directory)
IsPlaceAt fresh trees upper lowers overlay path made (Copied copies room) =
    (is : IsPlanOf true trees upper lowers overlay path copies)
    × AreHanded fresh copies.directory.filesystem.count (length is.front) made

-- A new object is made as a change asks that is good for a whole overlay: each inode of the upper layer's tree is then that
-- after the change by the definitions, but for a whiteout that had the name, which nothing needs any more. A whiteout has no
-- entries.
abbrev pub NewObjectsAreMade : Type 0
NewObjectsAreMade =
    (fresh : Fresh ℕ) (mounter : Credentials) (merge : Merge ℕ) (trees promised : Filesystems) (upper : LayerRef)
    (lowers : List LayerRef) (overlay : FilesystemId) (path : List (List ℕ)) (directory number : ℕ) (name : List ℕ)
    (node : Node ℕ) (place : Place) (opaque : Bool) (births : BirthsValue) (room : ℕ) (after : Filesystems)
    (births_after : BirthsValue) (object : InodeRef)
    → IsWhole (stack_of trees upper lowers mounter) merge → AreNew fresh merge.upper
    → (start_of place).filesystem ≡ upper.directory.filesystem
    → merge.upper ≡ files_at trees (start_of place).filesystem.count
    → merge.upper ≡ files_at promised (start_of place).filesystem.count
    → LeadsToDirectory merge path directory
    → IsAskedWell (stack_of trees upper lowers mounter) merge (Make directory name number node) → HasNothing node
    → opaque ≡ is_directory_below trees upper lowers (path ++ name ∷ [])
    → IsPlaceReady place name promised births room
    → within_of merge.upper.tree (leaves_in place) ≡ []
    → (new : IsNewMade place (made_new place name node opaque) promised births after births_after object)
    → IsPlaceAt (evens fresh) trees upper lowers overlay path new.made.made place → inode_of object ≡ odds fresh 0
    → (inode : ℕ) → leaves_in place ≢ Some inode
    → (files_at after (start_of place).filesystem.count).tree.node inode
    ≡ (changed_above fresh (stack_of trees upper lowers mounter) merge.upper (MakeAt path name node)).tree.node inode
