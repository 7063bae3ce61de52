-- What plans of removals make of the upper layer's tree, as the definitions see it: unlink(2), rmdir(2); the kernel's
-- overlayfs document, "whiteouts and opaque directories".
use Rattle.std.specs.Prelude.{List, [], false, true, ℕ, ◌++◌, ◌∷◌, ◌≡◌}
use Rattle.vt_spec.specs.Language.Changes.Change.{Remove}
use Rattle.vt_spec.specs.Lists.{Fresh, evens, odds}
use Rattle.vt_spec.specs.Machine.CopyUp.{Merge, whiteout_of}
use Rattle.vt_spec.specs.Rights.{Credentials}
use Rattle.vt_births.specs.Births.{BirthsValue}
use Rattle.vt_copyup.specs.Planned.{stack_of}
use Rattle.vt_fs.specs.FilesystemsValue.{Filesystems, files_at}
use Rattle.vt_laws_trees.specs.Overlays.WhatIsShown.{IsWhole}
use Rattle.vt_laws_trees.specs.Overlays.WholeChanges.{IsAskedWell}
use Rattle.vt_laws_worlds.specs.Merging.UpperCalls.{changed_above}
use Rattle.vt_laws_worlds.specs.Merging.UpperCalls.ChangeAt.{RemoveAt}
use Rattle.vt_laws_worlds.specs.Merging.UpperChanges.{AreNew, LeadsToDirectory}
use Rattle.vt_location.specs.declared.locations.InodeRef.{InodeRef}
use Rattle.vt_location.specs.declared.numbers.FilesystemId.{FilesystemId}
use Rattle.vt_location.specs.Locations.{inode_of}
use Rattle.vt_overlay.specs.declared.merge.layers.LayerRef.{LayerRef}
use Rattle.vt_upper.specs.Below.{is_shown_below}
use Rattle.vt_upper.specs.New.{IsNameGone, IsNameReady, IsNewMade, IsPlaceReady, LosesNoName, leaves_in, made_in_place, start_of}
use Rattle.vt_upper.specs.NewLaws.{IsPlaceAt}
use Rattle.vt_upper.specs.declared.making.Place.{Place}

-- A name is removed as a change asks that is good for a whole overlay. Lower layers show something there, and a whiteout of
-- the mounter hides it: each inode of the upper layer's tree is then that after the change by the definitions, but for what
-- had the name and what was in it, which go if nothing uses them.
abbrev pub NamesAreHidden : Type 0
NamesAreHidden =
    (fresh : Fresh ℕ) (mounter : Credentials) (merge : Merge ℕ) (trees promised : Filesystems) (upper : LayerRef)
    (lowers : List LayerRef) (overlay : FilesystemId) (path : List (List ℕ)) (directory removed : ℕ) (name : List ℕ)
    (place : Place) (births : BirthsValue) (room : ℕ) (after : Filesystems) (births_after : BirthsValue)
    (white : InodeRef)
    → IsWhole (stack_of trees upper lowers mounter) merge → AreNew fresh merge.upper
    → (start_of place).filesystem ≡ upper.directory.filesystem
    → merge.upper ≡ files_at trees (start_of place).filesystem.count
    → merge.upper ≡ files_at promised (start_of place).filesystem.count
    → LeadsToDirectory merge path directory
    → IsAskedWell (stack_of trees upper lowers mounter) merge (Remove directory name removed)
    → is_shown_below trees upper lowers (path ++ name ∷ []) ≡ true
    → IsPlaceReady place name promised births room
    → (new : IsNewMade place (made_in_place place name (whiteout_of mounter)) promised births after births_after white)
    → IsPlaceAt (evens fresh) trees upper lowers overlay path new.made.made place → inode_of white ≡ odds fresh 0
    → (inode : ℕ) → LosesNoName merge.upper.tree (leaves_in place) inode
    → (files_at after (start_of place).filesystem.count).tree.node inode
    ≡ (changed_above fresh (stack_of trees upper lowers mounter) merge.upper (RemoveAt path name)).tree.node inode

-- So where they show nothing there: then nothing gets the name.
abbrev pub NamesAreGone : Type 0
NamesAreGone =
    (fresh : Fresh ℕ) (mounter : Credentials) (merge : Merge ℕ) (trees promised : Filesystems) (upper : LayerRef)
    (lowers : List LayerRef) (overlay : FilesystemId) (path : List (List ℕ)) (directory removed : ℕ) (name : List ℕ)
    (place : Place) (births : BirthsValue) (room : ℕ) (after : Filesystems) (births_after : BirthsValue)
    → IsWhole (stack_of trees upper lowers mounter) merge → AreNew fresh merge.upper
    → (start_of place).filesystem ≡ upper.directory.filesystem
    → merge.upper ≡ files_at trees (start_of place).filesystem.count
    → merge.upper ≡ files_at promised (start_of place).filesystem.count
    → LeadsToDirectory merge path directory
    → IsAskedWell (stack_of trees upper lowers mounter) merge (Remove directory name removed)
    → is_shown_below trees upper lowers (path ++ name ∷ []) ≡ false
    → IsNameReady place name promised births room
    → (gone : IsNameGone place name promised births after births_after)
    → IsPlaceAt (evens fresh) trees upper lowers overlay path gone.made.made place
    → (inode : ℕ) → LosesNoName merge.upper.tree (leaves_in place) inode
    → (files_at after (start_of place).filesystem.count).tree.node inode
    ≡ (changed_above fresh (stack_of trees upper lowers mounter) merge.upper (RemoveAt path name)).tree.node inode
