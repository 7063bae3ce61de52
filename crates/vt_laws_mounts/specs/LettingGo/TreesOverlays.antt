-- What goes when trees change in worlds with overlays: a call on an overlay changes its merged tree, the real objects
-- of its inodes, and the tree of its upper layer. unlink(2), rmdir(2), rename(2), the kernel's overlayfs document.
use Rattle.std.specs.Prelude.{All, List, [], false, flat_map, map, nat_eq, true, ℕ, ◌++◌, ◌||◌, ◌≡◌}
use Rattle.std.specs.List.{list_all}
use Rattle.vt_spec.specs.FileTree.{FileTree}
use Rattle.vt_spec.specs.Lists.{any_pair, is_among}
use Rattle.vt_spec.specs.Machine.Detach.{taken_away}
use Rattle.vt_spec.specs.Machine.Locked.{of_overlay}
use Rattle.vt_spec.specs.Machine.Mounts.{Location}
use Rattle.vt_spec.specs.Machine.Settled.{named_in, objects_of_overlay, settled, without_dead_filesystems, without_dead_mounts}
use Rattle.vt_spec.specs.Machine.World.{Filesystem, Task, World, filesystem_numbered, is_overlay, layers_of}
use Rattle.vt_laws_mounts.specs.LettingGo.InUse.{HasTrees, UppersArePlain}
use Rattle.vt_laws_mounts.specs.LettingGo.Leaving.{only_these_are_left, with_tasks}
use Rattle.vt_laws_mounts.specs.LettingGo.LeavingOverlays.{IsSettled, used_with_layers}
use Rattle.vt_laws_mounts.specs.LettingGo.MountingOverlays.{used_by_gone_with_layers}
use Rattle.vt_laws_mounts.specs.LettingGo.OneByOne.{Inode, Losers, is_inode_among}
use Rattle.vt_laws_mounts.specs.LettingGo.Overlays.{RealsAreThere, let_go_all, let_go_all_inodes}
use Rattle.vt_laws_mounts.specs.LettingGo.TreeChanges.{ChangesTree, with_tree}

-- the world with each filesystem changed
abbrev pub with_filesystems : World ℕ → (Filesystem ℕ → Filesystem ℕ) → World ℕ
with_filesystems world change = record world { filesystems = map change world.filesystems }

-- the inodes of a filesystem that are real objects of inodes of overlays
abbrev pub upper_objects : World ℕ → ℕ → List ℕ
upper_objects world number = flat_map (objects_of_overlay nat_eq number) world.filesystems

-- A change of a filesystem, the world after it, and the inodes that may have lost their last name or overlay by it
pub record ChangesFilesystem (after : World ℕ) (lost : List Inode) (old new : Filesystem ℕ) : Type 0 where
  pub number : new.number ≡ old.number
  pub root : new.files.tree.root ≡ old.files.tree.root
  pub layers : of_overlay [] layers_of new ≡ of_overlay [] layers_of old
  -- an inode was there before, has a name, or is a real object
  pub inodes : list_all (λ number.
      is_among nat_eq number old.files.numbers || is_among nat_eq number (named_in new.files)
      || is_among nat_eq number (upper_objects after new.number)) new.files.numbers ≡ true
  -- what had a name has one still, or is among these
  pub names : list_all (λ number. is_among nat_eq number (named_in new.files) || is_inode_among old.number number lost)
      (named_in old.files) ≡ true
  -- so of the real objects of an overlay in each filesystem
  pub objects : (number : ℕ) → list_all (λ object.
      is_among nat_eq object (objects_of_overlay nat_eq number new) || is_inode_among number object lost)
      (objects_of_overlay nat_eq number old) ≡ true

-- Where filesystems change, of the inodes that may have lost their last name or overlay those go that nothing uses,
-- with their real objects. Nothing else goes.
abbrev pub ChangedTreesLetGo : Type 0
ChangedTreesLetGo =
    (world : World ℕ) (change : Filesystem ℕ → Filesystem ℕ) (lost : List Inode) → IsSettled world
    → HasTrees (with_filesystems world change) → UppersArePlain (with_filesystems world change)
    → RealsAreThere (with_filesystems world change)
    → All (λ filesystem. ChangesFilesystem (with_filesystems world change) lost filesystem
    (change filesystem)) world.filesystems
    → settled nat_eq (with_filesystems world change) ≡ let_go_all_inodes (with_filesystems world change) lost

-- Where no inode lost a name or an overlay, nothing goes.
abbrev pub ChangedTreesKeepAll : Type 0
ChangedTreesKeepAll =
    (world : World ℕ) (change : Filesystem ℕ → Filesystem ℕ) → IsSettled world
    → HasTrees (with_filesystems world change) → UppersArePlain (with_filesystems world change)
    → RealsAreThere (with_filesystems world change)
    → All (λ filesystem. ChangesFilesystem (with_filesystems world change) [] filesystem
    (change filesystem)) world.filesystems
    → settled nat_eq (with_filesystems world change) ≡ with_filesystems world change

-- A plain tree may be a layer of overlays: an inode that loses its last name stays while one of them has it.
abbrev pub UnnamedGoWithOverlays : Type 0
UnnamedGoWithOverlays =
    (world : World ℕ) (number : ℕ) (files : FileTree ℕ) (unnamed : List ℕ) → IsSettled world
    → any_pair (λ (a b : Filesystem ℕ). nat_eq a.number b.number) world.filesystems ≡ false
    → is_among nat_eq number (map (λ filesystem. filesystem.number) world.filesystems) ≡ true
    → is_overlay (filesystem_numbered nat_eq world number) ≡ false
    → ChangesTree (filesystem_numbered nat_eq world number).files files unnamed
    → settled nat_eq (with_tree world number files)
    ≡ let_go_all_inodes (with_tree world number files) (map (λ inode. (number, inode)) unnamed)

-- the world without mounts and filesystems that nothing uses
abbrev pub in_use_of : World ℕ → World ℕ
in_use_of world = without_dead_filesystems nat_eq (without_dead_mounts nat_eq world)

-- with more inodes that may have lost uses
abbrev pub with_lost : Losers → List Inode → Losers
with_lost losers lost = record losers { inodes = losers.inodes ++ lost }

-- Where mounts are taken away and filesystems change in one call, that goes of what both took uses from which nothing
-- uses any more: rmdir(2) and rename(2) take the mounts on the directory that they remove or replace.
abbrev pub TakenAndChangedLetsGo : Type 0
TakenAndChangedLetsGo =
    (world : World ℕ) (gone : List ℕ) (change : Filesystem ℕ → Filesystem ℕ) (lost : List Inode) → IsSettled world
    → HasTrees (with_filesystems (taken_away nat_eq world gone) change)
    → UppersArePlain (with_filesystems (taken_away nat_eq world gone) change)
    → RealsAreThere (with_filesystems (taken_away nat_eq world gone) change)
    → All (λ filesystem.
    ChangesFilesystem (in_use_of (with_filesystems (taken_away nat_eq world gone) change)) lost filesystem
    (change filesystem))
    world.filesystems
    → settled nat_eq (with_filesystems (taken_away nat_eq world gone) change)
    ≡ let_go_all (with_filesystems (taken_away nat_eq world gone) change)
    (with_lost (used_by_gone_with_layers world gone) lost)

-- Where tasks go to other locations and filesystems change in one call: the same, of the locations that were left.
abbrev pub LeftAndChangedLetsGo : Type 0
LeftAndChangedLetsGo =
    (world : World ℕ) (tasks : List (Task ℕ)) (left : List (Location ℕ)) (change : Filesystem ℕ → Filesystem ℕ)
    (lost : List Inode) → IsSettled world → only_these_are_left world tasks left ≡ true
    → HasTrees (with_filesystems (with_tasks world tasks) change)
    → UppersArePlain (with_filesystems (with_tasks world tasks) change)
    → RealsAreThere (with_filesystems (with_tasks world tasks) change)
    → All (λ filesystem.
    ChangesFilesystem (in_use_of (with_filesystems (with_tasks world tasks) change)) lost filesystem
    (change filesystem))
    world.filesystems
    → settled nat_eq (with_filesystems (with_tasks world tasks) change)
    ≡ let_go_all (with_filesystems (with_tasks world tasks) change) (with_lost (used_with_layers world left) lost)

-- A call by which no location, no name and no overlay was lost leaves all: open(2) that makes or copies up a file.
abbrev pub OpenedKeepsAll : Type 0
OpenedKeepsAll =
    (world : World ℕ) (tasks : List (Task ℕ)) (change : Filesystem ℕ → Filesystem ℕ)
    → IsSettled world → only_these_are_left world tasks [] ≡ true
    → HasTrees (with_filesystems (with_tasks world tasks) change)
    → UppersArePlain (with_filesystems (with_tasks world tasks) change)
    → RealsAreThere (with_filesystems (with_tasks world tasks) change)
    → All (λ filesystem.
    ChangesFilesystem (in_use_of (with_filesystems (with_tasks world tasks) change)) [] filesystem (change filesystem))
    world.filesystems
    → settled nat_eq (with_filesystems (with_tasks world tasks) change)
    ≡ with_filesystems (with_tasks world tasks) change
