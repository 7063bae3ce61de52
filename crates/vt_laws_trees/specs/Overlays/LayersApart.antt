-- Layers of live overlays stand apart after a change of one: the kernel's overlayfs document, "sharing and copying
-- layers".
use Rattle.std.specs.Prelude.{All, Some, false, nat_eq, ℕ, ◌≡◌}
use Rattle.std.specs.List.{list_any}
use Rattle.vt_spec.specs.Language.Changes.{Change}
use Rattle.vt_spec.specs.Lists.{Fresh, any_pair}
use Rattle.vt_spec.specs.Machine.Filesystems.{merge_of, stack_of, with_change}
use Rattle.vt_spec.specs.Machine.Invariants.{IsWorld, OverlayInvariants, TreeInvariants, live_lowers, overlap}
use Rattle.vt_spec.specs.Machine.Locked.{live_upper_and_work, overlaps_one_of}
use Rattle.vt_spec.specs.Machine.Mounts.{Location}
use Rattle.vt_spec.specs.Machine.World.{Filesystem, Layer, Overlay, World, filesystem_at, filesystem_numbered}
use Rattle.vt_spec.specs.TreeInvariant.{IsReached}
use Rattle.vt_laws_trees.specs.Trees.{IsFileTree}
use Rattle.vt_laws_trees.specs.Trees.Sizes.{IsFitChange}
use Rattle.vt_laws_trees.specs.Layers.Layers.Locked.{AreNoInodes}
use Rattle.vt_laws_trees.specs.Overlays.WholeChanges.{IsAskedWell}

-- no two layers that changes write to have an inode in common, nor has one of them with a lower layer of a live
-- overlay: what the invariants of overlays say of it
pub record StandApart (world : World ℕ) : Type 0 where
  pub changed : any_pair (overlap nat_eq world) (live_upper_and_work world) ≡ false
  pub lowers : list_any (overlaps_one_of nat_eq world (live_lowers nat_eq world)) (live_upper_and_work world) ≡ false

-- They stand apart after a change of an overlay that asks for what it may, by numbers that no inode has.
abbrev pub LayersStayApart : Type 0
LayersStayApart =
    (fresh : Fresh ℕ) (world : World ℕ) (location : Location ℕ) (change : Change ℕ) (overlay : Overlay ℕ)
    (upper : Layer ℕ)
    → IsWorld nat_eq world
    → (filesystem_at nat_eq world location).overlay ≡ Some overlay → overlay.upper ≡ Some upper
    → ((j k : ℕ) → fresh j ≡ fresh k → j ≡ k) → ((filesystem : ℕ) → AreNoInodes fresh world filesystem)
    → IsAskedWell (stack_of nat_eq world overlay upper)
    (merge_of nat_eq world (filesystem_at nat_eq world location) overlay upper) change
    → StandApart (with_change nat_eq fresh world location change)

-- All invariants of overlays hold after it.
abbrev pub OverlayInvariantsStay : Type 0
OverlayInvariantsStay =
    (fresh : Fresh ℕ) (world : World ℕ) (location : Location ℕ) (change : Change ℕ) (overlay : Overlay ℕ)
    (upper : Layer ℕ)
    → IsWorld nat_eq world
    → (filesystem_at nat_eq world location).overlay ≡ Some overlay → overlay.upper ≡ Some upper
    → ((j k : ℕ) → fresh j ≡ fresh k → j ≡ k) → ((filesystem : ℕ) → AreNoInodes fresh world filesystem)
    → IsAskedWell (stack_of nat_eq world overlay upper)
    (merge_of nat_eq world (filesystem_at nat_eq world location) overlay upper) change
    → OverlayInvariants nat_eq (with_change nat_eq fresh world location change)

-- Each filesystem is a tree after it, with the numbers of its inodes beside it, has a number of its own, and what lost
-- its name is its own parent; and names lead to the directory of the upper layer.
pub record TreesAfter (world : World ℕ) (upper : Layer ℕ) : Type 0 where
  pub trees : All (λ filesystem. IsFileTree filesystem.files) world.filesystems
  pub one_filesystem : any_pair (λ (a b : Filesystem ℕ). nat_eq a.number b.number) world.filesystems ≡ false
  pub reached : IsReached (filesystem_numbered nat_eq world upper.filesystem).files.tree upper.directory

abbrev pub TreesStay : Type 0
TreesStay =
    (fresh : Fresh ℕ) (world : World ℕ) (location : Location ℕ) (change : Change ℕ) (overlay : Overlay ℕ)
    (upper : Layer ℕ)
    → IsWorld nat_eq world
    → (filesystem_at nat_eq world location).overlay ≡ Some overlay → overlay.upper ≡ Some upper
    → ((j k : ℕ) → fresh j ≡ fresh k → j ≡ k) → ((filesystem : ℕ) → AreNoInodes fresh world filesystem)
    → IsAskedWell (stack_of nat_eq world overlay upper)
    (merge_of nat_eq world (filesystem_at nat_eq world location) overlay upper) change
    → TreesAfter (with_change nat_eq fresh world location change) upper

-- All invariants of trees hold after it, where what it gives is within the limits of names, texts and files.
abbrev pub TreeInvariantsStay : Type 0
TreeInvariantsStay =
    (fresh : Fresh ℕ) (world : World ℕ) (location : Location ℕ) (change : Change ℕ) (overlay : Overlay ℕ)
    (upper : Layer ℕ)
    → IsWorld nat_eq world
    → (filesystem_at nat_eq world location).overlay ≡ Some overlay → overlay.upper ≡ Some upper
    → ((j k : ℕ) → fresh j ≡ fresh k → j ≡ k) → ((filesystem : ℕ) → AreNoInodes fresh world filesystem)
    → IsAskedWell (stack_of nat_eq world overlay upper)
    (merge_of nat_eq world (filesystem_at nat_eq world location) overlay upper) change
    → IsFitChange change → TreeInvariants nat_eq (with_change nat_eq fresh world location change)
