-- What a permit leaves of an overlay through which it changes nothing: the kernel's overlayfs document, "upper and
-- lower" and "changes to underlying filesystems".
use Rattle.std.specs.Prelude.{List, None, Option, Some, filter, map, if◌then◌else◌, nat_eq, nat_lt, true, ℕ, ◌≡◌, ◌≢◌}
use Rattle.vt_spec.specs.Language.Changes.{Change}
use Rattle.vt_spec.specs.Lists.{Fresh}
use Rattle.vt_spec.specs.Machine.Invariants.{IsWorld, number_at_path}
use Rattle.vt_spec.specs.Machine.Mounts.{Location}
use Rattle.vt_spec.specs.Machine.Permits.{Permit}
use Rattle.vt_spec.specs.Machine.Settled.{is_mounted}
use Rattle.vt_spec.specs.Machine.World.{Overlay, Real, Task, World, filesystem_numbered, is_overlay, mount_at}
use Rattle.vt_laws_trees.specs.Overlays.MergedTrees.{IsNamedBy}
use Rattle.vt_laws_trees.specs.Overlays.TreesSeen.{AreNoLarger, real_seen, tree_seen}
use Rattle.vt_laws_worlds.specs.Given.LeftWorlds.{IsGivenToTask}
use Rattle.vt_laws_worlds.specs.OverlayPermits.Asked.{change_asked}
use Rattle.vt_laws_worlds.specs.OverlayPermits.Through.{LayersStay}
use Rattle.vt_laws_worlds.specs.Permits.Left.{IsGiven, left_by}
use Rattle.vt_laws_kept.specs.Counts.{locations_on, only_staying, real_staying, stays_in}

-- a permit asks for no change of the filesystem of this number
abbrev pub LeavesAlone : Fresh ℕ → World ℕ → Permit ℕ → ℕ → Type 0
LeavesAlone fresh world permit number =
    (location : Location ℕ) (change : Change ℕ) → change_asked fresh world permit ≡ Some (location, change)
    → number ≢ (mount_at nat_eq world location).filesystem

-- what is said of an overlay that such a permit leaves, when what nothing uses is gone
abbrev pub OfLeftAlone : (World ℕ → World ℕ → ℕ → Overlay ℕ → Type 0) → Type 0
OfLeftAlone Said =
    (world : World ℕ) (fresh : Fresh ℕ) (task : Task ℕ) (permit : Permit ℕ) (number : ℕ) (overlay : Overlay ℕ)
    → IsWorld nat_eq world → IsGivenToTask fresh world task permit
    → (filesystem_numbered nat_eq world number).overlay ≡ Some overlay → LeavesAlone fresh world permit number
    → is_overlay (filesystem_numbered nat_eq (left_by fresh world task permit) number) ≡ true
    → Said world (left_by fresh world task permit) number overlay

-- Paths lead from each of its layers, upper, work or lower, where they led, to what is as it was.
abbrev pub LayersAreLeft : Type 0
LayersAreLeft = OfLeftAlone LayersStay

-- It has those of its inodes that stay, as they were, and nothing else.
abbrev pub TreesAreLeft : Type 0
TreesAreLeft =
    OfLeftAlone (λ world left number overlay.
    filesystem_numbered nat_eq left number
    ≡ only_staying (stays_in left (filesystem_numbered nat_eq world number)) (filesystem_numbered nat_eq world
    number))

-- So each path leads where it led, to the inode that was there.
abbrev pub ShownIsLeft : Type 0
ShownIsLeft =
    OfLeftAlone (λ world left number overlay.
    (path : List (List ℕ))
    → (number_at_path (filesystem_numbered nat_eq left number).files path
    ≡ number_at_path (filesystem_numbered nat_eq world number).files path)
    × ((inode : ℕ) → number_at_path (filesystem_numbered nat_eq world number).files path ≡ Some inode
    → (filesystem_numbered nat_eq left number).files.tree.node inode
    ≡ (filesystem_numbered nat_eq world number).files.tree.node inode))

-- what was held without a name, where locations are on it
abbrev pub held_on : World ℕ → ℕ → (ℕ → Option (Real ℕ)) → ℕ → Option (Real ℕ)
held_on left number held inode = if nat_lt 0 (locations_on left number inode) then held inode else None

-- By whatever numbers it was named, it is named by these, with what was held where locations are on it;
abbrev pub NamesAreLeft : Type 0
NamesAreLeft =
    OfLeftAlone (λ world left number overlay.
    (number_of : Real ℕ → ℕ) (held : ℕ → Option (Real ℕ))
    → IsNamedBy number_of held (filesystem_numbered nat_eq world number) overlay
    → IsNamedBy number_of (held_on left number held) (filesystem_numbered nat_eq left number)
    (real_staying (stays_in left (filesystem_numbered nat_eq world number)) overlay))

-- and it is found along the paths of its layers as they are left.
abbrev pub LeftAreSeen : Type 0
LeftAreSeen =
    OfLeftAlone (λ world left number overlay.
    (number_of : Real ℕ → ℕ) (held : ℕ → Option (Real ℕ)) (longest : ℕ)
    → IsNamedBy number_of held (filesystem_numbered nat_eq world number) overlay → AreNoLarger longest left overlay
    → ((filesystem_numbered nat_eq left number).files.tree
    ≡ tree_seen number_of (held_on left number held) longest left overlay)
    × ((real_staying (stays_in left (filesystem_numbered nat_eq world number)) overlay).real
    ≡ real_seen number_of (held_on left number held) longest left overlay))

-- Order

-- the numbers of the overlays of a world, in their order
abbrev pub numbers_of_overlays : World ℕ → List ℕ
numbers_of_overlays world = map (λ merged. merged.number) (filter is_overlay world.filesystems)

-- What any permit leaves of overlays, but for that to mount one, are the mounted ones, in their order.
abbrev pub OverlaysStayInOrder : Type 0
OverlaysStayInOrder =
    (world : World ℕ) (fresh : Fresh ℕ) (task : Task ℕ) (permit : Permit ℕ) → IsWorld nat_eq world
    → IsGiven fresh world task permit
    → filter is_overlay (left_by fresh world task permit).filesystems
    ≡ map (filesystem_numbered nat_eq (left_by fresh world task permit))
    (filter (is_mounted nat_eq (left_by fresh world task permit)) (numbers_of_overlays world))
