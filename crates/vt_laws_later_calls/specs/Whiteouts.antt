-- What the sweep takes at the end of a call that takes no use away, in every world that has the invariants, with
-- overlays or without: at the most the whiteout that the upper layer of an overlay had at the name that the call gives.
-- mkdir(2), symlink(2), open(2) with O_CREAT, link(2); the kernel's overlayfs document, "whiteouts and opaque
-- directories".
use Rattle.std.specs.Prelude.{Bool, Contains, Err, List, None, Ok, Option, Some, [], false, is_some, map, nat_eq, true, ℕ, ◌≡◌, ◌⊎◌}
use Rattle.std.specs.List.{list_any}
use Rattle.vt_spec.specs.declared.attributes.Kind.TheVariants.{White}
use Rattle.vt_spec.specs.FileTree.{is_kind_in}
use Rattle.vt_spec.specs.Language.Calls.{Call, TaskName, TypeWord}
use Rattle.vt_spec.specs.Language.Calls.Call.{SetType}
use Rattle.vt_spec.specs.Language.Changes.{Change}
use Rattle.vt_spec.specs.Lists.{Fresh}
use Rattle.vt_spec.specs.Machine.Invariants.{IsWorld}
use Rattle.vt_spec.specs.Machine.Judge.{judge_in}
use Rattle.vt_spec.specs.Machine.Judging.{Judgement}
use Rattle.vt_spec.specs.Machine.Mounts.{Location}
use Rattle.vt_spec.specs.Machine.Permits.{Permit}
use Rattle.vt_spec.specs.Machine.Policy.{call_outcome, policy}
use Rattle.vt_spec.specs.Machine.Run.{Serves}
use Rattle.vt_spec.specs.Machine.Settled.{settled}
use Rattle.vt_spec.specs.Machine.World.{Layer, Overlay, Task, World, filesystem_at, filesystem_numbered, is_overlay, task_called}
use Rattle.vt_laws_mounts.specs.LettingGo.InUse.{has_upper_in}
use Rattle.vt_laws_mounts.specs.LettingGo.OneByOne.{Inode}
use Rattle.vt_laws_mounts.specs.LettingGo.Overlays.{let_go_plain}
use Rattle.vt_laws_worlds.specs.OverlaysLetGo.NamesGiven.{replaced_in_upper}
use Rattle.vt_laws_worlds.specs.OverlayPermits.Asked.{change_asked}
use Rattle.vt_laws_later_calls.specs.Ends.{KeepsAllButMasters, sets_type, takes_uses}
use Rattle.vt_laws_trees.specs.Trees.Settling.{inode_in}

-- What the upper layer has at the name that a change gives: of an overlay with an upper layer,
abbrev pub replaced_in : World ℕ → Overlay ℕ → Option (Layer ℕ) → Change ℕ → List Inode
replaced_in world overlay None change = []
replaced_in world overlay (Some upper) change = replaced_in_upper world overlay upper change

-- of a filesystem, in which nothing is replaced if it is plain,
abbrev pub replaced_over : World ℕ → Option (Overlay ℕ) → Change ℕ → List Inode
replaced_over world None change = []
replaced_over world (Some overlay) change = replaced_in world overlay overlay.upper change

-- of the change that a permit asks for, if it asks for one,
abbrev pub replaced_if : World ℕ → Option (Location ℕ × Change ℕ) → List Inode
replaced_if world None = []
replaced_if world (Some made) = replaced_over world (filesystem_at nat_eq world made.0).overlay made.1

-- and of a call, if it is granted: the filesystem and the number of an inode, or nothing.
abbrev pub replaced_as : Fresh ℕ → World ℕ → Judgement ℕ → List Inode
replaced_as fresh world (Ok permit) = replaced_if world (change_asked fresh world permit)
replaced_as fresh world (Err deny) = []

abbrev pub replaced_by : Fresh ℕ → World ℕ → Task ℕ → Call → List Inode
replaced_by fresh world task call = replaced_as fresh world (judge_in nat_eq fresh world task call)

-- a law of each call of a task of the world that takes no use away, granted or refused, and of the world that it leaves
-- before the sweep
abbrev pub OfOtherCalls : (Fresh ℕ → World ℕ → Task ℕ → Call → World ℕ → Type 0) → Type 0
OfOtherCalls Law =
    (world : World ℕ) (fresh : Fresh ℕ) (task : Task ℕ) (call : Call) → IsWorld nat_eq world
    → Serves nat_eq world fresh → task_called world task.name ≡ Some task → takes_uses call ≡ false
    → Law fresh world task call (call_outcome nat_eq fresh world task call).world

-- The sweep is to look at that inode: it goes if nothing uses it, and nothing else goes.
abbrev pub OtherCallsLetWhiteoutsGo : Type 0
OtherCallsLetWhiteoutsGo =
    OfOtherCalls (λ fresh world task call left.
    sets_type call ≡ false → settled nat_eq left ≡ let_go_plain left (replaced_by fresh world task call))

-- an inode is a whiteout, in the filesystem of the upper layer of an overlay of the world
pub record IsWhiteoutOfUpper (world : World ℕ) (inode : Inode) : Type 0 where
  pub merged : ℕ
  pub overlay : Overlay ℕ
  pub upper : Layer ℕ
  pub overlay_there : (filesystem_numbered nat_eq world merged).overlay ≡ Some overlay
  pub upper_there : overlay.upper ≡ Some upper
  pub in_upper : inode.0 ≡ upper.filesystem
  pub white : is_kind_in White (inode_in world inode.0 inode.1) ≡ true

-- What a name of an overlay replaces is a whiteout.
abbrev pub ReplacedAreWhiteouts : Type 0
ReplacedAreWhiteouts =
    OfOtherCalls (λ fresh world task call left.
    (inode : Inode) → Contains (replaced_by fresh world task call) inode → IsWhiteoutOfUpper world inode)

-- So where the upper layer had nothing at the name the sweep leaves all as it is,
abbrev pub OtherCallsKeepAll : Type 0
OtherCallsKeepAll =
    OfOtherCalls (λ fresh world task call left.
    sets_type call ≡ false → replaced_by fresh world task call ≡ [] → settled nat_eq left ≡ left)

-- and where what a granted call changes is on a plain filesystem, with overlays beside.
abbrev pub PlainChangesKeepAll : Type 0
PlainChangesKeepAll =
    OfOtherCalls (λ fresh world task call left.
    (permit : Permit ℕ) (location : Location ℕ) (change : Change ℕ)
    → judge_in nat_eq fresh world task call ≡ Ok permit → change_asked fresh world permit ≡ Some (location, change)
    → is_overlay (filesystem_at nat_eq world location) ≡ false → settled nat_eq left ≡ left)

-- A change of types may take the last member of a group away, and then that group loses its master. Nothing else goes.
abbrev pub AllTypesLeaveAllButMasters : Type 0
AllTypesLeaveAllButMasters =
    (world : World ℕ) (fresh : Fresh ℕ) (task : Task ℕ) (path : List ℕ) (word : TypeWord) (recursive : Bool)
    → IsWorld nat_eq world → Serves nat_eq world fresh → task_called world task.name ≡ Some task
    → KeepsAllButMasters (call_outcome nat_eq fresh world task (SetType path word recursive)).world

-- The sweep leaves a world as it is, but for inodes that may go: mounts, groups, filesystems, and each other inode.
pub record LeavesAllBut (taken : List Inode) (left after : World ℕ) : Type 0 where
  pub mounts : after.mounts ≡ left.mounts
  pub masters : after.master ≡ left.master
  pub filesystems : map (λ f. f.number) after.filesystems ≡ map (λ f. f.number) left.filesystems
  pub inodes : (filesystem number : ℕ)
      → (inode_in after filesystem number ≡ inode_in left filesystem number)
      ⊎ (Contains taken (filesystem, number) × (inode_in after filesystem number ≡ None))

abbrev pub OnlyWhiteoutsAreTaken : Type 0
OnlyWhiteoutsAreTaken =
    OfOtherCalls (λ fresh world task call left.
    sets_type call ≡ false → LeavesAllBut (replaced_by fresh world task call) left (settled nat_eq left))

-- So after every such call of every task an inode that was there, and was no whiteout, or in the filesystem of no upper
-- layer, is there.
abbrev pub OnlyTheseEndOtherInodes : Type 0
OnlyTheseEndOtherInodes =
    (world : World ℕ) (fresh : Fresh ℕ) (name : TaskName) (call : Call) (filesystem number : ℕ)
    → IsWorld nat_eq world → Serves nat_eq world fresh → takes_uses call ≡ false
    → is_some (inode_in world filesystem number) ≡ true
    → (is_kind_in White (inode_in world filesystem number) ≡ false)
    ⊎ (list_any (has_upper_in filesystem) world.filesystems ≡ false)
    → is_some (inode_in (policy nat_eq fresh world name call).world filesystem number) ≡ true
