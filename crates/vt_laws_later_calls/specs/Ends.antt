-- Which calls end an inode, and what the sweep at the end of the other calls takes, in a world that has the invariants,
-- and no overlay.
use Rattle.std.specs.Prelude.{Bool, List, Some, false, is_some, nat_eq, true, ℕ, ◌≡◌}
use Rattle.vt_spec.specs.Language.Calls.{Call, TaskName, TypeWord}
use Rattle.vt_spec.specs.Language.Calls.Call.{Chdir, Chroot, Close, Exit, Lazy, MoveMount, PivotRoot, Rename, Rmdir, SetType, Setns, Umount, Unlink, Unshare}
use Rattle.vt_spec.specs.Lists.{Fresh}
use Rattle.vt_spec.specs.Machine.Policy.{call_outcome, policy}
use Rattle.vt_spec.specs.Machine.Run.{Serves}
use Rattle.vt_spec.specs.Machine.Settled.{settled}
use Rattle.vt_spec.specs.Machine.World.{Task, World, task_called}
use Rattle.vt_spec.specs.Machine.Invariants.{IsWorld}
use Rattle.vt_laws_worlds.specs.Worlds.Kept.{IsPlain}
use Rattle.vt_laws_trees.specs.Trees.Calls.{mounts_overlay}
use Rattle.vt_laws_trees.specs.Trees.Settling.{inode_in}

-- the calls that take a name away, a descriptor, a location of a task, or a mount from where it stands
abbrev pub takes_uses : Call → Bool
takes_uses (Unlink path) = true
takes_uses (Rmdir path) = true
takes_uses (Rename old new) = true
takes_uses (Close descriptor) = true
takes_uses (Chdir path) = true
takes_uses (Chroot path) = true
takes_uses Exit = true
takes_uses Unshare = true
takes_uses (Setns name) = true
takes_uses (MoveMount source path) = true
takes_uses (Umount path) = true
takes_uses (Lazy path) = true
takes_uses (PivotRoot new put) = true
takes_uses call = false

-- After every other call an inode that was there is there.
abbrev pub OnlyTheseEndInodes : Type 0
OnlyTheseEndInodes =
    (world : World ℕ) (fresh : Fresh ℕ) (name : TaskName) (call : Call) (filesystem number : ℕ)
    → IsWorld nat_eq world → IsPlain world → Serves nat_eq world fresh
    → mounts_overlay call ≡ false → takes_uses call ≡ false
    → is_some (inode_in world filesystem number) ≡ true
    → is_some (inode_in (policy nat_eq fresh world name call).world filesystem number) ≡ true

-- the calls that set the type of a mount
abbrev pub sets_type : Call → Bool
sets_type (SetType path word recursive) = true
sets_type call = false

-- the sweep takes nothing of this world but masters of groups
abbrev pub KeepsAllButMasters : World ℕ → Type 0
KeepsAllButMasters left = settled nat_eq left ≡ record left { master = (settled nat_eq left).master }

-- What every other call leaves, granted or refused, the sweep at its end leaves as it is: mounts, filesystems, inodes
-- and groups,
abbrev pub OtherCallsLeaveAll : Type 0
OtherCallsLeaveAll =
    (world : World ℕ) (fresh : Fresh ℕ) (task : Task ℕ) (call : Call) → IsWorld nat_eq world → IsPlain world
    → Serves nat_eq world fresh → task_called world task.name ≡ Some task
    → mounts_overlay call ≡ false → takes_uses call ≡ false → sets_type call ≡ false
    → settled nat_eq (call_outcome nat_eq fresh world task call).world
    ≡ (call_outcome nat_eq fresh world task call).world

-- but after a change of types, which may take the last member of a group away, that group loses its master.
abbrev pub TypesLeaveAllButMasters : Type 0
TypesLeaveAllButMasters =
    (world : World ℕ) (fresh : Fresh ℕ) (task : Task ℕ) (path : List ℕ) (word : TypeWord) (recursive : Bool)
    → IsWorld nat_eq world → IsPlain world → Serves nat_eq world fresh → task_called world task.name ≡ Some task
    → KeepsAllButMasters (call_outcome nat_eq fresh world task (SetType path word recursive)).world
