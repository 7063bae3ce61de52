-- What goes after calls that change an overlay and, at once, take mounts away or open what they made: rmdir(2),
-- rename(2), open(2).
use Rattle.std.specs.Prelude.{Bool, Contains, List, Ok, Some, false, map, nat_eq, not, true, ℕ, ◌&&◌, ◌||◌, ◌≡◌}
use Rattle.std.specs.List.{list_any}
use Rattle.vt_spec.specs.Language.Calls.{Access, Call}
use Rattle.vt_spec.specs.Language.Changes.{Change}
use Rattle.vt_spec.specs.Language.Changes.Change.{Make, Move, Remove}
use Rattle.vt_spec.specs.Lists.{Fresh, evens, is_among, odds}
use Rattle.vt_spec.specs.Machine.Apply.{apply}
use Rattle.vt_spec.specs.Machine.Detach.{mounts_on, taken_away}
use Rattle.vt_spec.specs.Machine.Filesystems.{with_change}
use Rattle.vt_spec.specs.Machine.Judge.{judge_in}
use Rattle.vt_spec.specs.Machine.Mounts.{Location}
use Rattle.vt_spec.specs.Machine.Permits.Permit.{ToMake, ToOpenNew, ToRemoveDirectory, ToRename}
use Rattle.vt_spec.specs.Machine.Settled.{is_located, settled}
use Rattle.vt_spec.specs.Machine.World.{Layer, Overlay, Task, World, mount_at, task_called}
use Rattle.vt_spec.specs.Machine.Invariants.{IsWorld}
use Rattle.vt_spec.specs.Tree.{Node}
use Rattle.vt_laws_mounts.specs.LettingGo.MountingOverlays.{used_by_gone_with_layers}
use Rattle.vt_laws_mounts.specs.LettingGo.Overlays.{let_go_all, let_go_all_inodes}
use Rattle.vt_laws_mounts.specs.LettingGo.TreesOverlays.{with_lost}
use Rattle.vt_laws_mounts.specs.LettingGo.Unmounting.{numbers_of_trees}
use Rattle.vt_laws_worlds.specs.OverlaysLetGo.OverlayChanges.{CanChange, inodes_lost_with_upper}

-- After a call that makes an inode in an overlay at the most that goes which the change leaves: mkdir(2), symlink(2),
-- mknod(2).
abbrev pub MadeInOverlaysLetsGo : Type 0
MadeInOverlaysLetsGo =
    (fresh : Fresh ℕ) (world : World ℕ) (task : Task ℕ) (directory : Location ℕ) (name : List ℕ) (node : Node ℕ)
    (overlay : Overlay ℕ) (upper : Layer ℕ) → IsWorld nat_eq world
    → CanChange (odds fresh) world directory (Make directory.node name (evens fresh 0) node) overlay upper
    → settled nat_eq (apply nat_eq fresh world task (ToMake directory name node)).world
    ≡ let_go_all_inodes (apply nat_eq fresh world task (ToMake directory name node)).world
    (inodes_lost_with_upper (odds fresh) world directory overlay upper (Make directory.node name (evens fresh 0) node))

-- a mount shows the filesystem that is not among these, or that a task is on
abbrev pub keeps_a_mount : World ℕ → List ℕ → ℕ → Bool
keeps_a_mount world gone filesystem =
    list_any (λ mount. nat_eq filesystem mount.filesystem
    && (not (is_among nat_eq mount.number gone) || is_located nat_eq world mount.number)) world.mounts

-- Where mounts are taken away and an overlay changes that keeps a mount, that goes of what both took uses from which
-- nothing uses any more.
abbrev pub TakenAndOverlayChangesLetGo : Type 0
TakenAndOverlayChangesLetGo =
    (fresh : Fresh ℕ) (world : World ℕ) (gone : List ℕ) (location : Location ℕ) (change : Change ℕ)
    (overlay : Overlay ℕ)
    (upper : Layer ℕ) → IsWorld nat_eq world → CanChange fresh world location change overlay upper
    → keeps_a_mount world gone (mount_at nat_eq world location).filesystem ≡ true
    → settled nat_eq (with_change nat_eq fresh (taken_away nat_eq world gone) location change)
    ≡ let_go_all (with_change nat_eq fresh (taken_away nat_eq world gone) location change)
    (with_lost (used_by_gone_with_layers world gone) (inodes_lost_with_upper fresh world location overlay upper change))

-- A granted rmdir takes away no mount that the caller is on: none of its namespace stands on the directory (P1), and
-- its walk led through no other. So the mount of the parent stays.
abbrev pub RemovingKeepsTheMount : Type 0
RemovingKeepsTheMount =
    (fresh : Fresh ℕ) (world : World ℕ) (task : Task ℕ) (call : Call) (parent : Location ℕ) (name : List ℕ)
    (directory : Location ℕ) → IsWorld nat_eq world → task_called world task.name ≡ Some task
    → judge_in nat_eq fresh world task call ≡ Ok (ToRemoveDirectory parent name directory)
    → is_among nat_eq parent.mount (numbers_of_trees world (mounts_on nat_eq world directory)) ≡ false

-- Nor does a rename that replaces an object.
abbrev pub ReplacingKeepsTheMount : Type 0
ReplacingKeepsTheMount =
    (fresh : Fresh ℕ) (world : World ℕ) (task : Task ℕ) (call : Call) (from : Location ℕ) (old : List ℕ)
    (to : Location ℕ)
    (new : List ℕ) (object replaced : Location ℕ) → IsWorld nat_eq world → task_called world task.name ≡ Some task
    → judge_in nat_eq fresh world task call ≡ Ok (ToRename from old to new object (Some replaced))
    → is_among nat_eq from.mount (numbers_of_trees world (mounts_on nat_eq world replaced)) ≡ false

-- So the overlay keeps a mount, and what goes is that of a granted rmdir,
abbrev pub RemovedFromOverlaysLetGo : Type 0
RemovedFromOverlaysLetGo =
    (fresh : Fresh ℕ) (world : World ℕ) (task : Task ℕ) (call : Call) (parent : Location ℕ) (name : List ℕ)
    (directory : Location ℕ) (overlay : Overlay ℕ) (upper : Layer ℕ) → IsWorld nat_eq world
    → task_called world task.name ≡ Some task
    → judge_in nat_eq fresh world task call ≡ Ok (ToRemoveDirectory parent name directory)
    → CanChange fresh world parent (Remove parent.node name directory.node) overlay upper
    → settled nat_eq (apply nat_eq fresh world task (ToRemoveDirectory parent name directory)).world
    ≡ let_go_all (apply nat_eq fresh world task (ToRemoveDirectory parent name directory)).world
    (with_lost (used_by_gone_with_layers world (numbers_of_trees world (mounts_on nat_eq world directory)))
    (inodes_lost_with_upper fresh world parent overlay upper (Remove parent.node name directory.node)))

-- and of a rename that replaces an object.
abbrev pub ReplacedInOverlaysLetGo : Type 0
ReplacedInOverlaysLetGo =
    (fresh : Fresh ℕ) (world : World ℕ) (task : Task ℕ) (call : Call) (from : Location ℕ) (old : List ℕ)
    (to : Location ℕ)
    (new : List ℕ) (object replaced : Location ℕ) (overlay : Overlay ℕ) (upper : Layer ℕ) → IsWorld nat_eq world
    → task_called world task.name ≡ Some task
    → judge_in nat_eq fresh world task call ≡ Ok (ToRename from old to new object (Some replaced))
    → CanChange fresh world from (Move from.node old to.node new object.node) overlay upper
    → settled nat_eq (apply nat_eq fresh world task (ToRename from old to new object (Some replaced))).world
    ≡ let_go_all (apply nat_eq fresh world task (ToRename from old to new object (Some replaced))).world
    (with_lost (used_by_gone_with_layers world (numbers_of_trees world (mounts_on nat_eq world replaced)))
    (inodes_lost_with_upper fresh world from overlay upper (Move from.node old to.node new object.node)))

-- the mount of a location is there
abbrev pub is_on_mount : World ℕ → Location ℕ → Bool
is_on_mount world location = is_among nat_eq location.mount (map (λ mount. mount.number) world.mounts)

-- What a task opens is one use more, so with open(2) of a new file at the most that goes which the change of the
-- overlay leaves.
abbrev pub OpenedNewInOverlaysLetsGo : Type 0
OpenedNewInOverlaysLetsGo =
    (fresh : Fresh ℕ) (world : World ℕ) (task : Task ℕ) (directory : Location ℕ) (name : List ℕ) (node : Node ℕ)
    (access : Access) (overlay : Overlay ℕ) (upper : Layer ℕ) → IsWorld nat_eq world → Contains world.tasks task
    → is_on_mount world directory ≡ true
    → CanChange (odds fresh) world directory (Make directory.node name (evens fresh 0) node) overlay upper
    → settled nat_eq (apply nat_eq fresh world task (ToOpenNew directory name node access)).world
    ≡ let_go_all_inodes (apply nat_eq fresh world task (ToOpenNew directory name node access)).world
    (inodes_lost_with_upper (odds fresh) world directory overlay upper (Make directory.node name (evens fresh 0) node))
