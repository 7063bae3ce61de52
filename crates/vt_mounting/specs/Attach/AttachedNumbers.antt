-- The numbers that an attachment takes of the supply that it is handed, whatever groups there are: for each mount of
-- the tree at each part one for its copy, and one for a group.
use Rattle.std.specs.Prelude.{Bool, List, Some, length, nat_eq, true, ℕ, ◌%◌, ◌*◌, ◌+◌, ◌≡◌}
use Rattle.vt_laws_rules.specs.Numbers.{KeepsTo}
use Rattle.vt_laws_worlds.specs.Permits.Left.{left_by}
use Rattle.vt_laws_worlds.specs.Permits.Named.{permit_named}
use Rattle.vt_laws_trees.specs.Runs.Handed.{counts_from, handed_from, is_counted_before}
use Rattle.vt_spec.specs.Language.Calls.{MountFlags}
use Rattle.vt_spec.specs.Machine.Attach.{bind_tree, parts_of}
use Rattle.vt_spec.specs.Machine.Mounts.{Location, Mount, mount_tree}
use Rattle.vt_spec.specs.Machine.NewMounts.{plain_filesystem, with_new_filesystem}
use Rattle.vt_spec.specs.Machine.Permits.Permit.{ToBind, ToMountPlain, ToMove, ToUnshare}
use Rattle.vt_spec.specs.Machine.World.{Task, World, mount_numbered, mounts_of, task_called}
use Rattle.vt_spec.specs.Machine.Invariants.{IsWorld}

abbrev pub numbers_of_parts : World ℕ → Location ℕ → List (Mount ℕ) → ℕ
numbers_of_parts world place tree = 2 * (length (parts_of nat_eq world place) * length tree)

-- with those of the filesystem and its root, which come between them
abbrev pub numbers_of_new_mount : World ℕ → Location ℕ → ℕ
numbers_of_new_mount world place = 2 * (2 * length (parts_of nat_eq world place))

-- The world that a permit leaves keeps to the numbers that the world had and to those that were taken.
abbrev pub BindsKeepToNumbers : Type 0
BindsKeepToNumbers =
    (next : ℕ) (world : World ℕ) (task : Task ℕ) (source place : Location ℕ) (recursive : Bool)
    → task_called world task.name ≡ Some task
    → KeepsTo (is_counted_before next) world
    → permit_named (is_counted_before next) (ToBind source place recursive) ≡ true
    → KeepsTo (is_counted_before (next + numbers_of_parts world place (bind_tree nat_eq world source recursive)))
    (left_by (counts_from next) world task (ToBind source place recursive))

abbrev pub MovesKeepToNumbers : Type 0
MovesKeepToNumbers =
    (next : ℕ) (world : World ℕ) (task : Task ℕ) (mount : ℕ) (place : Location ℕ)
    → task_called world task.name ≡ Some task
    → KeepsTo (is_counted_before next) world → permit_named (is_counted_before next) (ToMove mount place) ≡ true
    → KeepsTo (is_counted_before (next + numbers_of_parts world place
    (mount_tree nat_eq world.mounts (mount_numbered nat_eq world mount))))
    (left_by (counts_from next) world task (ToMove mount place))

abbrev pub NewMountsKeepToNumbers : Type 0
NewMountsKeepToNumbers =
    (next inode : ℕ) → inode % 2 ≡ 0 → (world : World ℕ) (task : Task ℕ) (place : Location ℕ) (flags : MountFlags)
    → task_called world task.name ≡ Some task
    → KeepsTo (is_counted_before next) world → permit_named (is_counted_before next) (ToMountPlain place flags) ≡ true
    → KeepsTo (is_counted_before (next + numbers_of_new_mount
    (with_new_filesystem world (plain_filesystem nat_eq (handed_from next 2 inode))) place))
    (left_by (handed_from next 2 inode) world task (ToMountPlain place flags))

-- So with a new namespace: one for it, and one for the copy of each mount, out of two for each mount.
abbrev pub UnsharesKeepToNumbers : Type 0
UnsharesKeepToNumbers =
    (next : ℕ) (world : World ℕ) (task : Task ℕ) → IsWorld nat_eq world → task_called world task.name ≡ Some task
    → KeepsTo (is_counted_before next) world
    → KeepsTo (is_counted_before (next + 2 * length (mounts_of nat_eq world task.namespace)))
    (left_by (counts_from next) world task ToUnshare)
