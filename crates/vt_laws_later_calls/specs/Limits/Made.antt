-- How many mounts a call makes, moves, or gives a type: mount(2), ENOSPC, and unshare(2).
use Rattle.std.specs.Prelude.{Ok, Some, length, nat_eq, ⊤, ℕ, ◌*◌, ◌≡◌, ◌≤◌}
use Rattle.vt_spec.specs.Language.Calls.{Call}
use Rattle.vt_spec.specs.Language.Limits.{most_mounts}
use Rattle.vt_spec.specs.Lists.{Fresh}
use Rattle.vt_spec.specs.Machine.Attach.{bind_tree, parts_of}
use Rattle.vt_spec.specs.Machine.Invariants.{IsWorld}
use Rattle.vt_spec.specs.Machine.Judge.{judge_in}
use Rattle.vt_spec.specs.Machine.Permits.{Permit}
use Rattle.vt_spec.specs.Machine.Permits.Permit.{ToBind, ToMountOverlay, ToMountPlain, ToMove, ToSetType, ToUnshare}
use Rattle.vt_spec.specs.Machine.Types.{named_mounts}
use Rattle.vt_spec.specs.Machine.World.{Task, World, task_called}
use Rattle.vt_laws_mounts.specs.Mounts.Ending.{mount_count}
use Rattle.vt_laws_later_calls.specs.Limits.Room.{tree_of}

-- no more than 4,096 for each namespace
abbrev pub IsFew : World ℕ → ℕ → Type 0
IsFew world many = many ≤ most_mounts * length world.namespaces

-- A permit makes few mounts, one or a whole tree at each part; moves few; gives few a type; or copies few to a new
-- namespace.
abbrev pub MakesFew : World ℕ → Task ℕ → Permit ℕ → Type 0
MakesFew world task (ToMountPlain place flags) = IsFew world (length (parts_of nat_eq world place))
MakesFew world task (ToMountOverlay place overlay flags) = IsFew world (length (parts_of nat_eq world place))
MakesFew world task (ToBind source place recursive) =
    IsFew world (length (parts_of nat_eq world place) * length (bind_tree nat_eq world source recursive))
MakesFew world task (ToMove mount place) =
    IsFew world (length (parts_of nat_eq world place) * length (tree_of world mount))
MakesFew world task (ToSetType mount word recursive) = IsFew world (length (named_mounts nat_eq world mount recursive))
MakesFew world task ToUnshare = IsFew world (mount_count world task.namespace)
MakesFew world task permit = ⊤

-- So does each that a call is granted,
abbrev pub GrantedCallsMakeFew : Type 0
GrantedCallsMakeFew =
    (world : World ℕ) (fresh : Fresh ℕ) (task : Task ℕ) (call : Call) (permit : Permit ℕ) → IsWorld nat_eq world
    → task_called world task.name ≡ Some task → judge_in nat_eq fresh world task call ≡ Ok permit
    → MakesFew world task permit

-- and there are no more namespaces than tasks.
abbrev pub NamespacesHaveTasks : Type 0
NamespacesHaveTasks = (world : World ℕ) → IsWorld nat_eq world → length world.namespaces ≤ length world.tasks
