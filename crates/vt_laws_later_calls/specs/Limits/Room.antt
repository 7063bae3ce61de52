-- Which namespaces have room for what is attached: a namespace holds at most 4,096 mounts; ENOSPC of mount(2).
use Rattle.std.specs.Prelude.{Bool, List, Ok, Some, false, filter, length, nat_eq, nat_lt, not, true, ℕ, ◌*◌, ◌+◌, ◌-◌, ◌≡◌}
use Rattle.std.specs.List.{list_all, list_any}
use Rattle.vt_laws_mounts.specs.Mounts.Attaching.{is_mount}
use Rattle.vt_spec.specs.declared.errors.Rule.TheVariants.{M9}
use Rattle.vt_spec.specs.Errors.{Rules, denial}
use Rattle.vt_spec.specs.Language.Answers.Answer.{Done}
use Rattle.vt_spec.specs.Language.Calls.{MountFlags, TaskName}
use Rattle.vt_spec.specs.Language.Calls.Call.{Bind, MountPlain, MoveMount}
use Rattle.vt_spec.specs.Language.Limits.{most_mounts}
use Rattle.vt_spec.specs.Lists.{Fresh}
use Rattle.vt_spec.specs.Machine.Apply.{overfills}
use Rattle.vt_spec.specs.Machine.Attach.{bind_tree, parts_of}
use Rattle.vt_spec.specs.Machine.Invariants.{IsWorld}
use Rattle.vt_spec.specs.Machine.Looks.{looks_of}
use Rattle.vt_spec.specs.Machine.Mounts.{Location, Mount, mount_tree}
use Rattle.vt_spec.specs.Machine.Rules.Mounting.{bind_rules, destination_walk, move_rules, new_mount_rules, source_walk}
use Rattle.vt_spec.specs.Machine.Outcomes.{Outcome, denied}
use Rattle.vt_spec.specs.Machine.Permits.Permit.{ToBind, ToMountOverlay, ToMountPlain, ToMove}
use Rattle.vt_spec.specs.Machine.Policy.{policy}
use Rattle.vt_spec.specs.Machine.Rules.Conditions.{lacks}
use Rattle.vt_spec.specs.Machine.Walking.{Here}
use Rattle.vt_spec.specs.Machine.World.{Overlay, Task, World, mount_numbered, task_called}
use Rattle.vt_spec.specs.Rights.{cap_sys_admin}
use Rattle.vt_laws_mounts.specs.Mounts.Ending.{is_in, mount_count}

-- how many mounts of a list are in a namespace
abbrev pub how_many_in : ℕ → List (Mount ℕ) → ℕ
how_many_in namespace mounts = length (filter (is_in namespace) mounts)

-- how many parts an attachment has in a namespace: the destination's mount, and the receivers that take part
abbrev pub parts_in : World ℕ → Location ℕ → ℕ → ℕ
parts_in world place namespace = how_many_in namespace (parts_of nat_eq world place)

-- some namespace has no room for so many new mounts at each part in it
abbrev pub lacks_room : World ℕ → Location ℕ → ℕ → Bool
lacks_room world place new =
    list_any (λ namespace.
    nat_lt most_mounts (mount_count world namespace.number + parts_in world place namespace.number * new))
    world.namespaces

-- some namespace has no room for these mounts at each part in it, once those of them that are in it have left
abbrev pub lacks_room_for_moved : World ℕ → Location ℕ → List (Mount ℕ) → Bool
lacks_room_for_moved world place mounts =
    list_any (λ namespace.
    nat_lt most_mounts (mount_count world namespace.number + parts_in world place namespace.number * length mounts
    - how_many_in namespace.number mounts))
    world.namespaces

-- the mount with all its descendants
abbrev pub tree_of : World ℕ → ℕ → List (Mount ℕ)
tree_of world mount = mount_tree nat_eq world.mounts (mount_numbered nat_eq world mount)

-- M9 is asked of an attachment by the room that there is: of a new mount of a plain filesystem,
abbrev pub NewMountsAskForRoom : Type 0
NewMountsAskForRoom =
    (world : World ℕ) (fresh : Fresh ℕ) (task : Task ℕ) (place : Location ℕ) (flags : MountFlags)
    → IsWorld nat_eq world → overfills nat_eq fresh world task (ToMountPlain place flags) ≡ lacks_room world place 1

-- of one of an overlay,
abbrev pub OverlaysAskForRoom : Type 0
OverlaysAskForRoom =
    (world : World ℕ) (fresh : Fresh ℕ) (task : Task ℕ) (place : Location ℕ) (overlay : Overlay ℕ)
    (flags : MountFlags) → IsWorld nat_eq world
    → overfills nat_eq fresh world task (ToMountOverlay place overlay flags) ≡ lacks_room world place 1

-- of a bind, for the mounts that it copies, in any world,
abbrev pub BindsAskForRoom : Type 0
BindsAskForRoom =
    (world : World ℕ) (fresh : Fresh ℕ) (task : Task ℕ) (source place : Location ℕ) (recursive : Bool)
    → overfills nat_eq fresh world task (ToBind source place recursive)
    ≡ lacks_room world place (length (bind_tree nat_eq world source recursive))

-- and of a move of a mount that there is, with those below it.
abbrev pub MovesAskForRoom : Type 0
MovesAskForRoom =
    (world : World ℕ) (fresh : Fresh ℕ) (task : Task ℕ) (mount : ℕ) (place : Location ℕ) → IsWorld nat_eq world
    → is_mount world mount ≡ true
    → overfills nat_eq fresh world task (ToMove mount place) ≡ lacks_room_for_moved world place (tree_of world mount)

-- no rule of a table fails
abbrev pub none_fails : Rules → Bool
none_fails rules = list_all (λ row. not row.0) rules

-- Where a namespace lacks room a call is refused by M9, and changes nothing; else it is granted.
abbrev pub NeedsRoom : World ℕ → Outcome ℕ → Bool → Type 0
NeedsRoom world outcome lacking =
    (lacking ≡ true → outcome ≡ denied world (denial M9)) × (lacking ≡ false → outcome.answer ≡ Ok Done)

-- So it is with a new mount of a plain filesystem, where no other rule refuses it,
abbrev pub NewMountNeedsRoom : Type 0
NewMountNeedsRoom =
    (world : World ℕ) (fresh : Fresh ℕ) (name : TaskName) (task : Task ℕ) (path : List ℕ) (flags : MountFlags)
    (here : Here ℕ) → IsWorld nat_eq world → task_called world name ≡ Some task
    → lacks task cap_sys_admin ≡ false → destination_walk nat_eq (looks_of nat_eq world) task path ≡ Ok here
    → none_fails (new_mount_rules nat_eq (looks_of nat_eq world) task here.location false) ≡ true
    → NeedsRoom world (policy nat_eq fresh world name (MountPlain path flags)) (lacks_room world here.location 1)

-- with a bind, recursive or not,
abbrev pub BindNeedsRoom : Type 0
BindNeedsRoom =
    (world : World ℕ) (fresh : Fresh ℕ) (name : TaskName) (task : Task ℕ) (source path : List ℕ) (recursive : Bool)
    (from here : Here ℕ) → task_called world name ≡ Some task
    → lacks task cap_sys_admin ≡ false → source_walk nat_eq (looks_of nat_eq world) task source ≡ Ok from
    → destination_walk nat_eq (looks_of nat_eq world) task path ≡ Ok here
    → none_fails (bind_rules nat_eq (looks_of nat_eq world) task from.location here.location false) ≡ true
    → NeedsRoom world (policy nat_eq fresh world name (Bind source path recursive))
    (lacks_room world here.location (length (bind_tree nat_eq world from.location recursive)))

-- and with a move.
abbrev pub MoveNeedsRoom : Type 0
MoveNeedsRoom =
    (world : World ℕ) (fresh : Fresh ℕ) (name : TaskName) (task : Task ℕ) (source path : List ℕ) (from here : Here ℕ)
    → IsWorld nat_eq world → task_called world name ≡ Some task
    → lacks task cap_sys_admin ≡ false → source_walk nat_eq (looks_of nat_eq world) task source ≡ Ok from
    → destination_walk nat_eq (looks_of nat_eq world) task path ≡ Ok here
    → none_fails (move_rules nat_eq (looks_of nat_eq world) task from.location here.location false) ≡ true
    → NeedsRoom world (policy nat_eq fresh world name (MoveMount source path))
    (lacks_room_for_moved world here.location (tree_of world from.location.mount))
