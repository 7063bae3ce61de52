-- What a permitted call on an overlay keeps, before what nothing uses is gone.
use Rattle.std.specs.Prelude.{Ok, Some, nat_eq, ℕ, ◌≡◌}
use Rattle.vt_spec.specs.Language.Calls.{Call}
use Rattle.vt_spec.specs.Language.Changes.{Change}
use Rattle.vt_spec.specs.Lists.{Fresh}
use Rattle.vt_spec.specs.Machine.Apply.{apply}
use Rattle.vt_spec.specs.Machine.Filesystems.{with_change}
use Rattle.vt_spec.specs.Machine.Invariants.{IsWorld, OverlayInvariants, TreeInvariants}
use Rattle.vt_spec.specs.Machine.Judge.{judge_in}
use Rattle.vt_spec.specs.Machine.Mounts.{Location}
use Rattle.vt_spec.specs.Machine.Permits.{Permit}
use Rattle.vt_spec.specs.Machine.Run.{Serves}
use Rattle.vt_spec.specs.Machine.World.{Layer, Overlay, Task, World, filesystem_at, task_called}
use Rattle.vt_laws_worlds.specs.OverlayPermits.Asked.{change_asked}
use Rattle.vt_laws_worlds.specs.OverlayPermits.Changed.{numbers_left}

-- A permit that asks for a change leaves the filesystems that the change makes: rmdir(2) and rename(2) take mounts away
-- as well, and open(2) gives a descriptor.
abbrev pub PermitsMakeTheirChange : Type 0
PermitsMakeTheirChange =
    (world : World ℕ) (fresh : Fresh ℕ) (task : Task ℕ) (permit : Permit ℕ) (location : Location ℕ) (change : Change ℕ)
    → change_asked fresh world permit ≡ Some (location, change)
    → (apply nat_eq fresh world task permit).world.filesystems
    ≡ (with_change nat_eq (numbers_left fresh permit) world location change).filesystems

-- In a world that has all invariants a granted call that changes an overlay, before the sweep, leaves all invariants of
-- overlays and of trees.
abbrev pub PermitsKeepOverlayInvariants : Type 0
PermitsKeepOverlayInvariants =
    (world : World ℕ) (fresh : Fresh ℕ) (task : Task ℕ) (call : Call) (permit : Permit ℕ) (location : Location ℕ)
    (change : Change ℕ)
    (overlay : Overlay ℕ) (upper : Layer ℕ)
    → IsWorld nat_eq world → Serves nat_eq world fresh → task_called world task.name ≡ Some task
    → judge_in nat_eq fresh world task call ≡ Ok permit → change_asked fresh world permit ≡ Some (location, change)
    → (filesystem_at nat_eq world location).overlay ≡ Some overlay → overlay.upper ≡ Some upper
    → OverlayInvariants nat_eq (apply nat_eq fresh world task permit).world
    × TreeInvariants nat_eq (apply nat_eq fresh world task permit).world
