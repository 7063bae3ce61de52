-- The invariants of a world while a call is under way: after its permit is applied, and before what nothing uses is
-- gone.
use Rattle.std.specs.Prelude.{Some, nat_eq, true, ℕ, ◌≡◌}
use Rattle.std.specs.List.{list_all}
pub use Rattle.vt_laws_rules.specs.Plain.{IsPlain}
use Rattle.vt_spec.specs.Machine.Apply.{apply}
use Rattle.vt_spec.specs.Lists.{Fresh}
use Rattle.vt_spec.specs.Machine.Permits.{Permit}
use Rattle.vt_spec.specs.Machine.Run.{Serves}
use Rattle.vt_spec.specs.Machine.Settled.{settled}
use Rattle.vt_spec.specs.Machine.World.{Task, World, task_called}
use Rattle.vt_spec.specs.Machine.Invariants.{IsWorld, MountInvariants, NamespaceInvariants, TaskInvariants, TreeInvariants, has_its_root}
use Rattle.vt_laws_worlds.specs.Worlds.Permits.{IsFitPermit}

-- what mounts show, and where they stand, is there
abbrev pub MountsShow : World ℕ → Type 0
MountsShow world = list_all (has_its_root nat_eq world) world.mounts ≡ true

-- a world of plain filesystems in which something may be left that nothing uses
pub record IsWorldButForUse (world : World ℕ) : Type 0 where
  pub plain : IsPlain world
  pub files : TreeInvariants nat_eq world
  pub mounts : MountInvariants nat_eq world
  pub namespaces : NamespaceInvariants nat_eq world
  pub tasks : TaskInvariants nat_eq world
  pub roots : MountsShow world

-- of any filesystems, with the invariants of overlays left aside
pub record IsUnderWay (world : World ℕ) : Type 0 where
  pub files : TreeInvariants nat_eq world
  pub mounts : MountInvariants nat_eq world
  pub namespaces : NamespaceInvariants nat_eq world
  pub tasks : TaskInvariants nat_eq world
  pub roots : MountsShow world

-- a permit that fits is applied, and the invariant holds
abbrev pub KeptByPermits : (World ℕ → Type 0) → Type 0
KeptByPermits Invariant =
    (world : World ℕ) (fresh : Fresh ℕ) (task : Task ℕ) (permit : Permit ℕ) → IsWorld nat_eq world → IsPlain world
    → Serves nat_eq world fresh → task_called world task.name ≡ Some task → IsFitPermit fresh world task permit
    → Invariant (apply nat_eq fresh world task permit).world

-- so in worlds with overlays, too
abbrev pub KeptByAllPermits : (World ℕ → Type 0) → Type 0
KeptByAllPermits Invariant =
    (world : World ℕ) (fresh : Fresh ℕ) (task : Task ℕ) (permit : Permit ℕ) → IsWorld nat_eq world
    → Serves nat_eq world fresh → task_called world task.name ≡ Some task → IsFitPermit fresh world task permit
    → Invariant (apply nat_eq fresh world task permit).world

-- Where all hold they do when what nothing uses is gone.
abbrev pub SettlingLeavesAWorld : Type 0
SettlingLeavesAWorld = (world : World ℕ) → IsWorldButForUse world
    → IsWorld nat_eq (settled nat_eq world) × IsPlain (settled nat_eq world)
