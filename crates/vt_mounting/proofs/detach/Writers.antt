-- Descriptors that are open for writing are in no overlay, after an event, too.
use Rattle.std.proofs.Common.{ℕ}
use Rattle.vt_spec.proofs.Common.{Fresh, Permit, Task, World}
use Rattle.vt_mounting.proofs.Common.{IsGiven, IsGivenToTask, IsHeld, WorldValue, WritersHaveLayers, world_of}
use Rattle.vt_laws_worlds.proofs.overlays_read.Kept.{permits_keep_writers}
use Rattle.vt_mounting.specs.Detach.Events.{left_by, supply_of}

pub to_task : (world : World ℕ) (fresh : Fresh ℕ) (task : Task ℕ) (permit : Permit ℕ)
    → IsGiven fresh world task permit → IsGivenToTask fresh world task permit
to_task world fresh task permit given = record {
  serves = given.serves;
  called = given.called;
  call = given.call;
  few_groups = given.few_groups;
  judged = given.judged;
}

-- a permit leaves it so
pub left_writers : (value : WorldValue) → IsHeld value → (task : Task ℕ) (permit : Permit ℕ)
    → IsGiven (supply_of value permit) (world_of value) task permit → WritersHaveLayers (left_by value task permit)
left_writers value held task permit given =
    (permits_keep_writers (world_of value) (supply_of value permit) task permit held.in_world held.overlays.writers
    (to_task (world_of value) (supply_of value permit) task permit given)).1
