-- How many tasks there ever were is no part of the definitions' world: whatever it is, the invariants hold.
use Rattle.std.proofs.Common.{◌≡◌, ℕ}
use Rattle.vt_ns.proofs.Common.{IsHeld, WorldValue}
use Rattle.vt_tasks.specs.TasksValue.{TasksValue}

pub held_with : {value : WorldValue} → IsHeld value → (births : ℕ) → IsHeld (record value { births = births })
held_with whole births = record {
  in_world = whole.in_world;
  groups = whole.groups;
  given = whole.given;
  mounts = whole.mounts;
  filesystems = whole.filesystems;
  own_inodes = whole.own_inodes;
  overlays = record {
    merged = whole.overlays.merged;
    read_only = whole.overlays.read_only;
    writers = whole.overlays.writers;
    named = whole.overlays.named;
    overlays_rise = whole.overlays.overlays_rise;
    all_rise = whole.overlays.all_rise;
    mounts = whole.overlays.mounts;
    own_nodes = whole.overlays.own_nodes;
  };
  namespaces = whole.namespaces;
}

-- the parts of tasks that are the same
pub tasks_are : {a b : TasksValue} → a ≡ b → a.tasks ≡ b.tasks
tasks_are same i = (same i).tasks

pub births_are : {a b : TasksValue} → a ≡ b → a.births ≡ b.births
births_are same i = (same i).births
