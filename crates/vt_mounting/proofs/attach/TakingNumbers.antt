-- The end of an event that takes numbers: mount(2), unshare(2). What is counted next grows by as many counts as it
-- takes.
use Rattle.std.proofs.Common.{◌≡◌, ℕ, ◌+◌, ◌%◌, nat_eq, length, ◌*◌, Some}
use Rattle.vt_spec.proofs.Common.{IsWorld, Permit, Task, TaskName, ToUnshare, mounts_of, task_called}
use Rattle.vt_mounting.proofs.Common.{Among, CountsItsMounts, FilesystemEntry, HasOwnInodes, IsGiven, IsHeld, KeepsTo, WorldValue, all_from_among, any_same_worlds_are_worlds, any_same_worlds_keep_to_numbers, filesystem_seen, given_permits_leave_every_world, given_to_task, inodes_seen, is_counted_before, overlays_seen, same_worlds_have_layers_alike, world_of}
use Rattle.vt_world.proofs.counting.Lowered.{counted_lowered}
use Rattle.vt_laws_worlds.specs.Permits.Taken.{handed_to}
use Rattle.vt_mounting.proofs.detach.Writers.{left_writers}
use Rattle.vt_mounting.specs.Detach.Events.{left_by, supply_of}
use Rattle.vt_mounting.proofs.attach.NumbersByParts.{unshares_keep_to_numbers}
use Rattle.vt_mounting.proofs.detach.Finishing.{CountsBeside}
use Rattle.vt_mounting.proofs.detach.Overlaid.{overlays_hold_still, same_files_rise}
use Rattle.vt_mounting.proofs.detach.OwnInodesKept.{IsOwn}
use Rattle.vt_mounting.proofs.detach.Showing.{ShowsAs, shown_has, shown_is_counted, shown_is_same}
use Rattle.vt_mounting.proofs.detach.Staying.{IsDone, becomes_so}

-- a permit of a task that takes numbers of the supply that it is handed
pub record TakesNumbers (value : WorldValue) (name : TaskName) (permit : Permit ℕ) (task : Task ℕ) : Type 0 where
  pub called : task_called (world_of value) name ≡ Some task
  pub given : IsGiven (supply_of value permit) (world_of value) task permit
  pub inode : ℕ
  pub even : inode % 2 ≡ 0
  pub supply : supply_of value permit ≡ handed_to value.next inode permit

module _ {value : WorldValue} (whole : IsHeld value) {name : TaskName} {permit : Permit ℕ} {task : Task ℕ}
    (takes : TakesNumbers value name permit task) where
  -- what is left is a world
  pub left_is_world : IsWorld nat_eq (left_by value task permit)
  left_is_world = given_permits_leave_every_world (world_of value) (supply_of value permit) task permit whole.in_world
      (given_to_task (supply_of value permit) (world_of value) task permit takes.given)

  -- what is left keeps to the counts before the next one, whatever numbers were taken
  pub numbers_are_kept : {new : WorldValue} → overlays_seen new.overlays ≡ overlays_seen value.overlays
      → ShowsAs (left_by value task permit) new → CountsBeside new
      → ((entry : FilesystemEntry) → Among entry new.filesystems → IsOwn entry.count (inodes_seen entry))
      → KeepsTo (is_counted_before new.next) (left_by value task permit) → IsDone value name permit new
  numbers_are_kept {new} same_overlays shows counts own keeps =
      let same = shown_is_same shows left_is_world in
      let world = any_same_worlds_are_worlds (left_by value task permit) (world_of new) same left_is_world in
      let overlays = overlays_hold_still new whole.overlays same_overlays
      (same_files_rise (left_by value task permit).filesystems (world_of new).filesystems same.filesystems shows.rise)
      counts.overlays (same_worlds_have_layers_alike (left_by value task permit) (world_of new) same
      (left_writers value whole task permit takes.given)) in
      record {
        held = record {
          in_world = world;
          groups = shown_has shows left_is_world;
          given = any_same_worlds_keep_to_numbers (is_counted_before new.next) (left_by value task permit)
              (world_of new) same keeps;
          mounts = counts.uses;
          filesystems = all_from_among (CountsItsMounts (world_of new)) new.filesystems (λ entry m. record {
            mounts = counts.mounts entry m;
            inodes = counted_lowered (world_of new) world overlays.read_only (filesystem_seen entry) (inodes_seen entry)
                (shown_is_counted shows left_is_world entry m world);
          });
          own_inodes = all_from_among HasOwnInodes new.filesystems own;
          overlays = overlays;
          namespaces = counts.namespaces;
        };
        becomes = becomes_so value name permit new task takes.called same;
      }

-- a new namespace takes two numbers for each mount of the one that is left
pub left_keeps : (value : WorldValue) → IsHeld value → (name : TaskName) (task : Task ℕ)
    → TakesNumbers value name ToUnshare task
    → KeepsTo (is_counted_before (value.next + 2 * length (mounts_of nat_eq (world_of value) task.namespace)))
    (left_by value task ToUnshare)
left_keeps value whole name task takes =
    unshares_keep_to_numbers value.next (world_of value) task whole.in_world takes.given.called whole.given
