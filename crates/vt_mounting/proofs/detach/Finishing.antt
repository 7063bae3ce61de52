-- The end of an event: the world that the sweep leaves has its invariants, and counts what is in it.
use Rattle.std.proofs.Common.{◌≡◌, refl, sym, subst, ℕ, nat_eq, Bool, true, false, cond, List, [], ◌∷◌, Some, ◌+◌, All}
use Rattle.vt_spec.proofs.Common.{Fresh, Inodes, IsWorld, Permit, SameWorlds, Task, TaskName, World, apply, folded, is_mounted, pinned, settled, task_called, unpinned, OverlayInvariants}
use Rattle.vt_mounting.proofs.Common.{Among, CountsItsMounts, CountsItsUses, CountsWhatIsInIt, FilesystemEntry, Has, HasOwnInodes, Inode, IsGiven, IsHeld, IsMountedSoOften, KeepsTo, WorldValue, WritersHaveLayers, all_from_among, among_from_all, any_same_worlds_are_worlds, any_same_worlds_keep_to_numbers, counted, exchanged, filesystem_seen, given_permits_leave_every_world, given_to_task, in_use_of, inodes_seen, is_counted_before, layer_count, mounts_showing, permit_named, permits_keep_to_numbers, pinned_if, same_worlds_have_layers_alike, unpinned_if, world_of, IsUnderWay, given_permits_are_under_way_anywhere}
use Rattle.vt_world.proofs.counting.Lowered.{counted_lowered}
use Rattle.vt_mounting.proofs.detach.Writers.{left_writers}
use Rattle.vt_mounting.specs.Detach.Events.{supply_of}
use Rattle.vt_mounting.proofs.detach.OwnInodesKept.{IsOwn, own_pinned, own_unpinned}
use Rattle.vt_mounting.proofs.detach.Bridging.{IsSwept, MayBeSwept, rise_left, swept_has, swept_is_counted, swept_is_same}
use Rattle.vt_mounting.proofs.detach.Overlaid.{fewer_overlays_hold, same_files_rise}
use Rattle.vt_mounting.proofs.detach.Staying.{IsDone, becomes_so}

-- inodes that get uses and lose uses keep numbers of their own

pinned_own : (count : ℕ) (gained : List Inode) (inodes : Inodes ℕ) → IsOwn count inodes
    → IsOwn count (folded (pinned_if (counted count)) inodes gained)
pinned_own count [] inodes own = own
pinned_own count (inode ∷ rest) inodes own =
    pinned_own count rest (pinned_if (counted count) inodes inode) (by (nat_eq (counted count) inode.0))
  where
    by : (b : Bool) → IsOwn count (cond b (pinned nat_eq inodes inode.1) inodes)
    by true = own_pinned count inodes inode.1 own
    by false = own

unpinned_own : (count : ℕ) (lost : List Inode) (inodes : Inodes ℕ) → IsOwn count inodes
    → IsOwn count (folded (unpinned_if (counted count)) inodes lost)
unpinned_own count [] inodes own = own
unpinned_own count (inode ∷ rest) inodes own =
    unpinned_own count rest (unpinned_if (counted count) inodes inode) (by (nat_eq (counted count) inode.0))
  where
    by : (b : Bool) → IsOwn count (cond b (unpinned nat_eq inodes inode.1) inodes)
    by true = own_unpinned count inodes inode.1 own
    by false = own

-- inodes stay of their filesystem where uses are gained and lost
pub own_exchanged : (count : ℕ) (gained lost : List Inode) (inodes : Inodes ℕ) → IsOwn count inodes
    → IsOwn count (exchanged (counted count) gained lost inodes)
own_exchanged count gained lost inodes own =
    unpinned_own count lost (folded (pinned_if (counted count)) inodes gained) (pinned_own count gained inodes own)

-- a permit of a task, and the world that its event leaves before what nothing uses is gone, whatever numbers are handed
-- in
pub record IsApplied (value : WorldValue) (name : TaskName) (permit : Permit ℕ) (task : Task ℕ)
    (next : World ℕ) : Type 0 where
  pub called : task_called (world_of value) name ≡ Some task
  pub given : IsGiven (supply_of value permit) (world_of value) task permit
  pub named : permit_named (is_counted_before value.next) permit ≡ true
  pub applied : (fresh : Fresh ℕ) → (apply nat_eq fresh (world_of value) task permit).world ≡ next

-- what is counted beside inodes
pub record CountsBeside (new : WorldValue) : Type 0 where
  pub uses : All (CountsItsUses (world_of new)) new.mounts
  pub mounts : (entry : FilesystemEntry) → Among entry new.filesystems → entry.mounts
      ≡ mounts_showing (world_of new) (counted entry.count) + layer_count (world_of new) (counted entry.count)
  pub overlays : All (IsMountedSoOften (world_of new)) new.overlays
  pub namespaces : All (CountsWhatIsInIt (world_of new)) new.namespaces

-- what is left is a world, so the code's world has its invariants
module _ (value : WorldValue) (whole : IsHeld value) (next : World ℕ) (ready : MayBeSwept next)
    (left : IsWorld nat_eq (settled nat_eq next)) where
  -- what holds of each world holds of the one that the sweep leaves
  pub swept_held : (gained lost : List Inode) (new : WorldValue) → IsSwept value next gained lost new
      → Has (settled nat_eq next) new.groups → CountsBeside new → KeepsTo (is_counted_before new.next) (world_of new)
      → WritersHaveLayers (settled nat_eq next) → IsHeld new
  swept_held gained lost new swept has counts keeps writers =
      let same = swept_is_same value whole next ready gained lost new swept has left in
      let world = any_same_worlds_are_worlds (settled nat_eq next) (world_of new) same left in
      let overlays = fewer_overlays_hold new whole.overlays
      (λ overlay. is_mounted nat_eq (in_use_of next) overlay.number) swept.overlays
      (same_files_rise (settled nat_eq next).filesystems (world_of new).filesystems same.filesystems
      (rise_left value whole next ready gained lost new swept has left)) counts.overlays
      (same_worlds_have_layers_alike (settled nat_eq next) (world_of new) same writers) in
      record {
        in_world = world;
        groups = swept_has value whole next ready gained lost new swept has left;
        given = keeps;
        mounts = counts.uses;
        filesystems = all_from_among (CountsItsMounts (world_of new)) new.filesystems (λ entry m. record {
          mounts = counts.mounts entry m;
          inodes = counted_lowered (world_of new) world overlays.read_only (filesystem_seen entry) (inodes_seen entry)
              (swept_is_counted value whole next ready gained lost new swept has left entry m world);
        });
        own_inodes = all_from_among HasOwnInodes new.filesystems (λ entry m. let from = swept.entries entry m in
            subst (λ count. IsOwn count (inodes_seen entry)) (sym from.count)
            (subst (IsOwn from.was.count) (sym from.inodes)
            (own_exchanged from.was.count gained lost (inodes_seen from.was)
            (among_from_all HasOwnInodes value.filesystems whole.own_inodes from.was from.among))));
        overlays = overlays;
        namespaces = counts.namespaces;
      }

module _ (value : WorldValue) (whole : IsHeld value) (name : TaskName) (permit : Permit ℕ) (task : Task ℕ)
    (next : World ℕ) (is : IsApplied value name permit task next) where
  -- what is left is a world
  pub is_left : IsWorld nat_eq (settled nat_eq next)
  is_left = subst (λ world. IsWorld nat_eq (settled nat_eq world)) (is.applied (supply_of value permit))
      (given_permits_leave_every_world (world_of value) (supply_of value permit) task permit whole.in_world
      (given_to_task (supply_of value permit) (world_of value) task permit is.given))

  -- what is swept is under way
  under_way : IsUnderWay next × OverlayInvariants nat_eq next
  under_way = subst (λ world. IsUnderWay world × OverlayInvariants nat_eq world) (is.applied (supply_of value permit))
      (given_permits_are_under_way_anywhere (world_of value) (supply_of value permit) task permit whole.in_world
      (given_to_task (supply_of value permit) (world_of value) task permit is.given))

  -- in which no descriptor is open for writing in an overlay
  writers_left : WritersHaveLayers (settled nat_eq next)
  writers_left = subst (λ world. WritersHaveLayers (settled nat_eq world)) (is.applied (supply_of value permit))
      (left_writers value whole task permit is.given)

  -- the settled world names numbers that were counted
  pub keeps_left : KeepsTo (is_counted_before value.next) (settled nat_eq next)
  keeps_left = subst (λ world. KeepsTo (is_counted_before value.next) (settled nat_eq world)) (is.applied (λ k. 0))
      (permits_keep_to_numbers (is_counted_before value.next) (λ k. 0)
      (world_of value) task permit is.given.called whole.given (λ k. refl) is.named)

  -- the code's world is what is left of a world of which as much is left as of the policy's
  pub finished_as : (after : World ℕ) → settled nat_eq next ≡ settled nat_eq after
      → next.filesystems ≡ after.filesystems → (gained lost : List Inode) (new : WorldValue)
      → IsSwept value after gained lost new → Has (settled nat_eq after) new.groups → CountsBeside new
      → new.next ≡ value.next → IsDone value name permit new
  finished_as after alike files gained lost new swept has counts same_next =
      let ready : MayBeSwept after = record {
        policy = next;
        under = under_way.0;
        overlays = under_way.1;
        left = alike;
        files = files;
      } in
      let left = subst (IsWorld nat_eq) alike is_left in
      let same = swept_is_same value whole after ready gained lost new swept has left in
      record {
        held = swept_held value whole after ready left gained lost new swept has counts
            (subst (λ count. KeepsTo (is_counted_before count) (world_of new)) (sym same_next)
            (any_same_worlds_keep_to_numbers (is_counted_before value.next) (settled nat_eq after) (world_of new) same
            (subst (KeepsTo (is_counted_before value.next)) alike keeps_left)))
            (subst WritersHaveLayers alike writers_left);
        becomes = becomes_so value name permit new task is.called
            (subst (λ one. SameWorlds (settled nat_eq one) (world_of new)) (sym (is.applied (supply_of value permit)))
            (subst (λ left. SameWorlds left (world_of new)) (sym alike) same));
      }

  -- an event that leaves what the sweep leaves is done
  pub finished : (gained lost : List Inode) (new : WorldValue) → IsSwept value next gained lost new
      → Has (settled nat_eq next) new.groups → CountsBeside new → new.next ≡ value.next → IsDone value name permit new
  finished = finished_as next refl refl
