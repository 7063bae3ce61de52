-- Events of tasks after which all mounts are still in use, and in which tasks come to namespaces: fork(2).
use Rattle.std.proofs.Common.{◌≡◌, refl, sym, ap, subst, ◌∙◌, ℕ, ◌+◌, nat_eq, List, map}
use Rattle.vt_spec.proofs.Common.{Mount, Permit, Task, TaskName, World, without_dead_mounts}
use Rattle.vt_ns.proofs.Common.{Among, CountsItsMounts, CountsItsUses, CountsWhatIsInIt, Filesystems, IsApplied, IsDone, IsHeld, IsSwept, Merged, MountEntry, Moves, NamespaceEntry, Shown, Tasks, Use, WorldValue, after, all_from_among, among_from_all, counted, inodes_of_uses, kept_of, kept_with, layer_count, mounts_showing, namespace_of, remade, times, world_of}
use Rattle.vt_mounting.proofs.detach.Finishing.{CountsBeside, finished}
use Rattle.vt_mounting.proofs.detach.Grouped.{left_has}
use Rattle.vt_mounting.proofs.detach.Moving.{entry_counts, moved_kept}
use Rattle.vt_mounting.proofs.detach.Overlaid.{layers_kept, overlays_counted}
use Rattle.vt_mounting.proofs.detach.Remaining.{entry_was, remains_swept, same_mounts, shown_was}
use Rattle.vt_spec.specs.Machine.World as meant

-- the code's world with other mounts, filesystems, namespaces and tasks
abbrev pub remade_in : WorldValue → List MountEntry → Filesystems → List NamespaceEntry → Tasks → WorldValue
remade_in value mounts filesystems namespaces tasks = record
    (remade value mounts filesystems tasks) { namespaces = namespaces }

-- the same namespaces, each with the count of its tasks now
pub record CountsTasks (value : WorldValue) (namespaces : List NamespaceEntry) (tasks : Tasks) : Type 0 where
  pub same : map namespace_of namespaces ≡ map namespace_of value.namespaces
  pub counts : (entry : NamespaceEntry) → Among entry namespaces
      → entry.tasks ≡ times (λ task. nat_eq (counted entry.count) task.namespace) tasks

module _ (value : WorldValue) (whole : IsHeld value) (tasks : Tasks) (more less : List Use)
    (moves : Moves value tasks more less)
    (mounts : List MountEntry) (filesystems : Filesystems) (overlays : List Merged) (namespaces : List NamespaceEntry)
    (is_kept : kept_with mounts filesystems overlays ≡ moved_kept (world_of value) more less (kept_of value))
    (inside : CountsTasks value namespaces tasks)
    (stay : without_dead_mounts nat_eq (world_of (after value tasks)) ≡ world_of (after value tasks)) where
  abbrev next : World ℕ
  next = world_of (after value tasks)

  abbrev new : WorldValue
  new = remade_in value mounts filesystems namespaces tasks

  swept_in : IsSwept value next (inodes_of_uses (world_of value) more) (inodes_of_uses (world_of value) less) new
  swept_in =
      let swept = remains_swept value whole tasks more less moves mounts filesystems overlays is_kept stay in
      record {
        files = swept.files;
        midway = swept.midway;
        overlays = swept.overlays;
        mounts = swept.mounts;
        numbers = swept.numbers;
        entries = swept.entries;
        namespaces = ap (map (λ (namespace : meant.Namespace ℕ). record namespace { change = 0 })) (sym inside.same);
        tasks = swept.tasks;
      }

  counted_in : CountsBeside new
  counted_in = record {
    uses = all_from_among (CountsItsUses (world_of new)) mounts (λ entry m.
        let from = entry_was value whole tasks more less moves mounts filesystems overlays is_kept entry m in
        let counts = subst (CountsItsUses next) (sym from.2)
        (entry_counts value whole tasks more less moves from.0 from.1) in
        record { uses = counts.uses; writers = counts.writers });
    mounts = λ entry m. let from = shown_was value whole tasks more less moves mounts filesystems overlays is_kept entry m in
        ap (λ (one : Shown). one.mounts) from.2
        ∙ (among_from_all (CountsItsMounts (world_of value)) value.filesystems whole.filesystems from.0 from.1).mounts
        ∙ (λ i. times (λ (mount : Mount ℕ). nat_eq
        (counted (sym (ap (λ (one : Shown). one.count) from.2) i)) mount.filesystem)
        (sym (same_mounts value whole tasks more less moves mounts filesystems overlays is_kept) i)
        + layer_count (world_of value) (counted (sym (ap (λ (one : Shown). one.count) from.2) i)))
        ∙ ap (λ n. mounts_showing (world_of new) (counted entry.count) + n)
        (sym (layers_kept value new whole.overlays refl (counted entry.count)));
    overlays = overlays_counted value new whole.overlays refl (λ number.
        ap (times (λ (mount : Mount ℕ). nat_eq number mount.filesystem))
        (same_mounts value whole tasks more less moves mounts filesystems overlays is_kept));
    namespaces = all_from_among (CountsWhatIsInIt (world_of new)) namespaces
        (λ entry m. record { tasks = inside.counts entry m });
  }

  -- an event after which the namespaces remain is done
  pub remains_done_in : (name : TaskName) (permit : Permit ℕ) (task : Task ℕ) → IsApplied value name permit task next
      → IsDone value name permit new
  remains_done_in name permit task is =
      finished value whole name permit task next is (inodes_of_uses (world_of value) more)
      (inodes_of_uses (world_of value) less) new
      swept_in (left_has value whole next refl (λ group. refl)) counted_in refl
