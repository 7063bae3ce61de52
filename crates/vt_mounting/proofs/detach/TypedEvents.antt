-- Events after which mounts have the types of other groups: they are done if they are but for the types.
use Rattle.std.proofs.Common.{◌≡◌, refl, sym, ap, subst, ◌∙◌, ◌+◌, ℕ, nat_eq, false, List, filter, map, is_some}
use Rattle.vt_spec.proofs.Common.{Filesystem, Mount, Permit, Private, Task, TaskName, World, is_mounted, map_twice, regrouped}
use Rattle.vt_spec.proofs.Worlds.{filesystems-regrouped}
use Rattle.vt_mounting.proofs.Common.{Among, CountsItsUses, CountsWhatIsInIt, Exchanges, Grouping, Has, Inode, IsHeld, IsMountedSoOften, MountEntry, WorldValue, all_from_among, among-from_map, among_from_all, counted, filter_alike, in_use_of, layer_count, mounts_in, mounts_showing, overlays_seen, times, typed_by, typed_entry, world_of}
use Rattle.vt_mounting.proofs.detach.Bridging.{IsSwept}
use Rattle.vt_mounting.proofs.detach.Finishing.{CountsBeside, IsApplied, finished_as}
use Rattle.vt_mounting.proofs.detach.LowerLayers.{of_lowers}
use Rattle.vt_mounting.proofs.detach.Overlaid.{is_plain_one, same_files_keep}
use Rattle.vt_mounting.proofs.detach.Staying.{IsDone}
use Rattle.vt_mounting.proofs.detach.TypedWorlds.{exchanges_typed, living_typed, mounted_still, mounts_showing_typed, settled_typed, settled_typed_has, typed_world}

-- the code's world with these groups, and each mount with the type that they tell
abbrev pub typed_value : Grouping → WorldValue → WorldValue
typed_value groups value = record value { mounts = map (typed_entry groups) value.mounts; groups = groups }

module _ (groups : Grouping) (new : WorldValue) where
  mounts_typed : mounts_in (map (typed_entry groups) new.mounts) ≡ map (typed_by groups) (mounts_in new.mounts)
  mounts_typed = map_twice (λ (entry : MountEntry). entry.mount) (typed_entry groups) new.mounts
      ∙ sym (map_twice (typed_by groups) (λ (entry : MountEntry). entry.mount) new.mounts)

  pub swept_typed : (old : WorldValue) (start : World ℕ) (gained lost : List Inode) → IsSwept old start gained lost new
      → IsSwept old (typed_world groups start) gained lost (typed_value groups new)
  swept_typed old start gained lost swept = record {
    files = swept.files;
    midway = same_files_keep old start (typed_world groups start) refl swept.midway;
    overlays = swept.overlays
        ∙ filter_alike (λ (overlay : Filesystem ℕ). is_mounted nat_eq (in_use_of start) overlay.number)
        (λ (overlay : Filesystem ℕ). is_mounted nat_eq (in_use_of (typed_world groups start)) overlay.number)
        (overlays_seen old.overlays) (λ overlay m. sym (mounted_still groups start overlay.number));
    mounts = ap (λ (world : World ℕ). world.mounts) (living_typed groups start)
        ∙ ap (map (typed_by groups)) swept.mounts ∙ sym mounts_typed;
    numbers = ap (λ (world : World ℕ). map (λ (f : Filesystem ℕ). f.number) (filter is_plain_one world.filesystems))
        (living_typed groups start) ∙ swept.numbers;
    entries = λ entry m. let from = swept.entries entry m in record {
      was = from.was;
      among = from.among;
      count = from.count;
      there = from.there;
      inodes = from.inodes;
      exchanges = subst (λ (w : World ℕ). Exchanges gained lost (counted from.was.count) (of_lowers (world_of old))
          (of_lowers w)) (sym (living_typed groups start))
          (exchanges_typed groups {world = of_lowers (in_use_of start)} from.exchanges);
    };
    namespaces = swept.namespaces;
    tasks = swept.tasks;
  }

  showing_typed : (number : ℕ)
      → mounts_showing (world_of (typed_value groups new)) number ≡ mounts_showing (world_of new) number
  showing_typed number = ap (times (λ (mount : Mount ℕ). nat_eq number mount.filesystem)) mounts_typed
      ∙ mounts_showing_typed groups (world_of new) number

  pub counts_typed : CountsBeside new → CountsBeside (typed_value groups new)
  counts_typed counts = record {
    uses = all_from_among (CountsItsUses (world_of (typed_value groups new))) (map (typed_entry groups) new.mounts)
        (λ entry m.
        let from = among-from_map (typed_entry groups) new.mounts entry m in
        let was = among_from_all (CountsItsUses (world_of new)) new.mounts counts.uses from.0 from.1 in
        subst (CountsItsUses (world_of (typed_value groups new))) (sym from.2)
        (record { uses = was.uses; writers = was.writers }));
    mounts = λ entry m. counts.mounts entry m
        ∙ ap (λ showing. showing + layer_count (world_of new) (counted entry.count))
        (sym (showing_typed (counted entry.count)));
    overlays = all_from_among (IsMountedSoOften (world_of (typed_value groups new))) new.overlays (λ entry m.
        among_from_all (IsMountedSoOften (world_of new)) new.overlays counts.overlays entry m
        ∙ sym (showing_typed entry.number));
    namespaces = all_from_among (CountsWhatIsInIt (world_of (typed_value groups new))) new.namespaces (λ entry m.
        let was = among_from_all (CountsWhatIsInIt (world_of new)) new.namespaces counts.namespaces entry m in
        record { tasks = was.tasks });
  }

-- The policy regroups a world: where mounts got the types of the groups that are left, the event is done.
module _ {value : WorldValue} (whole : IsHeld value) {name : TaskName} {permit : Permit ℕ} {task : Task ℕ}
    (start : World ℕ) (is : IsApplied value name permit task (regrouped nat_eq start)) {groups : Grouping}
    (has : Has (regrouped nat_eq start) groups)
    (nowhere : (mount : Mount ℕ) → Among mount start.mounts → is_some mount.namespace ≡ false
    → mount.propagation ≡ Private) where
  pub typed_done : {gained lost : List Inode} {new : WorldValue} → IsSwept value start gained lost new
      → CountsBeside new → new.next ≡ value.next → IsDone value name permit (typed_value groups new)
  typed_done {gained} {lost} {new} swept counts next =
      finished_as value whole name permit task (regrouped nat_eq start) is (typed_world groups start)
      (settled_typed start groups has) (filesystems-regrouped start) gained lost (typed_value groups new)
      (swept_typed groups new value start gained lost swept)
      (settled_typed_has start groups has nowhere) (counts_typed groups new counts) next
