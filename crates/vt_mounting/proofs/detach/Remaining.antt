-- Events of tasks after which all mounts are still in use.
use Rattle.std.proofs.Common.{◌≡◌, refl, sym, ap, subst, ◌∙◌, ◌+◌, ℕ, nat_eq, List, filter, map}
use Rattle.vt_spec.proofs.Common.{Filesystem, Mount, Permit, Task, TaskName, World, filesystem_lives, folded, is_mounted, map_alike, map_twice, without_dead_filesystems, without_dead_mounts}
use Rattle.vt_mounting.proofs.Common.{Among, CountsItsMounts, CountsItsUses, CountsWhatIsInIt, Exchanges, FilesystemEntry, Filesystems, Inode, IsHeld, MountEntry, Shown, Tasks, WorldValue, all_from_among, all_in_use, among-from_map, among-map, among_from_all, among_from_list_all, counted, filesystem_seen, filter_all, in_use_of, layer_count, mounts_in, mounts_showing, shown, shown_entry, times, world_of}
use Rattle.vt_mounting.specs.Detach.Uses.{Merged, kept_of, kept_with, overlays_kept}
use Rattle.vt_mounting.proofs.detach.Bridging.{IsSwept}
use Rattle.vt_mounting.proofs.detach.Finishing.{CountsBeside, IsApplied, finished}
use Rattle.vt_mounting.proofs.detach.Grouped.{left_has}
use Rattle.vt_mounting.proofs.detach.LowerLayers.{exchanges_of_lowers, of_lowers}
use Rattle.vt_mounting.proofs.detach.Moving.{Moves, Use, entry_counts, exchanged_shown, filesystems_moved, gained_there, held_counts, hold_if, inodes_of_uses, mounts_moved, moved_kept, release_if, released_counts, uses_moved}
use Rattle.vt_mounting.proofs.detach.Overlaid.{all_shown, is_plain_one, keeps_itself, layers_kept, overlays_counted, plain_ones_are, same_files_keep, still_mounted}
use Rattle.vt_mounting.proofs.detach.Staying.{IsDone, after}

-- the code's world with other mounts, filesystems and tasks
abbrev pub remade : WorldValue → List MountEntry → Filesystems → Tasks → WorldValue
remade value mounts filesystems tasks = record value { mounts = mounts; filesystems = filesystems; tasks = tasks }

-- and with those of its overlays that are kept
abbrev pub remade_with : WorldValue → List MountEntry → Filesystems → List Merged → Tasks → WorldValue
remade_with value mounts filesystems overlays tasks =
    record (remade value mounts filesystems tasks) { overlays = overlays_kept overlays value.overlays }

module _ (value : WorldValue) (whole : IsHeld value) (tasks : Tasks) (more less : List Use)
    (moves : Moves value tasks more less)
    (mounts : List MountEntry) (filesystems : Filesystems) (overlays : List Merged)
    (is_kept : kept_with mounts filesystems overlays ≡ moved_kept (world_of value) more less (kept_of value)) where
  abbrev next : World ℕ
  next = world_of (after value tasks)

  abbrev moved_entry : MountEntry → MountEntry
  moved_entry entry = folded release_if (folded hold_if entry more) less

  abbrev gained : List Inode
  gained = inodes_of_uses (world_of value) more

  abbrev lost : List Inode
  lost = inodes_of_uses (world_of value) less

  pub entries_are : mounts ≡ map moved_entry value.mounts
  entries_are = ap (λ k. k.mounts) is_kept ∙ mounts_moved (world_of value) more less (kept_of value)

  pub shown_are : shown filesystems ≡ map (exchanged_shown gained lost) (shown value.filesystems)
  shown_are = ap (λ k. k.filesystems) is_kept ∙ filesystems_moved (world_of value) more less (kept_of value)

  pub same_mount : (entry : MountEntry) → (moved_entry entry).mount ≡ entry.mount
  same_mount entry = (released_counts less (folded hold_if entry more)).mount ∙ (held_counts more entry).mount

  pub same_mounts : mounts_in mounts ≡ mounts_in value.mounts
  same_mounts = ap mounts_in entries_are ∙ map_twice (λ (entry : MountEntry). entry.mount) moved_entry value.mounts
      ∙ map_alike (λ entry. (moved_entry entry).mount) (λ entry. entry.mount) value.mounts (λ entry m. same_mount entry)

  -- each entry was one
  pub entry_was : (entry : MountEntry) → Among entry mounts
      → (was : MountEntry) × Among was value.mounts × (entry ≡ moved_entry was)
  entry_was entry m = among-from_map moved_entry value.mounts entry (subst (λ all. Among entry all) entries_are m)

  pub shown_was : (entry : FilesystemEntry) → Among entry filesystems
      → (was : FilesystemEntry) × Among was value.filesystems
      × (shown_entry entry ≡ exchanged_shown gained lost (shown_entry was))
  shown_was entry m =
      let from = among-from_map (exchanged_shown gained lost) (shown value.filesystems) (shown_entry entry)
      (subst (λ all. Among (shown_entry entry) all) shown_are (among-map shown_entry filesystems entry m)) in
      let first = among-from_map shown_entry value.filesystems from.0 from.1 in
      (first.0, first.1, from.2 ∙ ap (exchanged_shown gained lost) first.2)

  pub same_numbers : map (λ f. f.number) (filter is_plain_one (world_of value).filesystems)
      ≡ map (λ (entry : FilesystemEntry). counted entry.count) filesystems
  same_numbers =
      cc (
        plain_ones_are value whole.overlays,
        map_twice (λ (f : Filesystem ℕ). f.number) filesystem_seen
            value.filesystems,
        map_twice (λ (one : Shown). counted one.count) shown_entry value.filesystems,
        map_twice (λ
            (one : Shown). counted one.count) (exchanged_shown gained lost) (shown value.filesystems),
        shown_are,
        map_twice
            (λ (one : Shown). counted one.count) shown_entry filesystems,
      )

  -- all mounts are still in use
  module _ (stay : without_dead_mounts nat_eq next ≡ next) where
    living_is : in_use_of next ≡ next
    living_is = ap (without_dead_filesystems nat_eq) stay ∙ ap (λ all. record next { filesystems = all })
        (filter_all (filesystem_lives nat_eq next) next.filesystems (λ f m.
        among_from_list_all (filesystem_lives nat_eq (world_of value)) (world_of value).filesystems
        (all_in_use (world_of value) whole.in_world).filesystems f m))

    pub remains_swept : IsSwept value next gained lost (remade value mounts filesystems tasks)
    remains_swept = record {
      files = refl;
      midway = same_files_keep value (world_of value) next refl (keeps_itself value whole.overlays);
      overlays = all_shown value (in_use_of next) (still_mounted value whole (in_use_of next) (λ number.
          ap (λ (world : World ℕ). is_mounted nat_eq world number) living_is));
      mounts = ap (λ (world : World ℕ). world.mounts) living_is ∙ sym same_mounts;
      numbers = ap (λ (world : World ℕ). map (λ (f : Filesystem ℕ). f.number)
          (filter is_plain_one world.filesystems)) living_is ∙ same_numbers;
      entries = λ entry m. let from = shown_was entry m in record {
        was = from.0;
        among = from.1;
        count = ap (λ one. one.count) from.2;
        there = gained_there value whole tasks more less moves from.0 from.1;
        inodes = ap (λ one. one.inodes) from.2;
        exchanges = subst (λ (world : World ℕ). Exchanges gained lost (counted from.0.count)
            (of_lowers (world_of value)) (of_lowers world)) (sym living_is)
            (exchanges_of_lowers {world = world_of value} {after = next} refl
            (uses_moved value whole tasks more less moves (counted from.0.count)));
      };
      namespaces = refl;
      tasks = refl;
    }

    pub remains_counted : ((namespace : ℕ) → times (λ task. nat_eq namespace task.namespace) tasks
        ≡ times (λ task. nat_eq namespace task.namespace) value.tasks)
        → CountsBeside (remade value mounts filesystems tasks)
    remains_counted inside = record {
      uses = all_from_among (CountsItsUses (world_of (remade value mounts filesystems tasks))) mounts
          (λ entry m. let from = entry_was entry m in
          let counts = subst (CountsItsUses next) (sym from.2)
          (entry_counts value whole tasks more less moves from.0 from.1) in
          record { uses = counts.uses; writers = counts.writers });
      mounts = λ entry m. let from = shown_was entry m in
          ap (λ (one : Shown). one.mounts) from.2
          ∙ (among_from_all (CountsItsMounts (world_of value)) value.filesystems whole.filesystems from.0 from.1).mounts
          ∙ (λ i. times (λ (mount : Mount ℕ). nat_eq
          (counted (sym (ap (λ (one : Shown). one.count) from.2) i)) mount.filesystem) (sym same_mounts i)
          + layer_count (world_of value) (counted (sym (ap (λ (one : Shown). one.count) from.2) i)))
          ∙ ap (λ n. mounts_showing (world_of (remade value mounts filesystems tasks)) (counted entry.count) + n)
          (sym (layers_kept value (remade value mounts filesystems tasks) whole.overlays refl (counted entry.count)));
      overlays = overlays_counted value (remade value mounts filesystems tasks) whole.overlays refl (λ number.
          ap (times (λ (mount : Mount ℕ). nat_eq number mount.filesystem)) same_mounts);
      namespaces = all_from_among (CountsWhatIsInIt (world_of (remade value mounts filesystems tasks))) value.namespaces
          (λ entry m.
          let was = among_from_all (CountsWhatIsInIt (world_of value)) value.namespaces whole.namespaces entry m in
          subst (λ all. CountsWhatIsInIt
          (record (world_of (remade value mounts filesystems tasks)) { mounts = all }) entry) (sym same_mounts)
          (record { tasks = was.tasks ∙ sym (inside (counted entry.count)) }));
    }

    pub remains_done : (name : TaskName) (permit : Permit ℕ) (task : Task ℕ) → IsApplied value name permit task next
        → ((namespace : ℕ) → times (λ task. nat_eq namespace task.namespace) tasks
        ≡ times (λ task. nat_eq namespace task.namespace) value.tasks)
        → IsDone value name permit (remade value mounts filesystems tasks)
    remains_done name permit task is inside =
        finished value whole name permit task next is gained lost (remade value mounts filesystems tasks)
        remains_swept (left_has value whole next refl (λ group. refl)) (remains_counted inside) refl
