-- A mount becomes the root mount, as code does it: pivot_root(2).
use Rattle.std.proofs.Common.{◌≡◌, refl, sym, ap, ◌∙◌, ℕ, ◌+◌, nat_eq, true, true≢false, List, [], find, map, Option, Some, None, is_some, unwrap_or, arith, subst}
use Rattle.vt_spec.proofs.Common.{Location, Mount, Task, TaskName, ToPivot, chain, list_any, looks_of, mount_at, mount_numbered, no_mount, pivoted_task, rest_of, root_of, same_Some, common_steps}
use Rattle.vt_ns.proofs.Common.{Filesystems, HasRoom, IsDone, IsHeld, Merged, MountEntry, Permits, Tasks, WorldValue, called, counted, inode_of, is_small_node, kept_with, location_of, merged_seen, mount_of, mounts_in, pinned_in, remade, shown, task_of, unpinned_in, uses_of, world_of, writers_of}
use Rattle.vt_location.specs.declared.locations.Location.{Location as At}
use Rattle.vt_location.specs.declared.mounts.Mount.{Mount as Attached}
use Rattle.vt_mount.specs.Moving.{pivoted_entry}
use Rattle.vt_tasks.specs.Counts.{all_places_at}
use Rattle.vt_tasks.specs.declared.task.Task.{Task as Held}
use Rattle.vt_ns.specs.Pivoting.{with_uses, without_uses}
use Rattle.vt_ns.proofs.CountingLemmas.{counts_kept, room_pinned}
use Rattle.vt_ns.proofs.world.PivotedUses.{kept_number}
use Rattle.vt_ns.proofs.world.PivotedWorlds.{may, root_is_changed}
use Rattle.vt_spec.specs.Machine.Looks

-- a mount that is in a namespace is found
pub found_there : (number : ℕ) (found : Option (Mount ℕ))
    → is_some (unwrap_or found (no_mount number)).namespace ≡ true → is_some found ≡ true
found_there number found e = grind (arith, common_steps)

-- nothing is above a place that has nothing above it
no_rest : {A : Type 0} (above : A → Option A) (most : ℕ) (a : A) → above a ≡ None → rest_of (chain most above a) ≡ []
no_rest above most a none = grind (arith, common_steps)

module _ (value : WorldValue) (whole : IsHeld value) (name : TaskName) (number : ℕ) (put : At)
    (permits : Permits value name (ToPivot number (location_of put))) where
  -- what is found is there
  pub new_is_found : is_some (find (λ (mount : Mount ℕ). nat_eq number mount.number) (mounts_in value.mounts)) ≡ true
  new_is_found = found_there number (find (λ (mount : Mount ℕ). nat_eq number mount.number) (mounts_in value.mounts))
      (ap is_some (may value whole name number put permits).own)

  pub new_is_placed : is_some (mount_numbered nat_eq (world_of value) number).mount_point ≡ true
  new_is_placed = by (mount_numbered nat_eq (world_of value) number).mount_point refl
    where
      here : Location ℕ
      here = record { mount = number; node = 0 }

      by : (point : Option (Location ℕ)) → (mount_numbered nat_eq (world_of value) number).mount_point ≡ point
          → is_some point ≡ true
      by (Some place) e = refl
      by None e = absurd (true≢false (sym ((may value whole name number put permits).below_root 0)
          ∙ ap (list_any (λ (location : Location ℕ). nat_eq permits.task.root.mount location.mount))
          (no_rest (λ (location : Location ℕ). (Looks.mount_at (looks_of nat_eq (world_of value)) location).mount_point)
          (looks_of nat_eq (world_of value)).mount_count here e)))

  module _ (held : Held) (held_is : Some (task_of held) ≡ called name value.tasks) where
    caller_is : task_of held ≡ permits.task
    caller_is = same_Some _ _ (held_is ∙ permits.called)

    pub root_is_found : is_some (find (λ (mount : Mount ℕ). nat_eq (counted held.root.mount.count) mount.number)
        (mounts_in value.mounts)) ≡ true
    root_is_found = found_there (counted held.root.mount.count)
        (find (λ (mount : Mount ℕ). nat_eq (counted held.root.mount.count) mount.number) (mounts_in value.mounts))
        (ap (λ (one : Task ℕ). is_some (mount_at nat_eq (world_of value) one.root).namespace) caller_is
        ∙ ap is_some (may value whole name number put permits).own_root)

    module _ (root new : Attached) (left entered point : At) (root_is : Some (mount_of root)
        ≡ find (λ (mount : Mount ℕ). nat_eq (counted held.root.mount.count) mount.number) (mounts_in value.mounts))
        (new_is : Some (mount_of new) ≡ find (λ (mount : Mount ℕ). nat_eq number mount.number) (mounts_in value.mounts))
        (left_is : location_of left ≡ root_of (mount_of root))
        (entered_is : location_of entered ≡ root_of (mount_of new))
        (point_is : Some (location_of point) ≡ (mount_numbered nat_eq (world_of value) number).mount_point)
        (moved : ℕ) (moved_is : moved ≡ all_places_at (counted held.namespace.count) (location_of left) value.tasks)
      where
        root_so : mount_of root ≡ mount_at nat_eq (world_of value) permits.task.root
        root_so = ap (λ o. unwrap_or o (no_mount (counted held.root.mount.count))) root_is
            ∙ ap (λ (one : Task ℕ). mount_at nat_eq (world_of value) one.root) caller_is

        new_so : mount_of new ≡ mount_numbered nat_eq (world_of value) number
        new_so = ap (λ o. unwrap_or o (no_mount number)) new_is

        pub room_to_enter : (between : List MountEntry) (filesystems : Filesystems)
            → HasRoom (moved + 1) entered value.mounts value.filesystems
            → between ≡ map (pivoted_entry (mount_of root) (mount_of new) (location_of put)) value.mounts
            → shown filesystems ≡ pinned_in (inode_of put.node) (shown value.filesystems)
            → HasRoom moved entered between filesystems
        room_to_enter between filesystems room pivoted_so pinned_so =
            let n = counted entered.mount.count in
            let same = counts_kept (pivoted_entry (mount_of root) (mount_of new) (location_of put))
            (λ entry. kept_number (mount_of root) (mount_of new) (location_of put) entry.mount)
            (λ entry. refl) (λ entry. refl) value.mounts n in
            room_pinned moved (inode_of put.node) entered value.mounts between value.filesystems filesystems room
            (ap (λ all. uses_of all n) pivoted_so ∙ same.0) (ap (λ all. writers_of all n) pivoted_so ∙ same.1) pinned_so

        pub root_is_pivoted : (between held_mounts mounts : List MountEntry)
            (pinned_files held_files left_files filesystems : Filesystems)
            (held_overlays overlays : List Merged) (tasks : Tasks)
            → is_small_node put.node ≡ true → is_small_node entered.node ≡ true
            → is_small_node left.node ≡ true → is_small_node point.node ≡ true
            → between ≡ map (pivoted_entry (mount_of root) (mount_of new) (location_of put)) value.mounts
            → shown pinned_files ≡ pinned_in (inode_of put.node) (shown value.filesystems)
            → kept_with held_mounts held_files held_overlays ≡ with_uses moved entered
            (kept_with between pinned_files (map merged_seen value.overlays))
            → kept_with mounts left_files overlays ≡ without_uses moved left
            (kept_with held_mounts held_files held_overlays)
            → shown filesystems ≡ unpinned_in (inode_of point.node) (shown left_files)
            → tasks ≡ map (pivoted_task nat_eq (counted held.namespace.count) (mount_of root) (mount_of new)) value.tasks
            → IsDone value name (ToPivot number (location_of put)) (remade value mounts filesystems tasks)
        root_is_pivoted between held_mounts mounts pinned_files held_files left_files filesystems held_overlays overlays
            tasks put_small entered_small left_small point_small pivoted_so pinned_so held_so left_so unpinned_so
            tasks_so =
            let inside : counted held.namespace.count ≡ permits.task.namespace =
            ap (λ (one : Task ℕ). one.namespace) caller_is in
            let as_many = moved_is ∙ (λ i. all_places_at (inside i) ((left_is ∙ ap root_of root_so) i) value.tasks) in
            subst (λ all. IsDone value name (ToPivot number (location_of put)) (remade value mounts filesystems all))
            (sym (tasks_so ∙ (λ i. map (pivoted_task nat_eq (inside i) (root_so i) (new_so i)) value.tasks)))
            (root_is_changed value whole name number put permits entered left point
            (entered_is ∙ ap root_of new_so) (left_is ∙ ap root_of root_so) (sym point_is)
            put_small entered_small left_small point_small between mounts pinned_files left_files filesystems overlays
            (kept_with held_mounts held_files held_overlays)
            (pivoted_so ∙ (λ i. map (pivoted_entry (root_so i) (new_so i) (location_of put)) value.mounts)) pinned_so
            (held_so ∙ ap (λ n. with_uses n entered
            (kept_with between pinned_files (map merged_seen value.overlays))) as_many)
            (left_so ∙ ap (λ n. without_uses n left (kept_with held_mounts held_files held_overlays)) as_many)
            unpinned_so)
