-- A task gets another working directory, or another root: chdir(2), chroot(2).
use Rattle.std.proofs.Common.{◌≡◌, refl, sym, ap, subst, ◌∙◌, inl, inr, ℕ, ◌+◌, nat_eq, true, false, true≢false, ◌&&◌, List, [], ◌∷◌, ◌++◌, map, flat_map, find, Some, option_map, is_some, unwrap_or, append_assoc, arith}
use Rattle.vt_spec.proofs.Common.{Filesystem, ListsNumbers, Task, TaskName, ToSetDirectory, ToSetRoot, World, all_locations, and_parts, common_steps, filesystem_numbered, is_among, is_located_well, is_there, mount_at, no_filesystem, numbers_in_use, same_Some, task_called, used_by_filesystem, used_by_mount}
use Rattle.vt_spec.specs.Machine.Mounts as meant
use Rattle.vt_mounting.proofs.Common.{Among, Filesystems, IsHeld, MountEntry, Tasks, WorldValue, among-append_left, among-append_right, among-flat_map, among-from_map, among_from_all, among_from_list_all, among_numbers, called, changed_by, changed_called, counted, is_among_numbers, is_counted_before, is_small_node, location_named, location_of, locations_in, number_of, one_if, replaced, times, used_numbers_are_named, world_of, writes_of, writes_of_task, writes_on}
use Rattle.vt_location.specs.declared.locations.Location.{Location}
use Rattle.vt_mounting.specs.Detach.Events.{Permits}
use Rattle.vt_mounting.specs.Detach.Uses.{Kept, Merged, kept_of, kept_with, let_go_mount, released_use, with_location, with_use, without_location}
use Rattle.vt_mounting.proofs.detach.FileEvents.{permit_fits}
use Rattle.vt_mounting.proofs.detach.LocationsSeen.{seen_where_located}
use Rattle.vt_mounting.proofs.detach.Leaving.{left_done}
use Rattle.vt_mounting.proofs.detach.Moving.{Moves, Use}
use Rattle.vt_mounting.proofs.detach.Remaining.{remade_with}
use Rattle.vt_mounting.proofs.detach.Splits.{IsSplit, locations_around, replaced_split, times_replaced, writes_replaced}
use Rattle.vt_mounting.proofs.detach.Staying.{IsDone}

-- The numbers of a location that is there are counted

some_there : (filesystems : List (Filesystem ℕ)) (f node : ℕ)
    → is_some ((unwrap_or (find (λ x. nat_eq f x.number) filesystems) (no_filesystem f)).files.tree.node node) ≡ true
    → Among (unwrap_or (find (λ x. nat_eq f x.number) filesystems) (no_filesystem f)) filesystems
some_there [] f node e = absurd (true≢false (sym e))
some_there (x ∷ xs) f node e = grind (arith, common_steps, some_there xs f node)

pub located_is_named : (value : WorldValue) → IsHeld value → (location : meant.Location ℕ)
    → is_located_well nat_eq (world_of value) location ≡ true
    → location_named (is_counted_before value.next) location ≡ true
located_is_named value whole location well = (λ i. mount_named i && node_named i)
  where
    world : World ℕ
    world = world_of value

    named_if_used : (number : ℕ) → Among number (numbers_in_use world) → is_counted_before value.next number ≡ true
    named_if_used number m = used_numbers_are_named (is_counted_before value.next) world whole.given
        (3, 7, (λ e. absurd (omega (arith, e))), refl, refl) number (is_among_numbers number (numbers_in_use world) m)

    parts : (is_among nat_eq location.mount (map (λ mount. mount.number) world.mounts) ≡ true)
        × (is_there nat_eq world (mount_at nat_eq world location).filesystem location.node ≡ true)
    parts = and_parts _ _ well

    mount_named : is_counted_before value.next location.mount ≡ true
    mount_named =
        let from = among-from_map (λ (mount : meant.Mount ℕ). mount.number) world.mounts location.mount
        (among_numbers location.mount (map (λ mount. mount.number) world.mounts) parts.0) in
        named_if_used location.mount
        (among-append_left (flat_map used_by_mount world.mounts ++ flat_map used_by_filesystem world.filesystems)
        (map (λ namespace. namespace.number) world.namespaces) location.mount
        (among-append_left (flat_map used_by_mount world.mounts)
        (flat_map used_by_filesystem world.filesystems) location.mount
        (among-flat_map used_by_mount world.mounts from.0 location.mount from.1 (inl from.2))))

    node_named : is_counted_before value.next location.node ≡ true
    node_named =
        let f = filesystem_numbered nat_eq world (mount_at nat_eq world location).filesystem in
        let m = some_there world.filesystems (mount_at nat_eq world location).filesystem location.node parts.1 in
        named_if_used location.node
        (among-append_left (flat_map used_by_mount world.mounts ++ flat_map used_by_filesystem world.filesystems)
        (map (λ namespace. namespace.number) world.namespaces) location.node
        (among-append_right (flat_map used_by_mount world.mounts)
        (flat_map used_by_filesystem world.filesystems) location.node
        (among-flat_map used_by_filesystem world.filesystems f location.node m
        (inr (among_numbers location.node f.files.numbers
        (among_from_all (λ g. ListsNumbers nat_eq g.files) world.filesystems whole.in_world.files.numbers f m location.node ∙ parts.1))))))

-- a use that is no file open for writing
abbrev pub standing : meant.Location ℕ → Use
standing place = record { location = place; writes = false }

module _ {value : WorldValue} (whole : IsHeld value) (name : TaskName) {task : Task ℕ} (new : Task ℕ)
    (found : task_called (world_of value) name ≡ Some task)
    (same_name : new.name ≡ task.name) (same_descriptors : new.descriptors ≡ task.descriptors) where
  abbrev split : IsSplit task new value.tasks (replaced new value.tasks)
  split = replaced_split name value.tasks task new whole.in_world.tasks.one_task found same_name

  same_writes : (gained lost : meant.Location ℕ) (mount : ℕ)
      → writes_of mount value.tasks + 0 ≡ writes_of mount (replaced new value.tasks) + 0
  same_writes gained lost mount =
      let moved = writes_replaced name value.tasks task new whole.in_world.tasks.one_task found same_name mount in
      let own : writes_of_task mount new ≡ writes_of_task mount task = ap (times (writes_on mount)) same_descriptors in
      omega (arith, moved, own)

  pub same_tasks_in : new.namespace ≡ task.namespace → (namespace : ℕ)
      → times (λ one. nat_eq namespace one.namespace) (replaced new value.tasks)
      ≡ times (λ one. nat_eq namespace one.namespace) value.tasks
  same_tasks_in same namespace =
      let moved = times_replaced name value.tasks task new whole.in_world.tasks.one_task found same_name
      (λ one. nat_eq namespace one.namespace) in
      let own : one_if (nat_eq namespace new.namespace)
      ≡ one_if (nat_eq namespace task.namespace) = ap (λ number. one_if (nat_eq namespace number)) same in
      omega (arith, moved, own)

  pub directory_moves : new.root ≡ task.root → is_located_well nat_eq (world_of value) new.directory ≡ true
      → Moves value (replaced new value.tasks) (standing new.directory ∷ []) (standing task.directory ∷ [])
  directory_moves same_root well = record {
    front = locations_in split.front ++ (task.root ∷ []);
    back = map (λ descriptor. descriptor.location) task.descriptors ++ locations_in split.back;
    was = ap locations_in split.was ∙ locations_around split.front task split.back
        ∙ sym (append_assoc (locations_in split.front) (task.root ∷ []) _);
    is = ap locations_in split.is ∙ locations_around split.front new split.back ∙ (λ i. locations_in split.front
        ++ (same_root i ∷ new.directory
        ∷ (map (λ descriptor. descriptor.location) (same_descriptors i) ++ locations_in split.back)))
        ∙ sym (append_assoc (locations_in split.front) (task.root ∷ []) _);
    there = ap (λ b. b && true) well;
    writes = same_writes new.directory task.directory;
  }

  pub root_moves : new.directory ≡ task.directory → is_located_well nat_eq (world_of value) new.root ≡ true
      → Moves value (replaced new value.tasks) (standing new.root ∷ []) (standing task.root ∷ [])
  root_moves same_directory well = record {
    front = locations_in split.front;
    back = task.directory ∷ (map (λ descriptor. descriptor.location) task.descriptors ++ locations_in split.back);
    was = ap locations_in split.was ∙ locations_around split.front task split.back;
    is = ap locations_in split.is ∙ locations_around split.front new split.back ∙ (λ i. locations_in split.front
        ++ (new.root ∷ same_directory i
        ∷ (map (λ descriptor. descriptor.location) (same_descriptors i) ++ locations_in split.back)));
    there = ap (λ b. b && true) well;
    writes = same_writes new.root task.root;
  }

-- what code holds and leaves is what the definitions count
kept_so : {value : WorldValue} (whole : IsHeld value) (at left : Location) (k : Kept) {one : Kept}
    → is_small_node at.node ≡ true → is_small_node left.node ≡ true
    → is_located_well nat_eq (world_of value) (location_of at) ≡ true
    → is_located_well nat_eq (world_of value) (location_of left) ≡ true
    → one ≡ without_location left false (with_location at false k) → one ≡ let_go_mount (counted left.mount.count)
    (released_use (counted left.mount.count)
    ((mount_at nat_eq (world_of value) (location_of left)).filesystem, number_of left.node) false
    (with_use (counted at.mount.count)
    ((mount_at nat_eq (world_of value) (location_of at)).filesystem, number_of at.node) false k))
kept_so {value} whole at left k few few_left well well_left is = is ∙ (λ i. let_go_mount (counted left.mount.count)
    (released_use (counted left.mount.count)
    (sym (seen_where_located value whole left few_left well_left) i, number_of left.node) false
    (with_use (counted at.mount.count)
    (sym (seen_where_located value whole at few well) i, number_of at.node) false k)))

located_task : (value : WorldValue) → IsHeld value → (name : TaskName) (task : Task ℕ)
    → task_called (world_of value) name ≡ Some task → (is_located_well nat_eq (world_of value) task.root ≡ true)
    × (is_located_well nat_eq (world_of value) task.directory ≡ true)
located_task value whole name task found =
    let split = replaced_split name value.tasks task task whole.in_world.tasks.one_task found refl in
    let locations = ap locations_in split.was ∙ locations_around split.front task split.back in
    let rest = task.root ∷ task.directory
    ∷ (map (λ descriptor. descriptor.location) task.descriptors ++ locations_in split.back) in
    let well = among_from_list_all (is_located_well nat_eq (world_of value))
    (all_locations (world_of value)) whole.in_world.tasks.locations_live in (
      well task.root (subst (λ all. Among task.root all) (sym locations)
          (among-append_right (locations_in split.front) rest task.root (inl refl))),
      well task.directory (subst (λ all. Among task.directory all) (sym locations)
          (among-append_right (locations_in split.front) rest task.directory (inr (inl refl)))),
    )

pub directory_is_set : (value : WorldValue) (name : TaskName) (directory left : Location) (mounts : List MountEntry)
    (filesystems : Filesystems) (overlays : List Merged) (tasks : Tasks)
    → IsHeld value → Permits value name (ToSetDirectory (location_of directory))
    → is_small_node directory.node ≡ true → is_small_node left.node ≡ true
    → Some (location_of left) ≡ option_map (λ task. task.directory) (called name value.tasks)
    → tasks ≡ changed_called name (λ task. record task { directory = location_of directory }) value.tasks
    → kept_with mounts filesystems overlays ≡ without_location left false
    (with_location directory false (kept_of value))
    → IsDone value name (ToSetDirectory (location_of directory)) (remade_with value mounts filesystems overlays tasks)
directory_is_set value name directory left mounts filesystems overlays tasks whole permits few few_left was is is_kept =
    let task = permits.task in
    let place = location_of directory in
    let new = record task { directory = place } in
    let left_is : location_of left
    ≡ task.directory = same_Some _ _ (was ∙ ap (option_map (λ (one : Task ℕ). one.directory)) permits.called) in
    let well : is_located_well nat_eq (world_of value) place
    ≡ true = (permit_fits value whole name (ToSetDirectory place) permits).names.reached.there in
    let well_left = ap (is_located_well nat_eq (world_of value)) left_is
    ∙ (located_task value whole name task permits.called).1 in
    let tasks_are = is ∙ ap (changed_by (λ one. record one { directory = place }) value.tasks) permits.called in
    subst (λ all. IsDone value name (ToSetDirectory place) (remade_with value mounts filesystems overlays all)) (sym tasks_are)
    (left_done {task = task} (record {
      whole = whole;
      moves = subst (λ location. Moves value (replaced new value.tasks) (standing place ∷ []) (standing location ∷ []))
          (sym left_is) (directory_moves whole name new permits.called refl refl refl well);
      is_kept = kept_so whole directory left (kept_of value) few few_left well well_left is_kept;
      is = record {
        called = permits.called;
        given = permits.given;
        named = located_is_named value whole place well;
        applied = λ fresh. refl;
      };
      inside = same_tasks_in whole name new permits.called refl refl refl;
    }))

pub root_is_set : (value : WorldValue) (name : TaskName) (root left : Location) (mounts : List MountEntry)
    (filesystems : Filesystems) (overlays : List Merged) (tasks : Tasks)
    → IsHeld value → Permits value name (ToSetRoot (location_of root))
    → is_small_node root.node ≡ true → is_small_node left.node ≡ true
    → Some (location_of left) ≡ option_map (λ task. task.root) (called name value.tasks)
    → tasks ≡ changed_called name (λ task. record task { root = location_of root }) value.tasks
    → kept_with mounts filesystems overlays ≡ without_location left false (with_location root false (kept_of value))
    → IsDone value name (ToSetRoot (location_of root)) (remade_with value mounts filesystems overlays tasks)
root_is_set value name root left mounts filesystems overlays tasks whole permits few few_left was is is_kept =
    let task = permits.task in
    let place = location_of root in
    let new = record task { root = place } in
    let left_is : location_of left
    ≡ task.root = same_Some _ _ (was ∙ ap (option_map (λ (one : Task ℕ). one.root)) permits.called) in
    let well : is_located_well nat_eq (world_of value) place
    ≡ true = (permit_fits value whole name (ToSetRoot place) permits).names.reached.there in
    let well_left = ap (is_located_well nat_eq (world_of value)) left_is
    ∙ (located_task value whole name task permits.called).0 in
    let tasks_are = is ∙ ap (changed_by (λ one. record one { root = place }) value.tasks) permits.called in
    subst (λ all. IsDone value name (ToSetRoot place) (remade_with value mounts filesystems overlays all)) (sym tasks_are)
    (left_done {task = task} (record {
      whole = whole;
      moves = subst (λ location. Moves value (replaced new value.tasks) (standing place ∷ []) (standing location ∷ []))
          (sym left_is) (root_moves whole name new permits.called refl refl refl well);
      is_kept = kept_so whole root left (kept_of value) few few_left well well_left is_kept;
      is = record {
        called = permits.called;
        given = permits.given;
        named = located_is_named value whole place well;
        applied = λ fresh. refl;
      };
      inside = same_tasks_in whole name new permits.called refl refl refl;
    }))
