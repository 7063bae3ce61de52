-- Events of tasks in which no location is left: umask(2), capset(2).
use Rattle.std.proofs.Common.{◌≡◌, refl, sym, ap, subst, ◌∙◌, ℕ, nat_eq, eq-eqb, true, [], Some, arith, option_map, unwrap_or}
use Rattle.vt_spec.proofs.Common.{Credentials, Filesystem, Fresh, IsWorld, Location, Permit, SameWorlds, Task, TaskName, ToSetCredentials, ToSetUmask, all_locations, apply, common_steps, located_in, locations_of, same_Some, settled, task_called, with_dropped, with_task}
use Rattle.vt_spec.specs.Machine.World.{first_credentials}
use Rattle.vt_mounting.proofs.Common.{CountsItsMounts, CountsItsUses, CountsWhatIsInIt, IsGiven, IsHeld, KeepsTo, Tasks, WorldValue, WritersHaveLayers, all_from_among, among_from_all, any_from_among, changed_by, changed_called, counted, filesystem_seen, given_permits_leave_every_world, given_to_task, inode_uses, inodes_seen, is_counted_before, list_all_from_among, one_if, permit_named, permits_keep_to_numbers, replaced, sameness_is_an_equivalence, times, world_of, writes_of, writes_of_task, writes_on}
use Rattle.vt_world.proofs.counting.Lowered.{counted_lowered, counts_there}
use Rattle.vt_laws_mounts.specs.LettingGo.Leaving.{only_these_are_left}
use Rattle.vt_laws_mounts.proofs.letting_go.sweeps.OfWorlds.{worlds_are_settled}
use Rattle.vt_laws_mounts.proofs.letting_go.leaving.LeftWithOverlays.{staying_keeps_overlays}
use Rattle.vt_mounting.specs.Detach.Events.{Becomes, Permits, credentials_called, left_by, supply_of}
use Rattle.vt_mounting.proofs.detach.Splits.{locations_stay, replaced_split, times_replaced, writes_replaced}
use Rattle.vt_mounting.proofs.detach.Overlaid.{overlays_counted}
use Rattle.vt_mounting.proofs.detach.Grouped.{same_has}
use Rattle.vt_mounting.proofs.detach.Writers.{left_writers}

-- the world with other tasks
abbrev pub after : WorldValue → Tasks → WorldValue
after value tasks = record value { tasks = tasks }

-- Where all locations are as they were, all counts are.

module _ (value : WorldValue) (tasks : Tasks)
    (same : all_locations (world_of (after value tasks)) ≡ all_locations (world_of value)) where
  same_located : (number : ℕ) → located_in nat_eq (world_of (after value tasks)) number
      ≡ located_in nat_eq (world_of value) number
  same_located number = grind (arith, common_steps)

  same_uses : (filesystem : Filesystem ℕ) (number : ℕ)
      → inode_uses (world_of value) filesystem number ≡ inode_uses (world_of (after value tasks)) filesystem number
  same_uses filesystem number = grind (arith, common_steps)

  -- what holds of each world holds where tasks keep what they use
  pub stays_held : IsHeld value → ((mount : ℕ) → writes_of mount tasks ≡ writes_of mount value.tasks)
      → ((namespace : ℕ) → times (λ task. nat_eq namespace task.namespace) tasks
      ≡ times (λ task. nat_eq namespace task.namespace) value.tasks) → IsWorld nat_eq (world_of (after value tasks))
      → KeepsTo (is_counted_before value.next) (world_of (after value tasks))
      → WritersHaveLayers (world_of (after value tasks)) → IsHeld (after value tasks)
  stays_held held writes inside is keeps writers = record {
    in_world = is;
    groups = same_has (world_of (after value tasks)) held.groups refl (λ group. refl);
    given = keeps;
    mounts = all_from_among (CountsItsUses (world_of (after value tasks))) value.mounts (λ entry m.
        let was = among_from_all (CountsItsUses (world_of value)) value.mounts held.mounts entry m in record {
          uses = was.uses ∙ ap (λ locations.
              times (λ (location : Location ℕ). nat_eq entry.mount.number location.mount) locations) (sym same);
          writers = was.writers ∙ sym (writes entry.mount.number);
        });
    filesystems = all_from_among (CountsItsMounts (world_of (after value tasks))) value.filesystems (λ entry m.
        let was = among_from_all (CountsItsMounts
        (world_of value)) value.filesystems held.filesystems entry m in
        let inodes = counts_there value held entry m in record {
          mounts = was.mounts;
          inodes = counted_lowered (world_of (after value tasks)) is held.overlays.read_only (filesystem_seen entry)
              (inodes_seen entry) (record {
                root = inodes.root;
                node = inodes.node;
                uses = λ number. inodes.uses number ∙ same_uses (filesystem_seen entry) number;
                count = inodes.count;
                once = inodes.once;
              });
        });
    own_inodes = held.own_inodes;
    overlays = record {
      merged = held.overlays.merged;
      read_only = held.overlays.read_only;
      writers = writers;
      named = held.overlays.named;
      overlays_rise = held.overlays.overlays_rise;
      all_rise = held.overlays.all_rise;
      mounts = overlays_counted value (after value tasks) held.overlays refl (λ number. refl);
      own_nodes = held.overlays.own_nodes;
    };
    namespaces = all_from_among (CountsWhatIsInIt (world_of (after value tasks))) value.namespaces (λ entry m.
        let was = among_from_all (CountsWhatIsInIt
        (world_of value)) value.namespaces held.namespaces entry m in record {
          tasks = was.tasks ∙ sym (inside (counted entry.count));
        });
  }

  -- no location is left
  pub none_left : only_these_are_left (world_of value) tasks [] ≡ true
  none_left = grind (arith, common_steps, eq-eqb, list_all_from_among, any_from_among)

-- What an event leaves in which a task gets another umask or other credentials, in the same place

pub record IsStaying (value : WorldValue) (name : TaskName) (permit : Permit ℕ) (task new : Task ℕ) : Type 0 where
  pub called : task_called (world_of value) name ≡ Some task
  pub given : IsGiven (supply_of value permit) (world_of value) task permit
  pub named : permit_named (is_counted_before value.next) permit ≡ true
  pub applied : (fresh : Fresh ℕ)
      → (apply nat_eq fresh (world_of value) task permit).world ≡ with_task (world_of value) new
  pub same_name : new.name ≡ task.name
  pub same_places : locations_of new ≡ locations_of task
  pub same_namespace : new.namespace ≡ task.namespace
  pub same_descriptors : new.descriptors ≡ task.descriptors

module _ {value : WorldValue} {name : TaskName} {permit : Permit ℕ} {task new : Task ℕ} (held : IsHeld value)
    (stays : IsStaying value name permit task new) where
  abbrev tasks_after : Tasks
  tasks_after = replaced new value.tasks

  places_stay : all_locations (world_of (after value tasks_after)) ≡ all_locations (world_of value)
  places_stay = locations_stay task new value.tasks tasks_after
      (replaced_split name value.tasks task new held.in_world.tasks.one_task stays.called stays.same_name) stays.same_places

  -- the settled world is the one with the new task
  pub stayed_exactly : (fresh : Fresh ℕ)
      → settled nat_eq (apply nat_eq fresh (world_of value) task permit).world ≡ world_of (after value tasks_after)
  stayed_exactly fresh = ap (settled nat_eq) (stays.applied fresh)
      ∙ staying_keeps_overlays (world_of value) tasks_after (worlds_are_settled (world_of value) held.in_world)
      (none_left value tasks_after places_stay)

  -- and code's world but for change numbers
  pub stayed_becomes : SameWorlds (left_by value task permit) (world_of (after value tasks_after))
  stayed_becomes = subst (λ world. SameWorlds world (world_of (after value tasks_after)))
      (sym (stayed_exactly (supply_of value permit)))
      (sameness_is_an_equivalence.itself (world_of (after value tasks_after)))

  -- what holds of each world holds of it
  pub stayed_held : IsHeld (after value tasks_after)
  stayed_held = stays_held value tasks_after places_stay held
      (λ mount. let moved = writes_replaced name value.tasks task new held.in_world.tasks.one_task stays.called stays.same_name mount in
      let own : writes_of_task mount new
      ≡ writes_of_task mount task = ap (times (writes_on mount)) stays.same_descriptors in omega (arith, moved, own))
      (λ namespace. let moved = times_replaced name value.tasks task new held.in_world.tasks.one_task stays.called stays.same_name (λ one. nat_eq namespace one.namespace) in
      let own : one_if (nat_eq namespace new.namespace) ≡ one_if (nat_eq namespace task.namespace) = ap
      (λ number. one_if (nat_eq namespace number)) stays.same_namespace in
      omega (arith, moved, own)) (subst (IsWorld nat_eq) (stayed_exactly (supply_of value permit))
      (given_permits_leave_every_world (world_of value) (supply_of value permit) task permit held.in_world
      (given_to_task (supply_of value permit) (world_of value) task permit stays.given))) (subst (KeepsTo (is_counted_before value.next)) (stayed_exactly (λ k. 0))
      (permits_keep_to_numbers (is_counted_before value.next) (λ k. 0)
      (world_of value) task permit stays.given.called held.given (λ k. refl) stays.named))
      (subst WritersHaveLayers (stayed_exactly (supply_of value permit))
      (left_writers value held task permit stays.given))

-- an event that leaves the invariants and does what its permit says
pub record IsDone (value : WorldValue) (name : TaskName) (permit : Permit ℕ) (new : WorldValue) : Type 0 where
  pub held : IsHeld new
  pub becomes : Becomes value name permit new

-- a world that code leaves is the one that the permit leaves
pub becomes_so : (value : WorldValue) (name : TaskName) (permit : Permit ℕ) (new : WorldValue) (task : Task ℕ)
    → task_called (world_of value) name ≡ Some task → SameWorlds (left_by value task permit) (world_of new)
    → Becomes value name permit new
becomes_so value name permit new task found same other called =
    subst (λ one. SameWorlds (left_by value one permit) (world_of new)) (same_Some task other (sym found ∙ called)) same

-- An event that changes a task and nothing that it uses is done.
pub staying_is_done : {value : WorldValue} {name : TaskName} {permit : Permit ℕ} {task new : Task ℕ} {tasks : Tasks}
    → IsHeld value → IsStaying value name permit task new → tasks ≡ replaced new value.tasks
    → IsDone value name permit (after value tasks)
staying_is_done {value} {name} {permit} {task} {new} held stays is =
    subst (λ others. IsDone value name permit (after value others)) (sym is) (record {
      held = stayed_held held stays;
      becomes = becomes_so value name permit (after value (replaced new value.tasks)) task stays.called
          (stayed_becomes held stays);
    })

-- The events

-- the umask is set
pub umask_is_set : (value : WorldValue) (name : TaskName) (umask : ℕ) (tasks : Tasks) → IsHeld value
    → Permits value name (ToSetUmask umask)
    → tasks ≡ changed_called name (λ task. record task { umask = umask }) value.tasks
    → IsDone value name (ToSetUmask umask) (after value tasks)
umask_is_set value name umask tasks held permits is =
    staying_is_done {name = name} {permit = ToSetUmask umask} {task = permits.task} {new = record permits.task {
      umask = umask;
    }} held
    (record {
      called = permits.called;
      given = permits.given;
      named = refl;
      applied = λ fresh. refl;
      same_name = refl;
      same_places = refl;
      same_namespace = refl;
      same_descriptors = refl;
    }) (is ∙ ap (changed_by (λ task. record task { umask = umask }) value.tasks) permits.called)

-- capabilities are dropped
pub caps_are_dropped : (value : WorldValue) (name : TaskName) (bits : ℕ) (tasks : Tasks) → IsHeld value
    → Permits value name (ToSetCredentials (with_dropped (credentials_called value name) bits))
    → tasks ≡ changed_called name (λ task. record task { credentials = with_dropped task.credentials bits }) value.tasks
    → IsDone value name (ToSetCredentials (with_dropped (credentials_called value name) bits)) (after value tasks)
caps_are_dropped value name bits tasks held permits is =
    staying_is_done {name = name} {permit = ToSetCredentials credentials} {task = permits.task}
    {new = record permits.task { credentials = credentials }} held (record {
      called = permits.called;
      given = permits.given;
      named = refl;
      applied = λ fresh. refl;
      same_name = refl;
      same_places = refl;
      same_namespace = refl;
      same_descriptors = refl;
    })
    (is ∙ ap (changed_by (λ task. record task { credentials = with_dropped task.credentials bits }) value.tasks) permits.called
    ∙ ap (λ own. replaced (record permits.task { credentials = with_dropped own bits }) value.tasks)
    (sym (ap (λ found. unwrap_or (option_map
    (λ (task : Task ℕ). task.credentials) found) first_credentials) permits.called)))
  where
    credentials : Credentials
    credentials = with_dropped (credentials_called value name) bits
