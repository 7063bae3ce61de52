-- A task opens a file: open(2).
use Rattle.std.proofs.Common.{◌≡◌, refl, sym, ap, subst, ◌∙◌, ℕ, ◌+◌, nat_eq, Bool, true, false, cond, ◌&&◌, List, [], ◌∷◌, ◌++◌, map, Some, arith, nat_lt, leb-false}
use Rattle.vt_spec.proofs.Common.{Descriptor, Task, TaskName, ToOpen, free_number, inserted, is_located_well, map-append, opens_for_reading, opens_for_writing, task_called, with_copy, with_descriptor, with_task, without_dead_mounts}
use Rattle.vt_spec.specs.Language.Calls as spoken
use Rattle.vt_spec.specs.Machine.Mounts as meant
use Rattle.vt_ns.proofs.Common.{Filesystems, IsDone, IsHeld, Merged, MountEntry, Moves, Permits, Tasks, WorldValue, access_of, after, all_in_use, called, changed_called, counted, given_permits_are_seen_to, is_small_node, kept_of, kept_with, located_is_named, location_of, mounts_of_worlds_stand, number_of, permit_fits, remade, replaced, replaced_split, seen_where_located, supply_of, times, with_location, with_use, world_of, writes_of_task}
use Rattle.vt_laws_mounts.proofs.letting_go.sweeps.OneByOne.{mounts_go_one_by_one}
use Rattle.vt_laws_mounts.proofs.letting_go.leaving.PlacesLeft.{mounts_but}
use Rattle.vt_tasks.specs.Counts.{locations_in}
use Rattle.vt_tasks.specs.declared.descriptors.OpenFile.{OpenFile}
use Rattle.vt_tasks.specs.TasksValue.{MayOpenMore, changed_by, with_open}
use Rattle.vt_world.specs.Held.{writes_on}
use Rattle.vt_laws_worlds.proofs.overlays_read.Changes.{opens_copy_nothing}
use Rattle.vt_mounting.proofs.detach.Closing.{Goes, around, place_of, used_by}
use Rattle.vt_mounting.proofs.detach.Moving.{only_left}
use Rattle.vt_mounting.proofs.detach.Remaining.{remains_done}
use Rattle.vt_mounting.proofs.detach.Splits.{IsSplit, locations_around, times_replaced, writes_replaced}
use Rattle.vt_laws_mounts.proofs.letting_go.Lists.{times_around}

-- a descriptor that is put in can be taken out
pub inserted_goes : (new : Descriptor ℕ) (all : List (Descriptor ℕ)) → Goes new (inserted new all) all
inserted_goes new [] = record { front = []; back = []; was = refl; is = refl }
inserted_goes new (first ∷ rest) = by (nat_lt new.number first.number) (inserted_goes new rest)
  where
    by : (b : Bool) → Goes new (inserted new rest) rest
        → Goes new (cond b (new ∷ first ∷ rest) (first ∷ inserted new rest)) (first ∷ rest)
    by true later = record { front = []; back = first ∷ rest; was = refl; is = refl }
    by false later = record {
      front = first ∷ later.front;
      back = later.back;
      was = ap (λ all. first ∷ all) later.was;
      is = ap (λ all. first ∷ all) later.is;
    }

module _ (value : WorldValue) (whole : IsHeld value) (name : TaskName) (task : Task ℕ)
    (found : task_called (world_of value) name ≡ Some task) (descriptor : Descriptor ℕ)
    (well : is_located_well nat_eq (world_of value) descriptor.location ≡ true) where
  abbrev opens : Task ℕ
  opens = record task { descriptors = inserted descriptor task.descriptors }

  abbrev goes : Goes descriptor opens.descriptors task.descriptors
  goes = inserted_goes descriptor task.descriptors

  abbrev split : IsSplit task opens value.tasks (replaced opens value.tasks)
  split = replaced_split name value.tasks task opens whole.in_world.tasks.one_task found refl

  -- the task with a descriptor more uses one location more
  pub opened_moves : Moves value (replaced opens value.tasks) (used_by descriptor ∷ []) []
  opened_moves = record {
    front = locations_in split.front ++ (task.root ∷ task.directory ∷ map place_of goes.front);
    back = map place_of goes.back ++ locations_in split.back;
    was = ap locations_in split.was ∙ locations_around split.front task split.back
        ∙ ap (λ places. locations_in split.front ++ ((task.root ∷ task.directory ∷ places) ++ locations_in split.back))
        (ap (map place_of) goes.is ∙ map-append place_of goes.front goes.back)
        ∙ around (locations_in split.front) (task.root ∷ task.directory ∷ map place_of goes.front)
        (map place_of goes.back)
        (locations_in split.back);
    is = ap locations_in split.is ∙ locations_around split.front opens split.back
        ∙ ap (λ places. locations_in split.front ++ ((task.root ∷ task.directory ∷ places) ++ locations_in split.back))
        (ap (map place_of) goes.was ∙ map-append place_of goes.front (descriptor ∷ goes.back))
        ∙ around (locations_in split.front) (task.root ∷ task.directory ∷ map place_of goes.front)
        (descriptor.location ∷ map place_of goes.back) (locations_in split.back);
    there = ap (λ b. b && true) well;
    writes = λ mount.
        let moved = writes_replaced name value.tasks task opens whole.in_world.tasks.one_task found refl mount in
        let is : writes_of_task mount opens
        ≡ times (writes_on mount) (goes.front ++ goes.back) + cond (writes_on mount descriptor) 1 0 =
        ap (times (writes_on mount)) goes.was ∙ times_around (writes_on mount) goes.front goes.back descriptor in
        let was : writes_of_task mount task
        ≡ times (writes_on mount) (goes.front ++ goes.back) = ap (times (writes_on mount)) goes.is in
        omega (arith, moved, was, is);
  }

  -- no mount goes where a file is opened
  pub opened_stays : without_dead_mounts nat_eq (world_of (after value (replaced opens value.tasks)))
      ≡ world_of (after value (replaced opens value.tasks))
  opened_stays = mounts_go_one_by_one (world_of (after value (replaced opens value.tasks))) []
      (mounts_but (world_of value) (replaced opens value.tasks) [] (all_in_use (world_of value) whole.in_world)
      (mounts_of_worlds_stand (world_of value) whole.in_world)
      (only_left value whole (replaced opens value.tasks) (used_by descriptor ∷ []) [] opened_moves))

  -- each namespace has as many tasks as before
  pub opened_tasks : (namespace : ℕ) → times (λ one. nat_eq namespace one.namespace) (replaced opens value.tasks)
      ≡ times (λ one. nat_eq namespace one.namespace) value.tasks
  opened_tasks namespace =
      let moved = times_replaced name value.tasks task opens whole.in_world.tasks.one_task found refl
      (λ one. nat_eq namespace one.namespace) in
      omega (arith, moved)

-- a file is opened
pub file_is_opened : (value : WorldValue) (name : TaskName) (opened : OpenFile) (mounts : List MountEntry)
    (filesystems : Filesystems) (overlays : List Merged) (tasks : Tasks)
    → IsHeld value → Permits value name (ToOpen (location_of opened.location) (access_of opened.access))
    → is_small_node opened.location.node ≡ true → tasks ≡ changed_called name (with_open opened) value.tasks
    → kept_with mounts filesystems overlays ≡ with_location opened.location (opens_for_writing (access_of opened.access))
    (kept_of value) → IsDone value name (ToOpen (location_of opened.location) (access_of opened.access))
    (remade value mounts filesystems tasks)
file_is_opened value name opened mounts filesystems overlays tasks whole permits few is is_kept =
    let task = permits.task in
    let file = location_of opened.location in
    let access = access_of opened.access in
    let well : is_located_well nat_eq (world_of value) file
    ≡ true = (permit_fits value whole name (ToOpen file access) permits).names.reached.there in
    let descriptor : Descriptor ℕ = record {
      number = free_number task;
      location = file;
      reads = opens_for_reading access;
      writes = opens_for_writing access;
    } in
    let opens = with_descriptor task file access in
    subst (λ all. IsDone value name (ToOpen file access) (remade value mounts filesystems all))
    (sym (is ∙ ap (changed_by (with_open opened) value.tasks) permits.called))
    (remains_done value whole (replaced opens value.tasks) (used_by descriptor ∷ []) []
    (opened_moves value whole name task permits.called descriptor well) mounts filesystems overlays
    (is_kept ∙ (λ i. with_use (counted opened.location.mount.count)
    (sym (seen_where_located value whole opened.location few well) i, number_of opened.location.node)
    (opens_for_writing access) (kept_of value)))
    (opened_stays value whole name task permits.called descriptor well) name (ToOpen file access) task (record {
      called = permits.called;
      given = permits.given;
      named = located_is_named value whole file well;
      applied = λ fresh. ap (λ b. with_task (with_copy nat_eq b fresh (world_of value) file) opens)
          (opens_copy_nothing (world_of value) (supply_of value (ToOpen file access)) task file access
          whole.overlays.read_only whole.overlays.writers permits.given);
    }) (opened_tasks value whole name task permits.called descriptor well))

-- the task may open another file
pub may_open_more : (value : WorldValue) → IsHeld value
    → (name : TaskName) (file : meant.Location ℕ) (access : spoken.Access)
    → Permits value name (ToOpen file access) → MayOpenMore (called name value.tasks)
may_open_more value whole name file access permits = subst MayOpenMore (sym permits.called)
    (leb-false _ _ (given_permits_are_seen_to (world_of value) (supply_of value (ToOpen file access)) permits.task
    (ToOpen file access) whole.in_world permits.given).1)
