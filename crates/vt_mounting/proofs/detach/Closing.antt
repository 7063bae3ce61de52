-- A task closes a file: close(2).
use Rattle.std.proofs.Common.{◌≡◌, ◌<◌, refl, sym, ap, subst, ◌∙◌, inl, ℕ, ◌+◌, ◌==◌, nat_eq, ne_eqb, Bool, true, false, cond, not, List, [], ◌∷◌, ◌++◌, map, filter, find, Some, None, append_assoc, arith, option_and_then, eqb-true, leb-true}
use Rattle.vt_spec.proofs.Common.{Descriptor, Task, TaskName, ToClose, all_locations, and_parts, are_ascending_from, common_steps, descriptor_numbered, is_located_well, map-append, opens_for_writing, task_called, without_descriptor}
use Rattle.vt_mounting.proofs.Common.{Among, Filesystems, IsHeld, MountEntry, Tasks, WorldValue, among-append_right, among_from_list_all, called, changed_by, changed_called, counted, is_small_node, location_of, locations_in, number_of, replaced, times, world_of, writes_of_task, writes_on}
use Rattle.vt_laws_mounts.proofs.letting_go.Lists.{times_around}
use Rattle.vt_request.specs.Requests.{access_of}
use Rattle.vt_tasks.specs.declared.descriptors.OpenFile.{OpenFile}
use Rattle.vt_tasks.specs.Open.{numbered}
use Rattle.vt_mounting.specs.Detach.Events.{Permits}
use Rattle.vt_mounting.specs.Detach.Uses.{Merged, kept_of, kept_with, let_go_mount, released_use, without_location}
use Rattle.vt_mounting.proofs.detach.LocationsSeen.{seen_where_located}
use Rattle.vt_mounting.proofs.detach.Leaving.{left_done}
use Rattle.vt_mounting.proofs.detach.Moving.{Moves, Use}
use Rattle.vt_mounting.proofs.detach.Remaining.{remade_with}
use Rattle.vt_mounting.proofs.detach.Splits.{IsSplit, locations_around, replaced_split, times_replaced, writes_replaced}
use Rattle.vt_mounting.proofs.detach.Staying.{IsDone, after, staying_is_done}
pub use Rattle.vt_tasks.proofs.LocationLemmas.{place_of}

-- Descriptors

-- the descriptors of a task
abbrev pub Descriptors : Type 0
Descriptors = List (Descriptor ℕ)

-- those with another number
abbrev pub others : ℕ → Descriptors → Descriptors
others number all = filter (λ descriptor. not (number == descriptor.number)) all

-- one descriptor goes
pub record Goes (descriptor : Descriptor ℕ) (all rest : Descriptors) : Type 0 where
  pub front : Descriptors
  pub back : Descriptors
  pub was : all ≡ front ++ (descriptor ∷ back)
  pub is : rest ≡ front ++ back

none_goes : (number least : ℕ) (all : Descriptors) → are_ascending_from least all ≡ true → number < least
    → others number all ≡ all
none_goes number least [] rising below = refl
none_goes number least (first ∷ rest) rising below =
    let parts = and_parts _ _ rising in
    let above = leb-true least first.number parts.0 in
    (λ i. cond (not (ne_eqb number first.number (λ same. absurd (omega (arith, same, above, below))) i))
    (first ∷ others number rest) (others number rest))
    ∙ ap (λ later. first ∷ later) (none_goes number (first.number + 1) rest parts.1 (omega (arith, above, below)))

one_goes : (number least : ℕ) (all : Descriptors) {descriptor : Descriptor ℕ} → are_ascending_from least all ≡ true
    → find (λ one. number == one.number) all ≡ Some descriptor → Goes descriptor all (others number all)
one_goes number least [] rising found = absurd cc
one_goes number least (first ∷ rest) {descriptor} rising found =
    let parts = and_parts _ _ rising in
    by (number == first.number) refl found parts.1 (one_goes number (first.number + 1) rest {descriptor = descriptor}
    parts.1)
  where
    by : (b : Bool) → (number == first.number) ≡ b
        → cond b (Some first) (find (λ one. number == one.number) rest) ≡ Some descriptor
        → are_ascending_from (first.number + 1) rest ≡ true
        → (find (λ one. number == one.number) rest ≡ Some descriptor → Goes descriptor rest (others number rest))
        → Goes descriptor (first ∷ rest) (cond (not b) (first ∷ others number rest) (others number rest))
    by true e here rising later = record {
      front = [];
      back = rest;
      was = ap (λ one. one ∷ rest) (let same : first ≡ descriptor = cc in same);
      is = none_goes number (first.number + 1) rest rising
          (let same : number ≡ first.number = eqb-true number first.number e in omega (arith, same));
    }
    by false e here rising later = let goes = later here in record {
      front = first ∷ goes.front;
      back = goes.back;
      was = ap (λ all. first ∷ all) goes.was;
      is = ap (λ all. first ∷ all) goes.is;
    }

-- lists put together in another order of brackets are the same list
pub around : {A : Type 0} (front p q back : List A) → front ++ ((p ++ q) ++ back) ≡ (front ++ p) ++ (q ++ back)
around front p q back = ap (λ list. front ++ list) (append_assoc p q back) ∙ sym (append_assoc front p (q ++ back))

-- how a descriptor uses its location
abbrev pub used_by : Descriptor ℕ → Use
used_by descriptor = record { location = descriptor.location; writes = descriptor.writes }

module _ {value : WorldValue} (whole : IsHeld value) (name : TaskName) {task : Task ℕ}
    (found : task_called (world_of value) name ≡ Some task) (number : ℕ) {descriptor : Descriptor ℕ}
    (goes : Goes descriptor task.descriptors (others number task.descriptors)) where
  abbrev new : Task ℕ
  new = without_descriptor task number

  abbrev split : IsSplit task new value.tasks (replaced new value.tasks)
  split = replaced_split name value.tasks task new whole.in_world.tasks.one_task found refl

  closed_moves : Moves value (replaced new value.tasks) [] (used_by descriptor ∷ [])
  closed_moves = record {
    front = locations_in split.front ++ (task.root ∷ task.directory ∷ map place_of goes.front);
    back = map place_of goes.back ++ locations_in split.back;
    was = ap locations_in split.was ∙ locations_around split.front task split.back
        ∙ ap (λ places. locations_in split.front ++ ((task.root ∷ task.directory ∷ places) ++ locations_in split.back))
        (ap (map place_of) goes.was ∙ map-append place_of goes.front (descriptor ∷ goes.back))
        ∙ around (locations_in split.front) (task.root ∷ task.directory ∷ map place_of goes.front)
        (descriptor.location ∷ map place_of goes.back) (locations_in split.back);
    is = ap locations_in split.is ∙ locations_around split.front new split.back
        ∙ ap (λ places. locations_in split.front ++ ((task.root ∷ task.directory ∷ places) ++ locations_in split.back))
        (ap (map place_of) goes.is ∙ map-append place_of goes.front goes.back)
        ∙ around (locations_in split.front) (task.root ∷ task.directory ∷ map place_of goes.front)
        (map place_of goes.back) (locations_in split.back);
    there = refl;
    writes = λ mount.
        let moved = writes_replaced name value.tasks task new whole.in_world.tasks.one_task found refl mount in
        let was : writes_of_task mount task
        ≡ times (writes_on mount) (goes.front ++ goes.back) + cond (writes_on mount descriptor) 1 0 =
        ap (times (writes_on mount)) goes.was ∙ times_around (writes_on mount) goes.front goes.back descriptor in
        let is : writes_of_task mount new
        ≡ times (writes_on mount) (goes.front ++ goes.back) = ap (times (writes_on mount)) goes.is in
        omega (arith, moved, was, is);
  }

  same_tasks : (namespace : ℕ) → times (λ one. nat_eq namespace one.namespace) (replaced new value.tasks)
      ≡ times (λ one. nat_eq namespace one.namespace) value.tasks
  same_tasks namespace =
      let moved = times_replaced name value.tasks task new whole.in_world.tasks.one_task found refl
      (λ one. nat_eq namespace one.namespace) in
      omega (arith, moved)

-- A descriptor is closed, and what it alone used is let go.
pub file_is_closed : (value : WorldValue) (name : TaskName) (number : ℕ) (closed : OpenFile) (mounts : List MountEntry)
    (filesystems : Filesystems) (overlays : List Merged) (tasks : Tasks)
    → IsHeld value → Permits value name (ToClose number) → is_small_node closed.location.node ≡ true
    → ((task : Task ℕ) → Among task value.tasks → are_ascending_from 0 task.descriptors ≡ true)
    → Some (numbered number closed)
    ≡ option_and_then (λ task. descriptor_numbered task number) (called name value.tasks)
    → tasks ≡ changed_called name (λ task. without_descriptor task number) value.tasks
    → kept_with mounts filesystems overlays
    ≡ without_location closed.location (opens_for_writing (access_of closed.access)) (kept_of value)
    → IsDone value name (ToClose number) (remade_with value mounts filesystems overlays tasks)
file_is_closed value name number closed mounts filesystems overlays tasks whole permits few rising was is is_kept =
    let task = permits.task in
    let one = replaced_split name value.tasks task task whole.in_world.tasks.one_task permits.called refl in
    let among : Among task value.tasks = subst (λ all. Among task all) (sym one.was)
    (among-append_right one.front (task ∷ one.back) task (inl refl)) in
    let numbered_so : descriptor_numbered task number ≡ Some (numbered number closed) =
    sym (was ∙ ap (option_and_then (λ (other : Task ℕ). descriptor_numbered other number)) permits.called) in
    let goes = one_goes number 0 task.descriptors (rising task among) numbered_so in
    let moves = closed_moves whole name permits.called number goes in
    let well = among_from_list_all (is_located_well nat_eq (world_of value))
    (all_locations (world_of value)) whole.in_world.tasks.locations_live (location_of closed.location)
    (subst (λ all. Among (location_of closed.location) all) (sym moves.was)
    (among-append_right moves.front ((location_of closed.location ∷ []) ++ moves.back) (location_of closed.location)
    (inl refl))) in
    subst (λ all. IsDone value name (ToClose number) (remade_with value mounts filesystems overlays all))
    (sym (is ∙ ap (changed_by (λ other. without_descriptor other number) value.tasks) permits.called))
    (left_done {task = task} (record {
      whole = whole;
      moves = moves;
      is_kept = (is_kept ∙ (λ i. let_go_mount (counted closed.location.mount.count)
          (released_use (counted closed.location.mount.count)
          (sym (seen_where_located value whole closed.location few well) i, number_of closed.location.node)
          (opens_for_writing (access_of closed.access)) (kept_of value))));
      is = record { called = permits.called; given = permits.given; named = refl; applied = λ fresh. refl };
      inside = same_tasks whole name permits.called number goes;
    }))

-- no file has that number
pub nothing_is_closed : (value : WorldValue) (name : TaskName) (number : ℕ) (tasks : Tasks)
    → IsHeld value → Permits value name (ToClose number)
    → None ≡ option_and_then (λ task. descriptor_numbered task number) (called name value.tasks)
    → tasks ≡ changed_called name (λ task. without_descriptor task number) value.tasks
    → IsDone value name (ToClose number) (after value tasks)
nothing_is_closed value name number tasks whole permits was is =
    let task = permits.task in
    let none : descriptor_numbered task number ≡ None = sym (was ∙ ap (option_and_then
    (λ (other : Task ℕ). descriptor_numbered other number)) permits.called) in
    let same = all_stay task.descriptors none in
    staying_is_done {name = name} {permit = ToClose number} {task = task} {new = without_descriptor task number} whole
    (record {
      called = permits.called;
      given = permits.given;
      named = refl;
      applied = λ fresh. refl;
      same_name = refl;
      same_places = (λ i. task.root ∷ task.directory ∷ map place_of (same i));
      same_namespace = refl;
      same_descriptors = same;
    }) (is ∙ ap (changed_by (λ other. without_descriptor other number) value.tasks) permits.called)
  where
    all_stay : (all : Descriptors) → find (λ one. number == one.number) all ≡ None → others number all ≡ all
    all_stay [] e = refl
    all_stay (first ∷ rest) e = grind (arith, common_steps, all_stay rest)
