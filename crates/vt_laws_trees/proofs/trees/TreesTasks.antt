-- What calls do to tasks keeps the limits of tasks.
use Rattle.std.proofs.Common.{nat_eq, ◌≡◌, refl, true≢false, ℕ, suc, ◌+◌, ◌≤◌, ◌==◌, ◌%◌, arith, nat_le, nat_lt, eq-eqb, eqb-true, le-leb, le-ltb, leb-true, leb-false, lt-ltb, Bool, true, false, not, cond, List, [], ◌∷◌, ◌++◌, length, map, ◌&&◌, Option, Some, None, length-append, filter, find}
use Rattle.vt_spec.proofs.Common.{Access, Among, CopyUp, Descriptor, ForkWords, Fresh, IsWorld, Location, Task, TaskName, World, all-filter, among_from_list_all, and_parts, are_ascending_from, child_credentials, child_name, child_of, common_steps, deepest_name, found_among, free_above, free_from, free_number, inserted, is_within_limits, list_all, most_descriptors, most_forks, opens_for_reading, opens_for_writing, pwritten, replaced_if_called, same_name, stands_on_directories, task_called, tasks-with_change, with_copy, with_descriptor, without_descriptor}
use Rattle.std.proofs.Math.Nat.{mod-lt}
use Rattle.vt_spec.specs.Machine.Tasks.{permission_bits}
pub use Rattle.std.proofs.lemmas.Bool.{and_from}
use Rattle.vt_laws_trees.proofs.trees.Lists.{length-filter_le}
use Rattle.vt_spec.proofs.Descriptors.{ascending-filter}

-- a task that is called is there
pub called_there : (tasks : List (Task ℕ)) (name : TaskName) (task : Task ℕ)
    → find (λ (other : Task ℕ). same_name name other.name) tasks ≡ Some task → Among task tasks
called_there tasks name task called = found_among (λ (other : Task ℕ). same_name name other.name) tasks task called

-- and stands on directories
pub called_stands : (world : World ℕ) → IsWorld nat_eq world → (task : Task ℕ)
    → task_called world task.name ≡ Some task → stands_on_directories nat_eq world task ≡ true
called_stands world conditions task called =
    among_from_list_all (stands_on_directories nat_eq world) world.tasks conditions.tasks.directories task
    (called_there world.tasks task.name task called)

-- a file that is copied up, or written, leaves the tasks as they were
pub tasks-with_copy : (fresh : Fresh ℕ) (world : World ℕ) (copies : Bool) (file : Location ℕ)
    → (with_copy nat_eq copies fresh world file).tasks ≡ world.tasks
tasks-with_copy fresh world true file = tasks-with_change fresh world file (CopyUp file.node)
tasks-with_copy fresh world false file = refl

pub tasks-pwritten : (fresh : Fresh ℕ) (world : World ℕ) (file : Location ℕ) (offset : ℕ) (bytes : List ℕ)
    → (pwritten nat_eq fresh world file offset bytes).tasks ≡ world.tasks
tasks-pwritten fresh world file offset [] = refl
tasks-pwritten fresh world file offset (byte ∷ bytes) = tasks-with_change fresh world file _

-- the limits, one by one
pub record IsWithin (task : Task ℕ) : Type 0 where
  pub few : nat_le (length task.descriptors) most_descriptors ≡ true
  pub ascending : are_ascending_from 0 task.descriptors ≡ true
  pub low : list_all (λ descriptor. nat_lt descriptor.number most_descriptors) task.descriptors ≡ true
  pub forks : nat_le task.forks most_forks ≡ true
  pub depth : nat_le (length task.name) deepest_name ≡ true
  pub groups : nat_le (length task.credentials.groups) 32 ≡ true
  pub umask : nat_lt task.umask 512 ≡ true

pub limits_of : (task : Task ℕ) → IsWithin task → is_within_limits task ≡ true
limits_of task is = and_from _ (nat_lt task.umask 512) (and_from _ _ (and_from _ _
    (and_from _ (nat_le task.forks most_forks) (and_from _ _ (and_from _ _ is.few is.ascending) is.low) is.forks)
    is.depth) is.groups) is.umask

pub within : (task : Task ℕ) → is_within_limits task ≡ true → IsWithin task
within task is =
    let f1 = nat_le (length task.descriptors) most_descriptors in
    let f2 = are_ascending_from 0 task.descriptors in
    let f3 = list_all (λ descriptor. nat_lt descriptor.number most_descriptors) task.descriptors in
    let f4 = nat_le task.forks most_forks in
    let f5 = nat_le (length task.name) deepest_name in
    let f6 = nat_le (length task.credentials.groups) 32 in
    let f7 = nat_lt task.umask 512 in
    let upto6 = (and_parts (f1 && f2 && f3 && f4 && f5 && f6) f7 is).0 in
    let upto5 = (and_parts (f1 && f2 && f3 && f4 && f5) f6 upto6).0 in
    let upto4 = (and_parts (f1 && f2 && f3 && f4) f5 upto5).0 in
    let upto3 = (and_parts (f1 && f2 && f3) f4 upto4).0 in
    let upto2 = (and_parts (f1 && f2) f3 upto3).0 in
    record {
      few = (and_parts f1 f2 upto2).0;
      ascending = (and_parts f1 f2 upto2).1;
      low = (and_parts (f1 && f2) f3 upto3).1;
      forks = (and_parts (f1 && f2 && f3) f4 upto4).1;
      depth = (and_parts (f1 && f2 && f3 && f4) f5 upto5).1;
      groups = (and_parts (f1 && f2 && f3 && f4 && f5) f6 upto6).1;
      umask = (and_parts (f1 && f2 && f3 && f4 && f5 && f6) f7 is).1;
    }

-- lists of tasks
pub all_mapped : {A : Type 0} (test : A → Bool) (change : A → A) → ((a : A) → test a ≡ true → test (change a) ≡ true)
    → (list : List A) → list_all test list ≡ true → list_all test (map change list) ≡ true
all_mapped test change keeps [] h = refl
all_mapped test change keeps (a ∷ list) h = and_from _ _ (keeps a ((and_parts (test a) (list_all test list) h).0))
    (all_mapped test change keeps list ((and_parts (test a) (list_all test list) h).1))

pub all_appended : {A : Type 0} (test : A → Bool) (list : List A) (a : A) → list_all test list ≡ true → test a ≡ true
    → list_all test (list ++ (a ∷ [])) ≡ true
all_appended test [] a h k = and_from (test a) true k refl
all_appended test (b ∷ list) a h k = and_from (test b) _ ((and_parts (test b) (list_all test list) h).0)
    (all_appended test list a ((and_parts (test b) (list_all test list) h).1) k)

pub replaced_within : (new old : Task ℕ) → is_within_limits new ≡ true → is_within_limits old ≡ true
    → is_within_limits (replaced_if_called new old) ≡ true
replaced_within new old h k = by (same_name new.name old.name)
  where
    by : (b : Bool) → is_within_limits (cond b new old) ≡ true
    by true = h
    by false = k

-- Descriptors: the least free number is no larger than how many there are
free_small : (number : ℕ) (list : List (Descriptor ℕ)) → free_from number list ≤ number + length list
free_small number [] = omega arith
free_small number (descriptor ∷ list) = grind (arith, common_steps, free_small (number + 1) list)

inserted_length : (new : Descriptor ℕ) (list : List (Descriptor ℕ)) → length (inserted new list) ≡ suc (length list)
inserted_length new [] = refl
inserted_length new (descriptor ∷ list) = grind (arith, common_steps, inserted_length new list)

inserted_all : (test : Descriptor ℕ → Bool) (new : Descriptor ℕ) (list : List (Descriptor ℕ)) → test new ≡ true
    → list_all test list ≡ true → list_all test (inserted new list) ≡ true
inserted_all test new [] h k = and_from (test new) true h refl
inserted_all test new (descriptor ∷ list) h k = by (nat_lt new.number descriptor.number)
    (inserted_all test new list h ((and_parts (test descriptor) (list_all test list) k).1))
  where
    by : (b : Bool) → list_all test (inserted new list) ≡ true
        → list_all test (cond b (new ∷ descriptor ∷ list) (descriptor ∷ inserted new list)) ≡ true
    by true rest = and_from (test new) (list_all test (descriptor ∷ list)) h k
    by false rest = and_from (test descriptor) _ ((and_parts (test descriptor) (list_all test list) k).0) rest

inserted_ascending : (least : ℕ) (new : Descriptor ℕ) (list : List (Descriptor ℕ)) → new.number ≡ free_from least list
    → are_ascending_from least list ≡ true → are_ascending_from least (inserted new list) ≡ true
inserted_ascending least new [] e h = and_from _ true (le-leb least new.number (omega (arith, e))) refl
inserted_ascending least new (descriptor ∷ list) e h = by _ refl e (λ f g. inserted_ascending (least + 1) new list f g)
  where
    low : nat_le least descriptor.number ≡ true
    low = (and_parts (nat_le least descriptor.number) (are_ascending_from (descriptor.number + 1) list) h).0

    rest : are_ascending_from (descriptor.number + 1) list ≡ true
    rest = (and_parts (nat_le least descriptor.number) (are_ascending_from (descriptor.number + 1) list) h).1

    by : (b : Bool) → (descriptor.number == least) ≡ b → new.number ≡ cond b (free_from (least + 1) list) least
        → (new.number ≡ free_from (least + 1) list → are_ascending_from (least + 1) list ≡ true
        → are_ascending_from (least + 1) (inserted new list) ≡ true) → are_ascending_from least
        (cond (nat_lt new.number descriptor.number) (new ∷ descriptor ∷ list) (descriptor ∷ inserted new list)) ≡ true
    by b same f later = grind (
      arith,
      common_steps,
      later,
      eqb-true,
      free_above,
      low,
      rest,
      le-ltb,
      lt-ltb,
      le-leb,
      true≢false,
      eq-eqb,
      leb-true,
    )

-- a descriptor more, where there are fewer than 256; and one less
pub opened_within : (task : Task ℕ) (location : Location ℕ) (access : Access) → is_within_limits task ≡ true
    → nat_le most_descriptors (length task.descriptors) ≡ false
    → is_within_limits (with_descriptor task location access) ≡ true
opened_within task location access is room =
    let limits = within task is in
    let fewer = leb-false most_descriptors (length task.descriptors) room in
    let new : Descriptor ℕ = record {
      number = free_number task;
      location = location;
      reads = opens_for_reading access;
      writes = opens_for_writing access;
    } in
    limits_of (with_descriptor task location access) (record {
      few = le-leb (length (inserted new task.descriptors)) most_descriptors
          (omega (arith, inserted_length new task.descriptors, fewer));
      ascending = inserted_ascending 0 new task.descriptors refl limits.ascending;
      low = inserted_all (λ descriptor. nat_lt descriptor.number most_descriptors) new task.descriptors
          (lt-ltb (free_number task) most_descriptors (omega (arith, free_small 0 task.descriptors, fewer))) limits.low;
      forks = limits.forks;
      depth = limits.depth;
      groups = limits.groups;
      umask = limits.umask;
    })

pub closed_within : (task : Task ℕ) (number : ℕ) → is_within_limits task ≡ true
    → is_within_limits (without_descriptor task number) ≡ true
closed_within task number is =
    let limits = within task is in
    let few = leb-true (length task.descriptors) most_descriptors limits.few in
    limits_of (without_descriptor task number) (record {
      few = le-leb (length (filter (λ descriptor. not (number == descriptor.number)) task.descriptors)) most_descriptors
          (omega (
            arith,
            few,
            length-filter_le (λ (descriptor : Descriptor ℕ). not (number == descriptor.number)) task.descriptors,
          ));
      ascending = ascending-filter
          (λ descriptor. not (number == descriptor.number)) 0 task.descriptors limits.ascending;
      low = all-filter (λ descriptor. nat_lt descriptor.number most_descriptors)
          (λ descriptor. not (number == descriptor.number)) task.descriptors limits.low;
      forks = limits.forks;
      depth = limits.depth;
      groups = limits.groups;
      umask = limits.umask;
    })

-- a parent and its child
pub parent_within : (task : Task ℕ) → is_within_limits task ≡ true → nat_le most_forks task.forks ≡ false
    → is_within_limits (record task { forks = task.forks + 1 }) ≡ true
parent_within task is room =
    let limits = within task is in
    let fewer = leb-false most_forks task.forks room in
    limits_of (record task { forks = task.forks + 1 }) (record {
      few = limits.few;
      ascending = limits.ascending;
      low = limits.low;
      forks = le-leb (task.forks + 1) most_forks (omega (arith, fewer));
      depth = limits.depth;
      groups = limits.groups;
      umask = limits.umask;
    })

few_groups : (task : Task ℕ) (words : Option ForkWords) → nat_le (length task.credentials.groups) 32 ≡ true
    → ((given : ForkWords) → words ≡ Some given → nat_le (length given.groups) 32 ≡ true)
    → nat_le (length (child_credentials task.credentials words).groups) 32 ≡ true
few_groups task None own given = own
few_groups task (Some words) own given = given words refl

pub child_within : (task : Task ℕ) (words : Option ForkWords) → is_within_limits task ≡ true
    → nat_le deepest_name (length task.name) ≡ false
    → ((given : ForkWords) → words ≡ Some given → nat_le (length given.groups) 32 ≡ true)
    → is_within_limits (child_of task (child_credentials task.credentials words)) ≡ true
child_within task words is room given =
    let limits = within task is in
    let fewer = leb-false deepest_name (length task.name) room in
    limits_of (child_of task (child_credentials task.credentials words)) (record {
      few = le-leb 0 most_descriptors (omega arith);
      ascending = refl;
      low = refl;
      forks = le-leb 0 most_forks (omega arith);
      depth = le-leb (length (child_name task)) deepest_name
          (omega (arith, length-append task.name ((task.forks + 1) ∷ []), fewer));
      groups = few_groups task words limits.groups given;
      umask = limits.umask;
    })

pub masked_within : (task : Task ℕ) (mode : ℕ) → is_within_limits task ≡ true
    → is_within_limits (record task { umask = permission_bits mode }) ≡ true
masked_within task mode is =
    let limits = within task is in
    limits_of (record task { umask = permission_bits mode }) (record {
      few = limits.few;
      ascending = limits.ascending;
      low = limits.low;
      forks = limits.forks;
      depth = limits.depth;
      groups = limits.groups;
      umask = lt-ltb (mode % 512) 512 (mod-lt mode (omega arith));
    })
