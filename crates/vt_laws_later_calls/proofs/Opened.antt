-- What a granted open was permitted, and the descriptor that a task then has.
use Rattle.std.proofs.Common.{◌≡◌, ◌<◌, refl, sym, ap, ℕ, ◌+◌, nat_eq, eqb-true, eq-eqb, Bool, true, false, cond, List, [], ◌∷◌, Some, Ok, Err, Result, find, map, arith, nat_lt, le-ltb, lt-ltb, nat_le}
use Rattle.vt_spec.proofs.Common.{Access, Answer, Descriptor, Fresh, Here, Location, Looks, NoCreation, OpenFile, Opened, Permit, Stop, Task, TaskName, ToOpen, World, and-false, and_parts, apply, are_ascending_from, bytes_eq-Decides, common_steps, free_above, free_from, inserted, is_within_limits, mount_at, object_walk, opened, opens_for_writing, replaced_if_called, same_name, same_ok, task_called, walk_end, with_task}
use Rattle.vt_laws_later_calls.proofs.Common.{Deny, IsGranted, IsPlain, opens, plain_numbered}

pub inserted_found : (number : ℕ) (descriptors : List (Descriptor ℕ)) (new : Descriptor ℕ)
    → are_ascending_from number descriptors ≡ true → new.number ≡ free_from number descriptors
    → find (λ (d : Descriptor ℕ). nat_eq new.number d.number) (inserted new descriptors) ≡ Some new
inserted_found number [] new order free = cc (eq-eqb new.number new.number refl)
inserted_found number (descriptor ∷ rest) new order free =
    by (nat_eq descriptor.number number) refl (inserted_found (number + 1) rest new)
  where
    parts : (nat_le number descriptor.number ≡ true) × (are_ascending_from (descriptor.number + 1) rest ≡ true)
    parts = and_parts (nat_le number descriptor.number) (are_ascending_from (descriptor.number + 1) rest) order

    is_free : (c : Bool) → nat_eq descriptor.number number ≡ c
        → new.number ≡ cond c (free_from (number + 1) rest) number
    is_free c e = cc

    less : (a b : ℕ) → nat_le a b ≡ true → nat_eq b a ≡ false → a < b
    less a b h e = grind arith

    other : (a b : ℕ) → b < a → nat_eq a b ≡ false
    other a b h = grind arith

    by : (c : Bool) → nat_eq descriptor.number number ≡ c
        → (are_ascending_from (number + 1) rest ≡ true → new.number ≡ free_from (number + 1) rest
        → find (λ (d : Descriptor ℕ). nat_eq new.number d.number) (inserted new rest) ≡ Some new)
        → find (λ (d : Descriptor ℕ). nat_eq new.number d.number)
        (cond (nat_lt new.number descriptor.number) (new ∷ descriptor ∷ rest) (descriptor ∷ inserted new rest))
        ≡ Some new
    by c e later =
        grind (arith, common_steps, eqb-true, is_free, free_above, le-ltb, other, parts, less, lt-ltb, eq-eqb)

-- a task in the place of the one with its name is found
pub called_replaced : (world : World ℕ) (name : TaskName) (task new : Task ℕ) → task_called world name ≡ Some task
    → new.name ≡ name → task_called (with_task world new) name ≡ Some new
called_replaced world name task new called own = go world.tasks called
  where
    itself : same_name name new.name ≡ true
    itself = (bytes_eq-Decides name new.name).1 (sym own)

    go : (list : List (Task ℕ)) → find (λ (t : Task ℕ). same_name name t.name) list ≡ Some task
        → find (λ (t : Task ℕ). same_name name t.name) (map (replaced_if_called new) list) ≡ Some new
    go [] e = cc
    go (t ∷ list) e = grind (arith, common_steps, own, itself, go list)

-- where a walk ended
pub walk_ended : {A : Type 0} (walk : Result A (Stop ℕ)) (a : A) → walk_end walk ≡ Ok a → walk ≡ Ok a
walk_ended (Ok b) a e = ap Ok (same_ok b a e)
walk_ended (Err stop) a e = cc

-- what a granted open was permitted
pub open_parts : (looks : Looks ℕ) {too_many : Permit ℕ → Bool} (task : Task ℕ) (path : List ℕ) (access : Access)
    (permit : Permit ℕ) → IsGranted nat_eq looks too_many task (OpenFile path access NoCreation) permit
    → (here : Here ℕ) × (object_walk nat_eq looks task path ≡ Ok here) × (permit ≡ ToOpen here.location access)
open_parts looks task path access permit (opens _ _ here room end passed) = (here, end, refl)

-- without overlays nothing is copied when a file is opened
pub open_spent : (fresh : Fresh ℕ) (world : World ℕ) (plain : IsPlain world) (task : Task ℕ) (file : Location ℕ)
    (access : Access) → apply nat_eq fresh world task (ToOpen file access) ≡ opened world task file access
open_spent fresh world plain task file access =
    cc (plain_numbered world plain (mount_at nat_eq world file).filesystem, and-false (opens_for_writing access))

pub opened_number : (a b : ℕ) → Path (Result Answer Deny) (Ok (Opened a)) (Ok (Opened b)) → b ≡ a
opened_number a b e = grind (arith, common_steps)

pub descriptors_in_order : (task : Task ℕ) → is_within_limits task ≡ true → are_ascending_from 0 task.descriptors ≡ true
descriptors_in_order task h =
    (and_parts _ _ (and_parts _ _ (and_parts _ _ (and_parts _ _ (and_parts _ _ (and_parts _ _ h).0).0).0).0).0).1
