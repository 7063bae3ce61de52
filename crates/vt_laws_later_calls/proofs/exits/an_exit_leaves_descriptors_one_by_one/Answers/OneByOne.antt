-- Descriptors are closed one after the other, with a sweep after each, and then the task ends.
use Rattle.std.proofs.Common.{arith, ◌≡◌, refl, ap, ◌∙◌, ℕ, nat_eq, Bool, true, false, cond, not, List, [], ◌∷◌, Option, Some, None, filter, flat_map, map}
use Rattle.vt_spec.proofs.Common.{Fresh, Location, MountInvariants, Task, TaskName, ToExit, World, all_locations, apply, common_steps, locations_of, namespaces_ended, replaced_if_called, same_name, same_name_itself, settled, task_called, with_task, without_descriptor}
use Rattle.vt_laws_mounts.proofs.letting_go.ends.EndsInTurn.{one_sweep_for_exits_with_overlays}
use Rattle.vt_laws_mounts.proofs.letting_go.leaving.LeftOneByOne.{one_sweep_with_overlays}
use Rattle.vt_laws_later_calls.proofs.Common.{Among, HasTrees, IsSettled, RealsAreThere, UppersArePlain, among-flat_map, among-from_filter, among-from_flat_map, among-from_map, among-map, called_there, comes_nowhere, comes_nowhere_itself, is_location_among, list_all_from_among, location_among, name_found, with_sweeps, worlds_are_settled}
use Rattle.vt_laws_mounts.proofs.letting_go.mounting.MountsSwept.{mounts_stand}
use Rattle.vt_laws_worlds.proofs.kept.MountsAlike.{same_mounts}
use Rattle.vt_laws_later_calls.specs.Exits.{ExitLeavesOneByOne, closed_by, closed_in}

-- the locations of a task with a descriptor less are locations of the task
still_located : (task : Task ℕ) (number : ℕ) (location : Location ℕ)
    → Among location (locations_of (without_descriptor task number)) → Among location (locations_of task)
still_located task number location known = grind (arith, common_steps, among-from_map, among-map, among-from_filter)

-- a task of the world that closes a descriptor comes to no new location
closing_comes_nowhere : (world : World ℕ) (task : Task ℕ) (number : ℕ) → Among task world.tasks
    → comes_nowhere world (with_task world (without_descriptor task number)).tasks ≡ true
closing_comes_nowhere world task number there = list_all_from_among (is_location_among (all_locations world))
    (flat_map locations_of (map change world.tasks)) (λ location m. let from = among-from_flat_map locations_of
    (map change world.tasks) location m in let old = among-from_map change world.tasks from.0 from.1 in let was = by
    location old.0 old.1 (same_name task.name old.0.name) (rw (← old.2) from.2) in location_among (all_locations world)
    location (among-flat_map locations_of world.tasks was.0 location was.1 was.2))
  where
    change : Task ℕ → Task ℕ
    change = replaced_if_called (without_descriptor task number)

    by : (location : Location ℕ) (old : Task ℕ) → Among old world.tasks → (b : Bool)
        → Among location (locations_of (cond b (without_descriptor task number) old))
        → (was : Task ℕ) × Among was world.tasks × Among location (locations_of was)
    by location old m true n = (task, there, still_located task number location n)
    by location old m false n = (old, m, n)

-- a task that was changed is gone with the others of its name
gone_alike : (name : TaskName) (new : Task ℕ) → name ≡ new.name → (tasks : List (Task ℕ))
    → filter (λ other. not (same_name name other.name)) (map (replaced_if_called new) tasks)
    ≡ filter (λ other. not (same_name name other.name)) tasks
gone_alike name new called [] = refl
gone_alike name new called (old ∷ tasks) =
    grind (arith, common_steps, same_name_itself, gone_alike name new called tasks)

module _ (fresh : Fresh ℕ) (task : Task ℕ) where
  abbrev ended : World ℕ → World ℕ
  ended world = settled nat_eq (apply nat_eq fresh world task ToExit).world

  abbrev one_by_one : World ℕ → List ℕ → World ℕ
  one_by_one world numbers = with_sweeps (closed_in fresh task.name) world numbers

  -- from whichever world of trees, swept, the same is left
  abbrev EndsAlike : List ℕ → Type 0
  EndsAlike numbers =
      (world : World ℕ) → HasTrees world → UppersArePlain world → RealsAreThere world → MountInvariants nat_eq world
      → ended (one_by_one (settled nat_eq world) numbers) ≡ ended world

  closed_in_turn : (numbers : List ℕ) → EndsAlike numbers
  closed_in_turn [] world trees uppers reals kept =
      one_sweep_for_exits_with_overlays fresh world task trees uppers reals kept
  closed_in_turn (number ∷ rest) world trees uppers reals kept =
      by (task_called world task.name) refl (closed_in_turn rest)
    where
      closed : World ℕ → Option (Task ℕ) → World ℕ
      closed now found = settled nat_eq (closed_by fresh now number found)

      by : (found : Option (Task ℕ)) → task_called world task.name ≡ found → EndsAlike rest
          → ended (one_by_one (closed (settled nat_eq world) found) rest) ≡ ended world
      by None e later = ap (λ now. ended (one_by_one now rest))
          (one_sweep_with_overlays world world.tasks trees uppers reals (mounts_stand world kept)
          (comes_nowhere_itself world)) ∙ later world trees uppers reals kept
      by (Some one) e later = ap (λ now. ended (one_by_one now rest))
          (one_sweep_with_overlays world changed.tasks trees uppers reals (mounts_stand world kept)
          (closing_comes_nowhere world one number (called_there world.tasks task.name one e)))
          ∙ later changed trees uppers reals (same_mounts world changed refl refl kept)
          ∙ ap (λ tasks. settled nat_eq (namespaces_ended nat_eq (record world { tasks = tasks })))
          (gone_alike task.name _ (name_found world task.name one e) world.tasks)
        where
          changed : World ℕ
          changed = with_task world (without_descriptor one number)

pub exit_leaves_one_by_one : ExitLeavesOneByOne
exit_leaves_one_by_one fresh world task numbers is =
    cc (is.nothing_unused, closed_in_turn fresh task numbers world settles.trees settles.uppers settles.reals is.mounts)
  where
    settles : IsSettled world
    settles = worlds_are_settled world is
