-- A call that changes tasks alone, and lets nothing go, ends in the part as in the world.
use Rattle.std.proofs.Common.{◌≡◌, refl, sym, ap, ◌∙◌, ℕ, nat_eq, List, [], Some, Ok, filter, flat_map, map}
use Rattle.vt_spec.proofs.Common.{Among, Answer, Call, Fresh, Location, Outcome, Task, TaskName, World, all_locations, granted, is_member_task, locations_of, numbers_raised, part_of, policy, raised, raised_task, settled, task_called}
use Rattle.vt_laws_members.proofs.judging.Common.{sealing_of}
use Rattle.vt_laws_members.proofs.Common.{AllInUse, all_in_use, nothing_goes}
use Rattle.vt_laws_members.specs.Changes.Changes.{EndsAlike, IsCallOfTheirs, grown}
use Rattle.vt_laws_members.proofs.changes.looks.Told.{ended_alike, ran, same_caller}
use Rattle.vt_laws_members.proofs.changes.part.PartAgain.{part_again}
use Rattle.vt_laws_members.proofs.changes.part.SettledPart.{part_in_use}
use Rattle.vt_laws_members.proofs.changes.tasks.MoreLocations.{in_use_later}
use Rattle.vt_laws_members.proofs.changes.tasks.RaisedTasks.{tasks_raised}
use Rattle.vt_laws_members.proofs.changes.tasks.Retasked.{SeeAlike, retasked}

-- the tasks that a call of a task leaves, in a world where it finds these
pub record LeavesTasks (world : World ℕ) (names set : List TaskName) (name : TaskName)
    (tasks : List (Task ℕ)) : Type 0 where
  pub more : (location : Location ℕ) → Among location (all_locations world)
      → Among location (flat_map locations_of tasks)
  pub sees : SeeAlike world names set (map (raised_task name) tasks) (raised world.change)

-- the outcome with these tasks
abbrev pub with_tasks : World ℕ → TaskName → Answer → List (Task ℕ) → Outcome ℕ
with_tasks world name answer tasks =
    granted answer (numbers_raised nat_eq world name [] (settled nat_eq (record world { tasks = tasks })))

module _ {world : World ℕ} {name : TaskName} (answer : Answer) (in_use : AllInUse world) {names set : List TaskName}
    {tasks : List (Task ℕ)} (leaves : LeavesTasks world names set name tasks) where
  abbrev ended : World ℕ
  ended = record world { tasks = map (raised_task name) tasks; change = raised world.change }

  pub ends_so : with_tasks world name answer tasks ≡ granted answer ended
  ends_so = ap (λ w. granted answer (numbers_raised nat_eq world name [] w))
      (nothing_goes (record world { tasks = tasks }) (in_use_later world tasks world.change in_use leaves.more))
      ∙ ap (granted answer) (tasks_raised world name tasks)

  pub part_of_ended : part_of nat_eq ended set
      ≡ record (part_of nat_eq world names) { tasks = filter (is_member_task set) (map (raised_task name) tasks) }
  part_of_ended = retasked world names set (map (raised_task name) tasks) (raised world.change) leaves.sees

pub tasks_end_alike : (world : World ℕ) (names set : List TaskName) (name : TaskName) (call : Call)
    → (it : IsCallOfTheirs world names name call) (task : Task ℕ) → task_called world name ≡ Some task
    → (fresh other : Fresh ℕ) (answer : Answer) → grown names name call (Ok answer) ≡ set
    → (tasks tasks_too : List (Task ℕ)) → ran name call world fresh (Some task) ≡ with_tasks world name answer tasks
    → ran name call (part_of nat_eq world names) other (Some task)
    ≡ with_tasks (part_of nat_eq world names) name answer tasks_too
    → LeavesTasks world names set name tasks → LeavesTasks (part_of nat_eq world names) names set name tasks_too
    → filter (is_member_task set) (map (raised_task name) tasks)
    ≡ filter (is_member_task set) (map (raised_task name) tasks_too) → EndsAlike world names name call fresh other
tasks_end_alike world names set name call it task found fresh other answer stays tasks tasks_too one two leaves
    leaves_too same =
    let part : World ℕ = part_of nat_eq world names in
    let in_world : AllInUse world = all_in_use world it.is in
    let in_part : AllInUse part = part_in_use (sealing_of it) in
    let left : World ℕ = record world { tasks = map (raised_task name) tasks; change = raised world.change } in
    let left_too : World ℕ = record part { tasks = map (raised_task name) tasks_too; change = raised part.change } in
    let first : policy nat_eq fresh world name call ≡ granted answer left =
    cc (ends_so answer in_world leaves) in
    let second : policy nat_eq other part name call ≡ granted answer left_too =
    cc (same_caller (sealing_of it) name it.theirs, ends_so answer in_part leaves_too) in
    let parts : part_of nat_eq left set ≡ part_of nat_eq left_too set =
    part_of_ended answer in_world leaves ∙ (λ i. record (sym (part_again world names it.is) i) { tasks = same i })
    ∙ sym (part_of_ended answer in_part leaves_too) in
    ended_alike names name call first second (rw stays (record { answer = refl; part = parts }))
