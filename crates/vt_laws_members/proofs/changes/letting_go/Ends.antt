-- A call by which tasks of a sealed set let locations go ends in the part as in the world.
use Rattle.std.proofs.Common.{◌≡◌, refl, sym, ap, subst, ◌∙◌, ⊎_elim, ℕ, nat_eq, true, List, [], ◌∷◌, Some, Ok, filter, is_some, map, not}
use Rattle.vt_spec.proofs.Common.{Among, Answer, Call, Fresh, IsWorld, Mount, Task, TaskName, World, among-from_filter_map, among_from_list_all, and_parts, granted, is_member_task, is_nowhere_or_attached, is_private, locations_of, members, part_of, policy, raised, raised_task, settled, task_called}
use Rattle.vt_laws_members.proofs.judging.Common.{sealing_of}
use Rattle.vt_laws_members.proofs.Common.{AllInUse, all_in_use, filter-map, keep, kept_how}
use Rattle.vt_laws_members.proofs.changes.tasks.Rights.{raised_is, sees_alike}
use Rattle.vt_laws_members.specs.Changes.Changes.{EndsAlike, IsCallOfTheirs, grown}
use Rattle.vt_laws_members.proofs.changes.looks.Told.{ended_alike, ran, same_caller}
use Rattle.vt_laws_members.proofs.changes.part.SettledPart.{part_in_use}
use Rattle.vt_laws_members.proofs.changes.tasks.Ending.{with_tasks}
use Rattle.vt_laws_members.proofs.changes.tasks.Retasked.{SeeAlike, retasked}
use Rattle.vt_laws_members.proofs.changes.letting_go.Changed.{LetsGo, Retasks}
use Rattle.vt_laws_members.proofs.changes.letting_go.Raised.{DetachedArePrivate, swept_raised}
use Rattle.vt_laws_members.proofs.changes.letting_go.SweptAlike.{swept_alike}

-- a task whose change number is raised stays a member
pub raised_members : (set : List TaskName) (name : TaskName) (list : List (Task ℕ))
    → filter (is_member_task set) (map (raised_task name) list)
    ≡ map (raised_task name) (filter (is_member_task set) list)
raised_members set name list = filter-map (is_member_task set) (raised_task name) list
    (λ t. cc (raised_is name (λ (x : Task ℕ). x.name) (λ x. refl) t))

-- detached mounts are private
pub private_in_world : (world : World ℕ) → IsWorld nat_eq world → DetachedArePrivate world
private_in_world world is m n none = (and_parts (not (is_some m.mount_point)) (is_private m.propagation)
    (cc (among_from_list_all is_nowhere_or_attached world.mounts is.mounts.nowhere m n))).1

pub private_in_part : (world : World ℕ) (names : List TaskName) → IsWorld nat_eq world
    → DetachedArePrivate (part_of nat_eq world names)
private_in_part world names is y n none =
    let from = among-from_filter_map (keep world names (members world names)) world.mounts y n in
    ⊎_elim (λ same. subst (λ (m : Mount ℕ). is_private m.propagation ≡ true) same
    (private_in_world world is from.0 from.1 (ap (λ (m : Mount ℕ). m.namespace) same ∙ none)))
    (λ stub. ap (λ (m : Mount ℕ). is_private m.propagation) (sym stub.0))
    (kept_how world names (members world names) from.0 y from.2)

-- tasks whose change numbers are raised see what they saw
pub raised_sees : (u : World ℕ) (set : List TaskName) (name : TaskName) (change : ℕ)
    → SeeAlike u set set (map (raised_task name) u.tasks) change
raised_sees u set name change =
    sees_alike u set (raised_task name) (raised_is name (λ (t : Task ℕ). t.name) (λ t. refl))
    (λ t m. raised_is name (λ (x : Task ℕ). x.namespace) (λ x. refl) t)
    (λ t m. raised_is name (λ (x : Task ℕ). x.root ∷ x.directory ∷ []) (λ x. refl) t) change
    (λ t m. raised_is name locations_of (λ x. refl) t)

module _ {before : World ℕ} (in_use : AllInUse before) (private_ones : DetachedArePrivate before) (name : TaskName)
    (set : List TaskName) (tasks : List (Task ℕ)) (answer : Answer) where
  abbrev later : World ℕ
  later = record before { tasks = tasks }

  abbrev pub ended : World ℕ
  ended = record (settled nat_eq later) { tasks = map (raised_task name) tasks; change = raised before.change }

  pub ends_so : with_tasks before name answer tasks ≡ granted answer ended
  ends_so = ap (granted answer) (swept_raised before in_use private_ones name tasks)

  pub part_of_ended : part_of nat_eq ended set ≡ record (part_of nat_eq (settled nat_eq later) set) {
    tasks = filter (is_member_task set) (map (raised_task name) tasks);
  }
  part_of_ended = retasked (settled nat_eq later) set set (map (raised_task name) tasks) (raised before.change)
      (raised_sees (settled nat_eq later) set name (raised before.change))

pub let_go_alike : (world : World ℕ) (names set : List TaskName) (name : TaskName) (call : Call)
    → (it : IsCallOfTheirs world names name call) (task : Task ℕ) → task_called world name ≡ Some task
    → (fresh other : Fresh ℕ) (answer : Answer) → grown names name call (Ok answer) ≡ set
    → (tasks tasks_too : List (Task ℕ)) → ran name call world fresh (Some task) ≡ with_tasks world name answer tasks
    → ran name call (part_of nat_eq world names) other (Some task) ≡ with_tasks (part_of nat_eq world names) name answer
    tasks_too → LetsGo (sealing_of it) set tasks
    → filter (is_member_task set) tasks_too ≡ filter (is_member_task set) tasks
    → ((t : Task ℕ) → Among t tasks_too → is_member_task set t ≡ true) → EndsAlike world names name call fresh other
let_go_alike world names set name call it task called fresh other answer stays tasks tasks_too one two lets same all =
    ended_alike names name call first second (rw stays (record { answer = refl; part = parts }))
  where
    part : World ℕ
    part = part_of nat_eq world names

    in_world : AllInUse world
    in_world = all_in_use world it.is

    in_part : AllInUse part
    in_part = part_in_use (sealing_of it)

    left : World ℕ
    left = ended in_world (private_in_world world it.is) name set tasks answer

    left_too : World ℕ
    left_too = ended in_part (private_in_part world names it.is) name set tasks_too answer

    first : policy nat_eq fresh world name call ≡ granted answer left
    first = cc (ends_so in_world (private_in_world world it.is) name set tasks answer)

    second : policy nat_eq other part name call ≡ granted answer left_too
    second = ap (ran name call part other) (same_caller (sealing_of it) name it.theirs ∙ called) ∙ two
        ∙ ends_so in_part (private_in_part world names it.is) name set tasks_too answer

    retasks : Retasks world names set
    retasks = record {
      sealing = sealing_of it;
      tasks = tasks;
      tasks_too = tasks_too;
      lets = lets;
      same = same;
      all = all;
    }

    parts : part_of nat_eq left set ≡ part_of nat_eq left_too set
    parts = part_of_ended in_world (private_in_world world it.is) name set tasks answer
        ∙ (λ i. record (swept_alike retasks i) {
          tasks = (raised_members set name tasks ∙ ap (map (raised_task name)) (sym same)
              ∙ sym (raised_members set name tasks_too)) i;
        }) ∙ sym (part_of_ended in_part (private_in_part world names it.is) name set tasks_too answer)
