-- Where filesystems change that a sealed set uses alone, the world and the part leave it one part.
use Rattle.std.proofs.Common.{arith, ◌≡◌, sym, ap, ◌∙◌, ℕ, nat_eq, true, List, Some, Ok, filter, map}
use Rattle.vt_spec.proofs.Common.{Among, Answer, Call, Filesystem, Fresh, Layer, Namespace, Task, TaskName, World, common_steps, granted, is_among, is_member_task, is_own_namespace, numbers_raised, own_lowers, part_of, raised_if_changed, raised_task, settled, task_called, used_filesystems, without_dead_mounts}
use Rattle.vt_laws_members.proofs.Common.{AllInUse, all_in_use, with_filesystems}
use Rattle.vt_laws_members.specs.Changes.Changes.{EndsAlike, IsCallOfTheirs, grown}
use Rattle.vt_laws_members.proofs.changes.files.FilesChanged.{part_with_layers}
use Rattle.vt_laws_members.proofs.changes.letting_go.Changed.{Retasks, sees_less}
use Rattle.vt_laws_members.proofs.changes.letting_go.Ends.{private_in_part, private_in_world, raised_members}
use Rattle.vt_laws_members.proofs.changes.letting_go.LessSeen.{less_used}
use Rattle.vt_laws_members.proofs.changes.letting_go.PartReady.{part_ready}
use Rattle.vt_laws_members.proofs.changes.letting_go.Raised.{DetachedArePrivate, swept_raised}
use Rattle.vt_laws_members.proofs.changes.letting_go.Ready.{Ready}
use Rattle.vt_laws_members.proofs.changes.letting_go.SeeLess.{now_less, part_of_less}
use Rattle.vt_laws_members.proofs.changes.letting_go.Sweep.{part_of_settled, swept_of}
use Rattle.vt_laws_members.proofs.changes.letting_go.WorldReady.{world_ready}
use Rattle.vt_laws_members.proofs.changes.looks.Told.{ran, same_caller}
use Rattle.vt_laws_members.proofs.changes.part.SettledPart.{part_in_use}
use Rattle.vt_laws_members.proofs.overlay_names.names.Raising.{raised_part}
use Rattle.vt_laws_members.proofs.overlay_names.names.SteppedReady.{ChangesTheirs, stepped_ready}

-- A world after the last step, in which mounts stay
module _ {before : World ℕ} (in_use : AllInUse before) (private_ones : DetachedArePrivate before) {set : List TaskName}
    {tasks : List (Task ℕ)} (step : Filesystem ℕ → Filesystem ℕ) (name : TaskName) (numbers : List ℕ) {used : List ℕ}
    {lowers : List (Layer ℕ)} (ready : Ready (without_dead_mounts nat_eq (with_filesystems (record before {
      tasks =
          tasks;
    }) step)) set used lowers) (theirs : (n : ℕ) → Among n numbers → is_among nat_eq n used ≡ true) where
  abbrev changed : World ℕ
  changed = with_filesystems (record before { tasks = tasks }) step

  part_of_raised : part_of nat_eq (numbers_raised nat_eq before name numbers (settled nat_eq changed)) set
      ≡ record (with_filesystems (part_of nat_eq (settled nat_eq changed) set) (raised_if_changed nat_eq numbers)) {
        tasks = filter (is_member_task set) (map (raised_task name) tasks);
      }
  part_of_raised = raised_part changed ready _ theirs before name ∙ (λ i. record
      (with_filesystems (part_of nat_eq (settled nat_eq changed) set) (raised_if_changed nat_eq numbers)) {
        namespaces = filter (λ (n : Namespace ℕ). is_own_namespace nat_eq changed set n.number)
            (ap (λ (w : World ℕ). w.namespaces) (swept_raised before in_use private_ones name tasks) i);
        tasks = filter (is_member_task set) (map (raised_task name) tasks);
      })

-- The world and the part
module _ {world : World ℕ} {names set : List TaskName} {name : TaskName} {call : Call}
    (it : IsCallOfTheirs world names name call) (left : Retasks world names set) (step : Filesystem ℕ → Filesystem ℕ)
  where
    abbrev part : World ℕ
    part = part_of nat_eq world names

    abbrev pub now : World ℕ
    now = record world { tasks = left.tasks }

    abbrev pub now_part : World ℕ
    now_part = record part { tasks = left.tasks_too }

    abbrev pub used_now : List ℕ
    used_now = used_filesystems nat_eq now set

    abbrev lowers_now : List (Layer ℕ)
    lowers_now = own_lowers nat_eq now set

    abbrev pub living : World ℕ
    living = without_dead_mounts nat_eq now

    abbrev pub living_part : World ℕ
    living_part = without_dead_mounts nat_eq now_part

    module _ (theirs : ChangesTheirs living set used_now step)
        (theirs_there : ChangesTheirs living_part set used_now step)
      where
        ready : Ready (without_dead_mounts nat_eq (with_filesystems now step)) set used_now lowers_now
        ready = stepped_ready
            (world_ready left.sealing set left.tasks world.change left.lets) theirs

        ready_there : Ready (without_dead_mounts nat_eq (with_filesystems now_part step)) set used_now lowers_now
        ready_there = stepped_ready (part_ready left world.change part.change)
            theirs_there

        used_there : used_filesystems nat_eq now_part set ≡ used_now
        used_there = less_used left.is
            (now_less left.is left.tasks_too part.change
            (sees_less left.sealing set left.tasks world.change left.lets) left.same)

        parts_stepped : part_of nat_eq (with_filesystems now step) set
            ≡ part_of nat_eq (with_filesystems now_part step) set
        parts_stepped = part_with_layers now set step theirs.numbered theirs.changing theirs.lowering theirs.kept
            ∙ ap (λ w. with_filesystems w step) (sym (part_of_less left.is left.tasks_too
            part.change (sees_less left.sealing set left.tasks world.change left.lets) left.same)) ∙ sym
            (part_with_layers now_part set step theirs_there.numbered theirs_there.changing theirs_there.lowering
            (λ x e. theirs_there.kept x (ap (is_among nat_eq x.number) (sym used_there) ∙ e)))

        swept_parts : part_of nat_eq (settled nat_eq (with_filesystems now step)) set
            ≡ part_of nat_eq (settled nat_eq (with_filesystems now_part step)) set
        swept_parts = part_of_settled (with_filesystems now step) set used_now lowers_now ready
            ∙ ap (swept_of set) parts_stepped ∙ sym (part_of_settled (with_filesystems now_part step) set used_now
            lowers_now ready_there)

        -- So a call by which they change ends alike.
        module _ (numbers : List ℕ) (used : (n : ℕ) → Among n numbers → is_among nat_eq n used_now ≡ true) where
          abbrev ends_here : World ℕ
          ends_here = numbers_raised nat_eq world name numbers (settled nat_eq (with_filesystems now step))

          abbrev ends_there : World ℕ
          ends_there = numbers_raised nat_eq part name numbers (settled nat_eq (with_filesystems now_part step))

          parts_left : part_of nat_eq ends_here set ≡ part_of nat_eq ends_there set
          parts_left =
              part_of_raised (all_in_use world left.is) (private_in_world world left.is) step name
              numbers ready used
              ∙ (λ i. record (with_filesystems (swept_parts i) (raised_if_changed nat_eq numbers)) {
                tasks = (raised_members set name left.tasks ∙ ap (map (raised_task name)) (sym left.same)
                    ∙ sym (raised_members set name left.tasks_too)) i;
              }) ∙ sym (part_of_raised (part_in_use left.sealing)
              (private_in_part world names left.is) step name numbers ready_there
              used)

          pub stepped_ends : (task : Task ℕ) → task_called world name ≡ Some task → (fresh other : Fresh ℕ)
              (answer : Answer)
              → grown names name call (Ok answer) ≡ set → ran name call world fresh (Some task) ≡ granted answer
              ends_here → ran name call part other (Some task) ≡ granted answer ends_there
              → EndsAlike world names name call fresh other
          stepped_ends task called fresh other answer stays one two =
              grind (arith, common_steps, ran, same_caller, parts_left)
