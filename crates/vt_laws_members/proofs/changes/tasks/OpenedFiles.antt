-- An open of theirs by which filesystems change, and nothing goes, ends in the part as in the world.
use Rattle.std.proofs.Common.{◌≡◌, refl, sym, ap, ◌∙◌, ℕ, nat_eq, true, List, Some, filter, map, ◌||◌}
use Rattle.vt_spec.proofs.Common.{Access, Among, Call, Creation, Filesystem, Fresh, Location, Mount, OpenFile, Opened, Outcome, Task, TaskName, World, among-from_filter, free_number, granted, is_among, is_at, is_member_task, map_twice, members, mount_at, numbers_raised, part_of, policy, raised, raised_if_changed, raised_task, replaced_if_called, roots_and_directories, same_name, settled, task_called, used_directly, with_descriptor, with_task}
use Rattle.vt_laws_members.proofs.judging.Common.{IsTheirs, sealing_of, theirs_directly}
use Rattle.vt_laws_members.proofs.Common.{AllInUse, filter-map, is_own, nothing_goes, same_members, with_filesystems}
use Rattle.vt_laws_members.specs.Changes.Changes.{EndsAlike, IsCallOfTheirs}
use Rattle.vt_laws_members.proofs.changes.Common.{ended_alike, ran, retasked, same_caller}
use Rattle.vt_laws_members.proofs.changes.part.PartAgain.{part_again}
use Rattle.vt_laws_members.proofs.changes.tasks.Ending.{LeavesTasks}
use Rattle.vt_laws_members.proofs.changes.tasks.MoreLocations.{in_use_later}
use Rattle.vt_laws_members.proofs.changes.tasks.Opening.{both_named, leaves}
use Rattle.vt_laws_members.proofs.changes.tasks.RaisedTasks.{tasks_raised}
use Rattle.vt_laws_members.proofs.changes.tasks.WholeMounts.{used_in_part, whole_in_part, whole_in_world}

-- the outcome of an open after which filesystems are these
abbrev pub opened_with : World ℕ → TaskName → (Filesystem ℕ → Filesystem ℕ) → List ℕ → Task ℕ → Location ℕ → Access
    → Outcome ℕ
opened_with w name moved numbers task file access =
    granted (Opened (free_number task)) (numbers_raised nat_eq w name numbers
    (settled nat_eq (with_task (with_filesystems w moved) (with_descriptor task file access))))

module _ {world : World ℕ} {names : List TaskName} {name : TaskName} {path : List ℕ} {access : Access} {how : Creation}
    (it : IsCallOfTheirs world names name (OpenFile path access how)) (fresh : Fresh ℕ) {task : Task ℕ}
    (found : task_called world name ≡ Some task) (file : Location ℕ)
    (ground : IsTheirs world names it.is.mounts file.mount) (wanted : Access) (moved : Filesystem ℕ → Filesystem ℕ)
    (numbers : List ℕ) where
  abbrev part : World ℕ
  part = part_of nat_eq world names

  abbrev call : Call
  call = OpenFile path access how

  -- with their change numbers raised
  abbrev pub moved_on : Filesystem ℕ → Filesystem ℕ
  moved_on x = raised_if_changed nat_eq numbers (moved x)

  abbrev replaced : Task ℕ → Task ℕ
  replaced = replaced_if_called (with_descriptor task file wanted)

  abbrev later : World ℕ → World ℕ
  later w = record (with_filesystems w moved_on) {
    tasks = map (raised_task name) (map replaced w.tasks);
    change = raised w.change;
  }

  -- in the world, and in the part: all stays in use, and the part has what changed
  pub record MovesIn (w : World ℕ) : Type 0 where
    pub in_use : AllInUse (with_filesystems w moved)
    pub part_moved : part_of nat_eq (with_filesystems w moved_on) names
        ≡ with_filesystems (part_of nat_eq w names) moved_on

  module _ (w : World ℕ) (moves : MovesIn w) (within : (t : Task ℕ) → Among t w.tasks → Among t world.tasks)
      (whole : (m : Mount ℕ) → Among m w.mounts → nat_eq file.mount m.number ≡ true
      → (is_own w names (members w names) m || is_at nat_eq (roots_and_directories (members w names)) m) ≡ true)
      (direct : Among (mount_at nat_eq w file).filesystem (used_directly nat_eq w names)) where
    leaves_tasks : LeavesTasks (with_filesystems w moved_on) names names name (map replaced w.tasks)
    leaves_tasks = leaves names name it.is found file wanted (with_filesystems w moved_on) within whole direct

    numbers_so : numbers_raised nat_eq w name numbers
        (record (with_filesystems w moved) { tasks = map replaced w.tasks }) ≡ later w
    numbers_so i = record {
      mounts = w.mounts;
      master = w.master;
      filesystems = map_twice (raised_if_changed nat_eq numbers) moved w.filesystems i;
      namespaces = ap (λ (v : World ℕ). v.namespaces) (tasks_raised w name (map replaced w.tasks)) i;
      tasks = map (raised_task name) (map replaced w.tasks);
      change = raised w.change;
    }

    ends_so : opened_with w name moved numbers task file wanted ≡ granted (Opened (free_number task)) (later w)
    ends_so = ap (λ v. granted (Opened (free_number task)) (numbers_raised nat_eq w name numbers v))
        (nothing_goes (record (with_filesystems w moved) { tasks = map replaced w.tasks })
        (in_use_later (with_filesystems w moved) (map replaced w.tasks) w.change moves.in_use leaves_tasks.more))
        ∙ ap (granted (Opened (free_number task))) numbers_so

    part_of_later : part_of nat_eq (later w) names ≡ record (with_filesystems (part_of nat_eq w names) moved_on) {
      tasks = filter (is_member_task names) (map (raised_task name) (map replaced w.tasks));
    }
    part_of_later = cc (
      retasked (with_filesystems w moved_on) names names (map (raised_task name) (map replaced w.tasks))
          (raised w.change) leaves_tasks.sees,
      moves.part_moved,
    )

  module _ (in_world : MovesIn world) (in_part : MovesIn part) where
    its : (t : Task ℕ) → Among t part.tasks → Among t world.tasks
    its t m = (among-from_filter (is_member_task names) world.tasks t m).0

    members_alike : filter (is_member_task names) (map (raised_task name) (map replaced world.tasks))
        ≡ filter (is_member_task names) (map (raised_task name) (map replaced part.tasks))
    members_alike = cc (of_map world.tasks, of_map part.tasks, same_members world names)
      where
        each : Task ℕ → Task ℕ
        each t = raised_task name (replaced t)

        of_map : (tasks : List (Task ℕ)) → filter (is_member_task names) (map (raised_task name) (map replaced tasks))
            ≡ map each (filter (is_member_task names) tasks)
        of_map tasks = cc (
          map_twice (raised_task name) replaced tasks,
          filter-map (is_member_task names) each tasks (λ t. ap (λ n. is_among same_name n names) (both_named
              names name it.is found file wanted t)),
        )

    parts_alike : part_of nat_eq (later world) names ≡ part_of nat_eq (later part) names
    parts_alike = part_of_later world in_world (λ t m. m) (whole_in_world world names it.is file ground)
        (theirs_directly world names it.is file ground)
        ∙ (λ i. record (with_filesystems (sym (part_again world names it.is) i) moved_on) { tasks = members_alike i })
        ∙ sym (part_of_later part in_part its (whole_in_part world names it.is file ground)
        (used_in_part world names it.is file ground))

    pub opened_ends : ran name call world fresh (Some task) ≡ opened_with world name moved numbers task file wanted
        → ran name call part fresh (Some task) ≡ opened_with part name moved numbers task file wanted
        → EndsAlike world names name call fresh fresh
    opened_ends one two =
        let first : policy nat_eq fresh world name call ≡ granted (Opened (free_number task)) (later world) = cc
        (ends_so world in_world (λ t m. m) (whole_in_world world names it.is file ground)
        (theirs_directly world names it.is file ground)) in
        let second : policy nat_eq fresh part name call ≡ granted (Opened (free_number task)) (later part) = cc (
          same_caller (sealing_of it) name it.theirs,
          ends_so part in_part its
              (whole_in_part world names it.is file ground) (used_in_part world names it.is file ground),
        ) in
        ended_alike names name call first second (record { answer = refl; part = parts_alike })
