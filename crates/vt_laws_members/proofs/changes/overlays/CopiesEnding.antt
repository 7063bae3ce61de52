-- A call of theirs that edits a file through an overlay with an upper layer ends in the part as in the world.
use Rattle.std.proofs.Common.{arith, ◌≡◌, refl, sym, ap, ◌∙◌, ℕ, nat_eq, false, List, [], ◌∷◌, Some, filter, map}
use Rattle.vt_spec.proofs.Common.{Among, Call, Done, Filesystem, Task, TaskName, World, changed_at, common_steps, finished, granted, is_among, is_member_task, locations_of, map_twice, numbers_raised, part_of, policy, raised, raised_if_changed, raised_task, used_filesystems, with_change}
use Rattle.vt_laws_members.proofs.judging.Common.{IsLastingCall, sealing_of}
use Rattle.vt_laws_members.proofs.Common.{AllInUse, ChangesFilesystem, all_in_use, filter-map, nothing_goes, same_members, same_used, with_filesystems}
use Rattle.vt_laws_members.specs.Changes.Changes.{EndsAlike}
use Rattle.vt_laws_members.proofs.changes.files.StepsInUse.{in_use_stepped}
use Rattle.vt_laws_members.proofs.changes.looks.Told.{ended_alike, ran, same_caller}
use Rattle.vt_laws_members.proofs.changes.overlays.Copying.{AreOnes, Copies, OverlayChange, both_numbers, changes_in_part, changes_in_world, kept_on, moved_on, numbers_in_part, numbers_in_world, ones_in_part, ones_in_world, part_moved, step, stepped_in_part, stepped_in_world}
use Rattle.vt_laws_members.proofs.changes.part.PartAgain.{part_again}
use Rattle.vt_laws_members.proofs.changes.part.SettledPart.{part_in_use}
use Rattle.vt_laws_members.proofs.changes.tasks.RaisedTasks.{tasks_raised}
use Rattle.vt_laws_members.proofs.changes.tasks.Retasked.{retasked}
use Rattle.vt_laws_members.proofs.changes.tasks.Rights.{raised_is, sees_alike}

module _ {world : World ℕ} {names : List TaskName} {name : TaskName} {call : Call} {task : Task ℕ}
    (lasts : IsLastingCall world names name call task) (through : OverlayChange world names)
    (copies : Copies through.change) where
  abbrev part : World ℕ
  part = part_of nat_eq world names

  abbrev moved : Filesystem ℕ → Filesystem ℕ
  moved = step through

  abbrev numbers : List ℕ
  numbers = both_numbers through

  -- with their change numbers raised
  abbrev both : Filesystem ℕ → Filesystem ℕ
  both = moved_on through

  abbrev left : World ℕ → World ℕ
  left w = record w {
    filesystems = map both w.filesystems;
    tasks = map (raised_task name) w.tasks;
    change = raised w.change;
  }

  numbers_so : (w : World ℕ) → numbers_raised nat_eq w name numbers (with_filesystems w moved) ≡ left w
  numbers_so w i = record {
    mounts = w.mounts;
    master = w.master;
    filesystems = map_twice (raised_if_changed nat_eq numbers) moved w.filesystems i;
    namespaces = ap (λ (v : World ℕ). v.namespaces) (tasks_raised w name w.tasks) i;
    tasks = map (raised_task name) w.tasks;
    change = raised w.change;
  }

  ends_so : (w : World ℕ) → AllInUse w
      → ((x : Filesystem ℕ) → Among x w.filesystems → ChangesFilesystem (with_filesystems w moved) [] x (moved x))
      → with_change nat_eq through.supply w through.location through.change ≡ with_filesystems w moved → changed_at
      nat_eq w through.location ≡ numbers → finished nat_eq w name call (changed_at nat_eq w through.location)
      (granted Done (with_change nat_eq through.supply w through.location through.change)) ≡ granted Done (left w)
  ends_so w in_use changes made listed = grind (arith, common_steps, nothing_goes, in_use_stepped, numbers_so)

  part_of_left : (w : World ℕ) → AreOnes through w
      → ((x : Filesystem ℕ) → is_among nat_eq x.number (used_filesystems nat_eq w names) ≡ false → both x ≡ x)
      → part_of nat_eq (left w) names ≡ record (with_filesystems (part_of nat_eq w names) both) {
        tasks = filter (is_member_task names) (map (raised_task name) w.tasks);
      }
  part_of_left w ones unused = cc (
    retasked later names names (map (raised_task name) w.tasks) (raised w.change) (sees_alike later names
        (raised_task name) (raised_is name (λ (t : Task ℕ). t.name) (λ t. refl)) (λ t m. raised_is name (λ (t :
        Task ℕ). t.namespace) (λ t. refl) t) (λ t m. raised_is name (λ (t : Task ℕ). t.root ∷ t.directory ∷ []) (λ
        t. refl) t) (raised w.change) (λ t m. raised_is name locations_of (λ t. refl) t)),
    part_moved through w ones unused,
  )
    where
      later : World ℕ
      later = with_filesystems w both

  abbrev raised_members : List (Task ℕ) → List (Task ℕ)
  raised_members tasks = filter (is_member_task names) (map (raised_task name) tasks)

  tasks_alike : raised_members world.tasks ≡ raised_members part.tasks
  tasks_alike = cc (of_map world.tasks, same_members world names, of_map part.tasks)
    where
      of_map : (tasks : List (Task ℕ))
          → raised_members tasks ≡ map (raised_task name) (filter (is_member_task names) tasks)
      of_map tasks = filter-map (is_member_task names) (raised_task name) tasks
          (λ t. cc (raised_is name (λ (x : Task ℕ). x.name) (λ x. refl) t))

  parts_alike : part_of nat_eq (left world) names ≡ part_of nat_eq (left part) names
  parts_alike = part_of_left world (ones_in_world through) (kept_on through) ∙
      (λ i. record (with_filesystems (sym (part_again world names lasts.is) i) both) { tasks = tasks_alike i }) ∙
      sym (part_of_left part (ones_in_part through) (λ x e. kept_on through x (cc (same_used world names))))

  pub copy_ends : ran name call world through.supply (Some task)
      ≡ finished nat_eq world name call (changed_at nat_eq world through.location)
      (granted Done (with_change nat_eq through.supply world through.location through.change)) → ran name call part
      through.supply (Some task) ≡ finished nat_eq part name call (changed_at nat_eq part through.location)
      (granted Done (with_change nat_eq through.supply part through.location through.change)) → EndsAlike world names
      name call through.supply through.supply
  copy_ends runs runs_there =
      let first : policy nat_eq through.supply world name call ≡ granted Done (left world) = cc (
        lasts.found,
        ends_so world (all_in_use world lasts.is) (changes_in_world through copies)
            (stepped_in_world through) (numbers_in_world through),
      ) in
      let second : policy nat_eq through.supply part name call ≡ granted Done (left part) = cc (
        same_caller (sealing_of lasts.it) name lasts.theirs,
        lasts.found,
        ends_so part
            (part_in_use (sealing_of lasts.it)) (changes_in_part through copies) (stepped_in_part through copies)
            (numbers_in_part through),
      ) in
      ended_alike names name call first second (rw lasts.stays (record { answer = refl; part = parts_alike }))
