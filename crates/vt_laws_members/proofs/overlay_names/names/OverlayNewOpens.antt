-- An open of theirs that makes the file through an overlay ends in the part as in the world.
use Rattle.std.proofs.Common.{arith, ◌≡◌, refl, sym, ap, subst, ◌∙◌, inl, inr, ⊎_elim, ℕ, nat_eq, false, true≢false, List, [], ◌∷◌, Option, Some, None, is_some, map, not}
use Rattle.vt_spec.proofs.Common.{Access, Among, Call, Change, Creation, Descriptor, Filesystem, Fresh, Layer, Location, Make, OpenFile, Opened, Overlay, Task, TaskName, ToOpenNew, World, among-append_right, among-flat_map, among-from_map, among-map, changed_at, common_steps, evens, filesystem_at, finished, free_number, granted, inserted, locations, locations_of, members, mount_at, numbers_raised, odds, opened, overlay_or, own_mounts, part_of, replaced_if_called, same_name_itself, settled, task_called, used_directly, with_change, with_descriptor}
use Rattle.vt_laws_members.proofs.judging.Common.{IsMember, IsTheirs, caller_in, directory_theirs, filesystem_alike, root_theirs, sealing_of, theirs_directly}
use Rattle.vt_laws_members.proofs.Common.{cases_Option, SparesLocked, name_found, permits_can_change, permits_spare_what_is_locked, with_filesystems}
use Rattle.vt_laws_members.specs.Changes.Changes.{EndsAlike, IsCallOfTheirs}
use Rattle.vt_laws_members.proofs.changes.letting_go.Callers.{StandsOnTheirs, all_in_set, of_set, others_left, places_left, roots_left, same_set, spaces_kept}
use Rattle.vt_laws_members.proofs.changes.Common.{LetsGo, OverlayChange, Retasks, naming_of, naming_theirs, ran_there, run_by}
use Rattle.vt_laws_members.specs.OverlayNames.OverlayNames.{OverlayNewOpensEndAlike}
use Rattle.vt_laws_members.proofs.overlay_names.names.OverlayNaming.{changed_ends, changed_in_part, changed_in_world, listed_in_part, listed_in_world}
use Rattle.vt_laws_trees.proofs.calls.tasks.TasksOwn.{among-inserted}

-- a new descriptor is one of the task's
new_inserted : (new : Descriptor ℕ) (list : List (Descriptor ℕ)) → Among new (inserted new list)
new_inserted new [] = inl refl
new_inserted new (first ∷ rest) = grind (arith, common_steps, new_inserted new rest)

-- The caller opens a file where members get.
module _ {world : World ℕ} {names : List TaskName} {name : TaskName} {call : Call}
    (it : IsCallOfTheirs world names name call) {task : Task ℕ} (found : task_called world name ≡ Some task)
    (file : Location ℕ) (wanted : Access) (ground : IsTheirs world names it.is.mounts file.mount) where
  abbrev pub mine : Task ℕ
  mine = with_descriptor task file wanted

  abbrev theirs : List (Task ℕ)
  theirs = members world names

  abbrev pub replaced : Task ℕ → Task ℕ
  replaced = replaced_if_called mine

  member : IsMember world names task
  member = caller_in it found

  abbrev at_file : Descriptor ℕ → Location ℕ
  at_file d = d.location

  pub stands : StandsOnTheirs world names name call it task mine
  stands = record {
    named = refl;
    root = root_theirs world names it.is task member.among;
    directory = directory_theirs world names it.is task member.among;
    places = λ l m. ⊎_elim (λ root. inl (inl root)) (λ rest. ⊎_elim (λ directory. inl (inr (inl directory)))
        (λ open_file. let from = among-from_map at_file mine.descriptors l open_file in
        ⊎_elim (λ new. inr (subst (λ (k : Location ℕ). IsTheirs world names it.is.mounts k.mount)
        (sym (from.2 ∙ ap at_file new)) ground))
        (λ old. inl (inr (inr (subst (λ k. Among k (map at_file task.descriptors)) (sym from.2)
        (among-map at_file task.descriptors from.0 old))))) (among-inserted _ task.descriptors from.0 from.1)) rest) m;
  }

  pub lets : LetsGo (sealing_of it) names (map replaced world.tasks)
  lets = record {
    own = λ n. cc (of_set it task found mine stands world.tasks, spaces_kept it task found mine refl refl n);
    roots = roots_left it task found mine stands;
    places = places_left it task found mine stands;
    others = others_left it task found mine stands;
  }

  -- so the set uses its filesystem
  file_used : Among (mount_at nat_eq world file).filesystem
      (used_directly nat_eq (record world { tasks = map replaced world.tasks }) names)
  file_used = among-append_right (map (λ mount. mount.filesystem) (own_mounts nat_eq
      (record world { tasks = map replaced world.tasks }) names)) (map shows
      (locations (members (record world { tasks = map replaced world.tasks }) names))) (shows file)
      (among-map shows _ file (rw (of_set it task found mine stands world.tasks)
      (among-flat_map locations_of (map replaced theirs) (replaced task) file
      (among-map replaced theirs task member.among) (subst (λ (t : Task ℕ). Among file (locations_of t))
      (sym mine_there) (inr (inr (among-map at_file mine.descriptors _ (new_inserted _ task.descriptors))))))))
    where
      shows : Location ℕ → ℕ
      shows l = (mount_at nat_eq world l).filesystem

      mine_there : replaced task ≡ mine
      mine_there = cc (same_name_itself task.name)

-- so ends a granted open by which filesystems change
opened_run : (w : World ℕ) (name : TaskName) (path : List ℕ) (access : Access) (how : Creation) (supply : Fresh ℕ)
    (location : Location ℕ) (change : Change ℕ) (task : Task ℕ) (file : Location ℕ) (wanted : Access)
    (step : Filesystem ℕ → Filesystem ℕ) (numbers : List ℕ)
    → with_change nat_eq supply w location change ≡ with_filesystems w step → changed_at nat_eq w location ≡ numbers
    → finished nat_eq w name (OpenFile path access how) (changed_at nat_eq w location)
    (opened (with_change nat_eq supply w location change) task file wanted)
    ≡ granted (Opened (free_number task)) (numbers_raised nat_eq w name numbers (settled nat_eq (with_filesystems
    (record w { tasks = map (replaced_if_called (with_descriptor task file wanted)) w.tasks }) step)))
opened_run w name path access how supply location change task file wanted step numbers made listed = cc

pub overlay_new_opens_end_alike : OverlayNewOpensEndAlike
overlay_new_opens_end_alike world names name path access how it task found fresh serves directory entry node wanted
    judged is = elim (cases_Option merged.overlay) [
      | inl none ↦ absurd (true≢false (sym is ∙ ap is_some none))
      | inr its ↦ layered its.0 its.1 its.0.upper refl
    ]
  where
    call : Call
    call = OpenFile path access how

    part : World ℕ
    part = part_of nat_eq world names

    merged : Filesystem ℕ
    merged = filesystem_at nat_eq world directory

    change : Change ℕ
    change = Make directory.node entry (evens fresh 0) node

    file : Location ℕ
    file = record { mount = directory.mount; node = evens fresh 0 }

    itself : task_called world task.name ≡ Some task
    itself = cc (name_found world name task found)

    ground : IsTheirs world names it.is.mounts directory.mount
    ground = naming_theirs (naming_of it task found fresh serves (ToOpenNew directory entry node wanted) judged
        directory change refl tt)

    direct : Among (mount_at nat_eq world directory).filesystem (used_directly nat_eq world names)
    direct = theirs_directly world names it.is directory ground

    alike : filesystem_at nat_eq world directory ≡ filesystem_at nat_eq part directory
    alike = filesystem_alike world names it.is directory ground

    spared : SparesLocked world directory change
    spared =
        permits_spare_what_is_locked world fresh task call (ToOpenNew directory entry node wanted) it.is serves itself
        judged

    layered : (overlay : Overlay ℕ) → merged.overlay ≡ Some overlay → (o : Option (Layer ℕ)) → overlay.upper ≡ o
        → EndsAlike world names name call fresh fresh
    layered overlay overlaid None none = absurd (true≢false (sym (ap (λ o. not (is_some o)) none)
        ∙ sym (ap (overlay_or false (λ (v : Overlay ℕ). not (is_some v.upper))) overlaid) ∙ spared.layer))
    layered overlay overlaid (Some upper) has =
        let copied : OverlayChange world names = record {
          is = it.is;
          supply = odds fresh;
          location = directory;
          change = change;
          overlay = overlay;
          upper = upper;
          can = permits_can_change world fresh task call (ToOpenNew directory entry node wanted) directory change
              overlay upper it.is serves itself judged refl overlaid has;
          direct = direct;
          alike = alike;
        } in
        let retasks : Retasks world names names = record {
          sealing = sealing_of it;
          tasks = map (replaced_if_called (with_descriptor task file wanted)) world.tasks;
          tasks_too = map (replaced_if_called (with_descriptor task file wanted)) part.tasks;
          lets = lets it found file wanted ground;
          same = same_set it task found (with_descriptor task file wanted) (stands it found file wanted ground);
          all = all_in_set it task found (with_descriptor task file wanted) (stands it found file wanted ground);
        } in
        changed_ends it copied retasks (file_used it found file wanted ground) task found fresh
        (Opened (free_number task)) refl (ap (run_by it world fresh task) judged
        ∙ opened_run world name path access how (odds fresh) directory change task file wanted _ _
        (changed_in_world it copied) (listed_in_world it copied))
        (ran_there it fresh fresh task found judged ∙ opened_run part name path access how (odds fresh) directory change
        task file wanted _ _ (changed_in_part it copied) (listed_in_part it copied))
