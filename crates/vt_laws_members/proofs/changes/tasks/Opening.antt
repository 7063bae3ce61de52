-- An open of a file that is there, and is not copied up, ends in the part as in the world.
use Rattle.std.proofs.Common.{arith, ◌≡◌, refl, sym, ap, subst, ◌∙◌, ◌⊎◌, inl, inr, ⊎_elim, ℕ, nat_eq, Bool, true, false, cond, List, [], ◌∷◌, ◌++◌, Option, Some, filter, map, ◌||◌, IfOk}
use Rattle.vt_spec.proofs.Common.{Access, Among, Creation, Descriptor, Exclusive, Fresh, Here, IsWorld, Location, Looks, Mount, NoCreation, OpenFile, Opened, OrCreate, Outcome, Permit, Place, Task, TaskName, ToOpen, World, among-append, among-append_left, among-append_right, among-flat_map, among-from_filter, among-from_flat_map, among-from_map, among-map, any_among, any_from_among, changed_if, common_steps, finished, found_among, free_number, holds_of, inserted, is_among, is_at, is_copied_up, is_member_task, judge, judging, list_any, locations, locations_of, looks_of, map_twice, members, mount_at, name-replaced_if_called, opened, opens_for_reading, opens_for_writing, part_of, raised, raised_task, replaced_if_called, roots_and_directories, same_name, same_task_name, same_truth, seen_by_descriptor, task_called, used_directly, used_filesystems, when, with_copy, with_descriptor, ⊤}
use Rattle.vt_laws_members.proofs.judging.Common.{FoundAt, HereAt, IsMember, IsTheirs, JudgesAlike, PlaceAt, caller_in, file_agrees, filesystem_alike, judges, leads_alike, object_agrees, theirs_directly, theirs_from}
use Rattle.vt_laws_members.proofs.Common.{filter-map, is_own, keep, same_members}
use Rattle.vt_laws_members.specs.Judging.{is_theirs}
use Rattle.vt_laws_members.specs.Changes.Changes.{OpensEndAlike}
use Rattle.vt_laws_members.proofs.changes.Common.{SeeAlike, members_changed, ends_so, judged_so, only_task, own_alike, raised_is, ran_there, roots_alike, run_by}
use Rattle.vt_laws_members.proofs.changes.tasks.Ending.{LeavesTasks, tasks_end_alike}
use Rattle.vt_laws_members.proofs.changes.tasks.WholeMounts.{used_in_part, whole_in_part, whole_in_world}

-- What is opened is on a mount of theirs
abbrev pub OpensOn : (own : ℕ → Bool) → Permit ℕ → Type 0
OpensOn own (ToOpen file access) = own file.mount ≡ true
OpensOn own permit = ⊤

module _ {world : World ℕ} {names : List TaskName} {task : Task ℕ} (member : IsMember world names task) where
  abbrev one : Looks ℕ
  one = looks_of nat_eq world

  abbrev other : Looks ℕ
  other = looks_of nat_eq (part_of nat_eq world names)

  abbrev On : ℕ → Type 0
  On number = is_theirs world names number ≡ true

  abbrev Opens : Permit ℕ → Type 0
  Opens = OpensOn (is_theirs world names)

  alike : JudgesAlike one other task (is_theirs world names)
      (λ number. is_among nat_eq number (used_filesystems nat_eq world names))
  alike = judges member

  abbrev StandsHere : Here ℕ → Type 0
  StandsHere = HereAt (leads_alike alike)

  abbrev IsPlaced : Place ℕ → Type 0
  IsPlaced = PlaceAt (leads_alike alike)

  abbrev IsFound : Option (Location ℕ) → Type 0
  IsFound = FoundAt (leads_alike alike)

  pub opens_theirs : (full : Permit ℕ → Bool) (path : List ℕ) (access : Access) (how : Creation)
      → IfOk (judge nat_eq one full task (OpenFile path access how)) Opens
  unfolding judging
  opens_theirs full path access NoCreation = judged_so one full task Opens (OpenFile path access NoCreation)
      (λ room here end passed. ends_so StandsHere (object_agrees (leads_alike alike) path).1 end)
  opens_theirs full path access (OrCreate mode) = judged_so one full task Opens (OpenFile path access (OrCreate mode))
      (λ room place end. (
        λ file there passed. (ends_so IsPlaced (file_agrees (leads_alike alike) path).1 end).1 file there,
        λ missing passed. tt,
      ))
  opens_theirs full path access (Exclusive mode) = judged_so one full task Opens
      (OpenFile path access (Exclusive mode)) (λ room place end named passed. tt)

-- One more descriptor
module _ (new : Descriptor ℕ) where
  abbrev places : List (Descriptor ℕ) → List (Location ℕ)
  places list = map (λ (d : Descriptor ℕ). d.location) list

  was_there : (list : List (Descriptor ℕ)) (location : Location ℕ) → Among location (places (inserted new list))
      → (location ≡ new.location) ⊎ Among location (places list)
  was_there [] location m = ⊎_elim inl (λ none. absurd none) m
  was_there (first ∷ rest) location m = grind (arith, common_steps, was_there rest location)

  stays_there : (list : List (Descriptor ℕ)) (location : Location ℕ) → Among location (places list)
      → Among location (places (inserted new list))
  stays_there [] location m = absurd m
  stays_there (first ∷ rest) location m = grind (arith, common_steps, stays_there rest location)

-- A task opens a file on a mount of theirs.
module _ {world : World ℕ} (names : List TaskName) (name : TaskName) (is : IsWorld nat_eq world) {task : Task ℕ}
    (found : task_called world name ≡ Some task) (file : Location ℕ) (access : Access) where
  abbrev new : Task ℕ
  new = with_descriptor task file access

  abbrev replaced : Task ℕ → Task ℕ
  replaced = replaced_if_called new

  abbrev both : Task ℕ → Task ℕ
  both t = raised_task name (replaced t)

  abbrev descriptor : Descriptor ℕ
  descriptor = record {
    number = free_number task;
    location = file;
    reads = opens_for_reading access;
    writes = opens_for_writing access;
  }

  -- it is the caller, or as it was
  replaced_how : (t : Task ℕ) → Among t world.tasks → ((replaced t ≡ new) × (task ≡ t)) ⊎ (replaced t ≡ t)
  replaced_how t m = by (same_name new.name t.name) refl
    where
      by : (b : Bool) → same_name new.name t.name ≡ b → ((cond b new t ≡ new) × (task ≡ t)) ⊎ (cond b new t ≡ t)
      by true e = inl (
        refl,
        only_task world.tasks is.tasks.one_task task t
            (found_among (λ (x : Task ℕ). same_name name x.name) world.tasks task found) m
            (same_task_name new.name t.name e),
      )
      by false e = inr refl

  replaced_is : {A : Type 0} (what : Task ℕ → A) → what new ≡ what task → (t : Task ℕ) → Among t world.tasks
      → what (replaced t) ≡ what t
  replaced_is what same t m = ⊎_elim (λ its. cc (its.0, its.1)) (λ other. ap what other) (replaced_how t m)

  pub both_named : (t : Task ℕ) → (both t).name ≡ t.name
  both_named t = raised_is name (λ (x : Task ℕ). x.name) (λ x. refl) (replaced t) ∙ name-replaced_if_called new t

  both_spaced : (t : Task ℕ) → Among t world.tasks → (both t).namespace ≡ t.namespace
  both_spaced t m = cc (
    raised_is name (λ (x : Task ℕ). x.namespace) (λ x. refl) (replaced t),
    replaced_is (λ (x : Task ℕ). x.namespace) refl t m,
  )

  both_rooted : (t : Task ℕ) → Among t world.tasks
      → ((both t).root ∷ (both t).directory ∷ []) ≡ (t.root ∷ t.directory ∷ [])
  both_rooted t m = cc (
    raised_is name (λ (x : Task ℕ). x.root ∷ x.directory ∷ []) (λ x. refl) (replaced t),
    replaced_is (λ (x : Task ℕ). x.root ∷ x.directory ∷ []) refl t m,
  )

  -- its locations
  were_its : (t : Task ℕ) → Among t world.tasks → (location : Location ℕ) → Among location (locations_of (replaced t))
      → (location ≡ file) ⊎ Among location (locations_of t)
  were_its t m location at =
      ⊎_elim (λ its. let here : Among location (locations_of new) = subst (λ x. Among location (locations_of x)) its.0
      at in ⊎_elim (λ root. inr (subst (λ x. Among location (locations_of x)) its.1 (inl root)))
      (λ rest. ⊎_elim (λ directory. inr (subst (λ x. Among location (locations_of x)) its.1 (inr (inl directory))))
      (λ open_file. ⊎_elim inl (λ old. inr (subst (λ x. Among location (locations_of x)) its.1 (inr (inr old))))
      (was_there descriptor _ location open_file)) rest) here) (λ same. inr (rw (← same) at)) (replaced_how t m)

  stay_its : (t : Task ℕ) → Among t world.tasks → (location : Location ℕ) → Among location (locations_of t)
      → Among location (locations_of (replaced t))
  stay_its t m location at = ⊎_elim (λ its. let here : Among location (locations_of task) = subst
      (λ x. Among location (locations_of x)) (sym its.1) at in subst (λ x. Among location (locations_of x)) (sym its.0)
      (⊎_elim (λ root. inl root) (λ rest. ⊎_elim (λ directory. inr (inl directory))
      (λ old. inr (inr (stays_there descriptor _ location old))) rest) here)) (λ same. rw same at) (replaced_how t m)

  -- in a world with some of these tasks, where the file's mount is whole in the part, and its filesystem used
  module _ (w : World ℕ) (within : (t : Task ℕ) → Among t w.tasks → Among t world.tasks)
      (whole : (m : Mount ℕ) → Among m w.mounts → nat_eq file.mount m.number ≡ true
      → (is_own w names (members w names) m || is_at nat_eq (roots_and_directories (members w names)) m) ≡ true)
      (used : Among (mount_at nat_eq w file).filesystem (used_directly nat_eq w names)) where
    abbrev old : List (Task ℕ)
    old = members w names

    abbrev ended : World ℕ
    ended = record w { tasks = map both w.tasks; change = raised w.change }

    theirs_too : members ended names ≡ map both old
    theirs_too =
        members_changed w names both both_named (λ t m. both_spaced t (within t m)) (λ t m. both_rooted t (within t m))
        (raised w.change)

    own_same : (n : ℕ) → list_any (λ (t : Task ℕ). nat_eq n t.namespace) (members ended names)
        ≡ list_any (λ (t : Task ℕ). nat_eq n t.namespace) old
    own_same n =
        own_alike w names both both_named (λ t m. both_spaced t (within t m)) (λ t m. both_rooted t (within t m))
        (raised w.change) n

    roots_same : roots_and_directories (members ended names) ≡ roots_and_directories old
    roots_same =
        roots_alike w names both both_named (λ t m. both_spaced t (within t m)) (λ t m. both_rooted t (within t m))
        (raised w.change)

    there : (t : Task ℕ) → Among t old → Among t w.tasks
    there t m = (among-from_filter (is_member_task names) w.tasks t m).0

    were : (location : Location ℕ) → Among location (locations (members ended names))
        → (location ≡ file) ⊎ Among location (locations old)
    were location m =
        let from = among-from_flat_map locations_of (map both old) location
        (subst (λ l. Among location (locations l)) theirs_too m) in
        let t = among-from_map both old from.0 from.1 in
        ⊎_elim inl (λ at. inr (among-flat_map locations_of old t.0 location t.1 at))
        (were_its t.0 (within t.0 (there t.0 t.1)) location
        (subst (Among location) (ap locations_of t.2 ∙ raised_is name locations_of (λ x. refl) (replaced t.0)) from.2))

    stay : (location : Location ℕ) → Among location (locations old) → Among location (locations (members ended names))
    stay location m =
        let from = among-from_flat_map locations_of old location m in
        rw theirs_too (among-flat_map locations_of (map both old) (both from.0) location
        (among-map both old from.0 from.1) (subst (Among location) (sym (raised_is name locations_of (λ x. refl)
        (replaced from.0))) (stay_its from.0 (within from.0 (there from.0 from.1)) location from.2)))

    at_same : (m : Mount ℕ) → Among m w.mounts
        → (is_own w names old m || is_at nat_eq (roots_and_directories old) m) ≡ false
        → is_at nat_eq (locations (members ended names)) m ≡ is_at nat_eq (locations old) m
    at_same m n none = same_truth (is_at nat_eq (locations (members ended names)) m) (is_at nat_eq (locations old) m)
        (λ h. let at = any_among (λ (l : Location ℕ). nat_eq l.mount m.number) (locations (members ended names)) h in
        ⊎_elim (λ same. cc (whole m n (cc))) (λ before. any_from_among _ (locations old) at.0 before at.2)
        (were at.0 at.1)) (λ h. let at = any_among (λ (l : Location ℕ). nat_eq l.mount m.number) (locations old) h in
        any_from_among _ (locations (members ended names)) at.0 (stay at.0 at.1) at.2)

    kept_by : (m : Mount ℕ) → keep w names (members ended names) m
        ≡ cond (is_own w names old m || is_at nat_eq (roots_and_directories old) m) (Some m)
        (when (is_at nat_eq (locations (members ended names)) m) (seen_by_descriptor m))
    kept_by m i = cond (holds_of (λ k. own_same k i) m.namespace || is_at nat_eq (roots_same i) m) (Some m)
        (when (is_at nat_eq (locations (members ended names)) m) (seen_by_descriptor m))

    kept_same : (m : Mount ℕ) → Among m w.mounts → keep w names (members ended names) m ≡ keep w names old m
    kept_same m n = grind (arith, common_steps, kept_by, is_own, at_same)

    abbrev shows : Location ℕ → ℕ
    shows location = (mount_at nat_eq w location).filesystem

    abbrev mounted : List ℕ
    mounted = map (λ (m : Mount ℕ). m.filesystem) (filter (λ (m : Mount ℕ). is_own w names old m) w.mounts)

    used_same : (n : ℕ) → Among n (mounted ++ map shows (locations (members ended names)))
        → Among n (mounted ++ map shows (locations old))
    used_same n m = ⊎_elim (among-append_left mounted _ n) (λ at. let l = among-from_map shows _ n at in
        ⊎_elim (λ same. subst (λ k. Among k (mounted ++ map shows (locations old))) (cc) used)
        (λ before. among-append_right mounted (map shows (locations old)) n
        (subst (λ k. Among k (map shows (locations old))) (sym l.2) (among-map shows (locations old) l.0 before)))
        (were l.0 l.1)) (among-append mounted (map shows (locations (members ended names))) n m)

    used_still : (n : ℕ) → Among n (mounted ++ map shows (locations old))
        → Among n (mounted ++ map shows (locations (members ended names)))
    used_still n m = ⊎_elim (among-append_left mounted (map shows (locations (members ended names))) n)
        (λ at. let l = among-from_map shows (locations old) n at in among-append_right mounted
        (map shows (locations (members ended names))) n (rw l.2 (among-map shows (locations (members ended names)) l.0
        (stay l.0 l.1)))) (among-append mounted (map shows (locations old)) n m)

    direct_by : (p : ℕ → Bool) → list_any p (used_directly nat_eq ended names)
        ≡ list_any p (mounted ++ map shows (locations (members ended names)))
    direct_by p i = list_any p (map (λ (m : Mount ℕ). m.filesystem)
        (filter (λ (m : Mount ℕ). holds_of (λ k. own_same k i) m.namespace) w.mounts)
        ++ map shows (locations (members ended names)))

    direct_same : (p : ℕ → Bool) → list_any p (used_directly nat_eq ended names)
        ≡ list_any p (used_directly nat_eq w names)
    direct_same p = cc (
      direct_by p,
      same_truth (list_any p (mounted ++ map shows (locations (members ended names)))) (list_any p (mounted ++ map
          shows (locations old))) (λ h. let at = any_among p (mounted ++ map shows (locations (members ended names))) h
          in any_from_among p (mounted ++ map shows (locations old)) at.0 (used_same at.0 at.1) at.2) (λ h. let at =
          any_among p (mounted ++ map shows (locations old)) h in any_from_among p (mounted ++ map shows (locations
          (members ended names))) at.0 (used_still at.0 at.1) at.2),
    )

    pub leaves : LeavesTasks w names names name (map replaced w.tasks)
    leaves = record {
      more = λ location m.
          let from = among-from_flat_map locations_of w.tasks location m in
          among-flat_map locations_of (map replaced w.tasks) (replaced from.0) location
          (among-map replaced w.tasks from.0 from.1) (stay_its from.0 (within from.0 from.1) location from.2);
      sees =
          subst (λ l. SeeAlike w names names l (raised w.change)) (sym (map_twice (raised_task name) replaced w.tasks))
          (record { own = own_same; mounts = kept_same; direct = direct_same });
    }

pub opens_end_alike : OpensEndAlike
opens_end_alike world names name path access how it task called fresh other file wanted granted_so not_copied =
    tasks_end_alike world names names name (OpenFile path access how) it task called fresh other
    (Opened (free_number task)) refl (map changed world.tasks) (map changed part.tasks)
    (ap (run_by it world fresh task) granted_so ∙ ap (opened_by world fresh) not_copied)
    (ran_there it fresh other task called granted_so ∙ ap (opened_by part other) copied_alike)
    (leaves names name it.is called file wanted world (λ t m. m)
    (whole_in_world world names it.is file ground) used_in_world)
    (leaves names name it.is called file wanted part in_world (whole_in_part world names it.is file ground)
    (used_in_part world names it.is file ground))
    (replaced_members world.tasks ∙ sym (replaced_members part.tasks
    ∙ ap (map (both names name it.is called file wanted)) (same_members world names)))
  where
    part : World ℕ
    part = part_of nat_eq world names

    member : IsMember world names task
    member = caller_in it called

    changed : Task ℕ → Task ℕ
    changed = replaced_if_called (with_descriptor task file wanted)

    opened_by : World ℕ → Fresh ℕ → Bool → Outcome ℕ
    opened_by w supply b = finished nat_eq w name (OpenFile path access how) (changed_if nat_eq b w file)
        (opened (with_copy nat_eq b supply w file) task file wanted)

    ground : IsTheirs world names it.is.mounts file.mount
    ground = theirs_from world names it.is.mounts file.mount
        (subst (λ j. IfOk j (OpensOn (is_theirs world names))) granted_so (opens_theirs member _ path access how))

    copied_alike : is_copied_up nat_eq part file wanted ≡ false
    copied_alike = cc (filesystem_alike world names it.is file ground, not_copied)

    in_world : (t : Task ℕ) → Among t part.tasks → Among t world.tasks
    in_world t m = (among-from_filter (is_member_task names) world.tasks t m).0

    used_in_world : Among (mount_at nat_eq world file).filesystem (used_directly nat_eq world names)
    used_in_world = theirs_directly world names it.is file ground

    replaced_members : (tasks : List (Task ℕ))
        → filter (is_member_task names) (map (raised_task name) (map changed tasks))
        ≡ map (both names name it.is called file wanted) (filter (is_member_task names) tasks)
    replaced_members tasks = cc (
      map_twice (raised_task name) changed tasks,
      filter-map (is_member_task names) (both names name it.is called file wanted) tasks (λ t. ap (λ n.
          is_among same_name n names) (both_named names name it.is called file wanted t)),
    )
