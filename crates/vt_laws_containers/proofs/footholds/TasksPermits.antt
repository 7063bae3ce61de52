-- Permits to look, to change tasks, and to change files leave others as they were.
use Rattle.std.proofs.Common.{◌≡◌, refl, sym, ap, subst, ◌∙◌, inl, inr, ⊎_elim, ℕ, nat_eq, Bool, true, false, true≢false, List, Ok, map, not, IfOk, ◌==◌}
use Rattle.vt_spec.proofs.Common.{cases_Bool, Access, Allowed, Among, Call, Descriptor, Filesystem, Fresh, Location, Make, Permit, Task, TaskName, ToChange, ToClose, ToExit, ToFork, ToList, ToListMounts, ToMake, ToOpen, ToOpenNew, ToRead, ToReadPart, ToSetCredentials, ToSetDirectory, ToSetRoot, ToSetUmask, ToStat, ToWritePart, World, among-from_filter, among-from_map, among-map, apply, evens, judge_in, odds, only_looks, replaced_if_called, settled, with_descriptor, without_descriptor, Exit, judging, same_ok}
use Rattle.vt_laws_containers.proofs.footholds.ServedCalls.{IsServedCall}
use Rattle.vt_laws_containers.proofs.Common.{IsMember, IsTheirs, StandsOnTheirs, caller_in, directory_theirs, granted_theirs, grown, is_theirs, left, permits_are_for_their_calls, root_theirs, sealing_of, theirs_from}
use Rattle.vt_laws_sealed.proofs.outsiders.Opening.{inserted_at}
use Rattle.vt_laws_members.proofs.changes.letting_go.Moving.{SetsDirectory, SetsRoot, sets_directory, sets_root}
use Rattle.vt_laws_members.proofs.changes.tasks.Opening.{OpensOn, opens_theirs}
use Rattle.vt_laws_containers.specs.Footholds.{GivesNoFoothold}
use Rattle.vt_laws_containers.specs.PermitFootholds.{DenialsGiveNoFoothold, LooksGiveNoFoothold}
use Rattle.vt_laws_containers.proofs.footholds.PermitFootholds.{FilesGiveNoFoothold, TasksGiveNoFoothold, is_of_files, is_of_tasks}
use Rattle.vt_laws_containers.proofs.footholds.AsBefore.{GoesOn, OthersAsBefore}
use Rattle.vt_laws_containers.proofs.footholds.EndsAsBefore.{swept_as_before}
use Rattle.vt_laws_containers.proofs.footholds.FilesGoOn.{ChangesFiles, change_changes_files, copy_changes_files, write_changes_files}
use Rattle.vt_laws_containers.proofs.footholds.Granting.{EndsInAWorld, as_itself, granted_out, looks_out, one_permit, refused_out}
use Rattle.vt_laws_containers.proofs.footholds.TasksAsBefore.{caller_beside, child_beside, tasks_as_before, tasks_beside}
use Rattle.vt_laws_containers.proofs.scripts.Called.{exit_if, is_exit, left_all}

-- the place that a permit names
abbrev place_of : Location ℕ → Permit ℕ → Location ℕ
place_of other (ToSetDirectory directory) = directory
place_of other (ToSetRoot root) = root
place_of other permit = other

abbrev ends_task : Permit ℕ → Bool
ends_task ToExit = true
ends_task permit = false

-- an exit is permitted as such
exit_ends : (fresh : Fresh ℕ) (world : World ℕ) (task : Task ℕ) (permit : Permit ℕ)
    → judge_in nat_eq fresh world task Exit ≡ Ok permit → ends_task permit ≡ true
unfolding judging
exit_ends fresh world task permit e = sym (ap ends_task (same_ok ToExit permit e))

module _ {world : World ℕ} {names : List TaskName} {name : TaskName} {call : Call} {fresh : Fresh ℕ}
    {task : Task ℕ} (it : IsServedCall world names name call fresh task) where
  member : IsMember world names task
  member = caller_in it.it it.called

  abbrev pub Before : Permit ℕ → Type 0
  Before permit = OthersAsBefore world (apply nat_eq fresh world task permit).world names
      (grown names name call (apply nat_eq fresh world task permit).answer)

  -- a call that ends no task leaves the set
  no_exit : (permit : Permit ℕ) → judge_in nat_eq fresh world task call ≡ Ok permit → ends_task permit ≡ false
      → is_exit call ≡ false
  no_exit permit judged other = elim (cases_Bool (is_exit call)) [
    | inl e ↦ absurd (true≢false (sym (exit_ends fresh world task permit
        (sym (ap (judge_in nat_eq fresh world task) (exit_if call e)) ∙ judged)) ∙ other))
    | inr e ↦ e
  ]

  pub stays : (permit : Permit ℕ) → judge_in nat_eq fresh world task call ≡ Ok permit → ends_task permit ≡ false
      → left names name call ≡ names
  stays permit judged other = left_all names name call (no_exit permit judged other)

  its_files : (f : Filesystem ℕ) → Among f world.filesystems → GoesOn world names f
  its_files f m = inl (f, m, refl, refl)

  itself : OthersAsBefore world world names names
  itself = as_itself (sealing_of it.it)

  -- a task in the place of the caller, and other filesystems
  replaced : (mine : Task ℕ) → StandsOnTheirs world names name call it.it task mine → mine.namespace ≡ task.namespace
      → (filesystems : List (Filesystem ℕ)) → ((f : Filesystem ℕ) → Among f filesystems → GoesOn world names f)
      → OthersAsBefore world (record world {
        tasks = map (replaced_if_called mine) world.tasks;
        filesystems = filesystems;
      }) names names
  replaced mine stands spaced filesystems files = tasks_as_before names (sealing_of it.it) _ _
      (caller_beside world names name call it.it task it.called mine stands spaced _ files)

  abbrev OnTheirs : Location ℕ → Type 0
  OnTheirs location = IsTheirs world names it.is.mounts location.mount

  with_directory : (place : Location ℕ) → OnTheirs place
      → StandsOnTheirs world names name call it.it task (record task { directory = place })
  with_directory place on = record {
    named = refl;
    root = root_theirs world names it.is task member.among;
    directory = on;
    places = λ l m. ⊎_elim (λ root. inl (inl root))
        (λ rest. ⊎_elim (λ here. inr (subst OnTheirs (sym here) on)) (λ open_file. inl (inr (inr open_file))) rest) m;
  }

  with_root : (place : Location ℕ) → OnTheirs place
      → StandsOnTheirs world names name call it.it task (record task { root = place })
  with_root place on = record {
    named = refl;
    root = on;
    directory = directory_theirs world names it.is task member.among;
    places = λ l m. ⊎_elim (λ here. inr (subst OnTheirs (sym here) on)) (λ rest. inl (inr rest)) m;
  }

  closing : (number : ℕ) → StandsOnTheirs world names name call it.it task (without_descriptor task number)
  closing number = record {
    named = refl;
    root = root_theirs world names it.is task member.among;
    directory = directory_theirs world names it.is task member.among;
    places = λ l m. inl (⊎_elim inl (λ rest. inr (⊎_elim inl (λ open_file.
        let d = among-from_map (λ (d : Descriptor ℕ). d.location) _ l open_file in
        inr (subst (λ (k : Location ℕ). Among k (map (λ (d : Descriptor ℕ). d.location) task.descriptors)) (sym d.2)
        (among-map (λ (d : Descriptor ℕ). d.location) _ d.0
        (among-from_filter (λ (d : Descriptor ℕ). not (number == _)) _ d.0 d.1).0))) rest)) m);
  }

  opening : (file : Location ℕ) (access : Access) → OnTheirs file
      → StandsOnTheirs world names name call it.it task (with_descriptor task file access)
  opening file access on = record {
    named = refl;
    root = root_theirs world names it.is task member.among;
    directory = directory_theirs world names it.is task member.among;
    places = λ l m. ⊎_elim (λ root. inl (inl root)) (λ rest. ⊎_elim (λ directory. inl (inr (inl directory)))
        (λ open_file. ⊎_elim (λ here. inr (subst OnTheirs (sym here) on)) (λ old. inl (inr (inr old)))
        (inserted_at _ task.descriptors l open_file)) rest) m;
  }

  directory_there : (place : Location ℕ) → judge_in nat_eq fresh world task call ≡ Ok (ToSetDirectory place)
      → OnTheirs place
  directory_there place judged =
      let for = permits_are_for_their_calls fresh world task call (ToSetDirectory place) judged in
      let its : SetsDirectory member (ToSetDirectory place) =
      subst (λ j. IfOk j (SetsDirectory member)) (sym (ap (judge_in nat_eq fresh world task) for.1) ∙ judged)
      (sets_directory member _ for.0) in
      theirs_from world names it.is.mounts place.mount
      (ap (λ (l : Location ℕ). is_theirs world names l.mount) (ap (place_of place) its.1) ∙ its.2)

  root_there : (place : Location ℕ) → judge_in nat_eq fresh world task call ≡ Ok (ToSetRoot place) → OnTheirs place
  root_there place judged =
      let for = permits_are_for_their_calls fresh world task call (ToSetRoot place) judged in
      let its : SetsRoot member (ToSetRoot place) =
      subst (λ j. IfOk j (SetsRoot member)) (sym (ap (judge_in nat_eq fresh world task) for.1) ∙ judged)
      (sets_root member _ for.0) in
      theirs_from world names it.is.mounts place.mount
      (ap (λ (l : Location ℕ). is_theirs world names l.mount) (ap (place_of place) its.1) ∙ its.2)

  -- where the set stays
  pub kept : (permit : Permit ℕ) → judge_in nat_eq fresh world task call ≡ Ok permit → ends_task permit ≡ false
      → (w : World ℕ) → OthersAsBefore world w names names → OthersAsBefore world w names (left names name call)
  kept permit judged other w before = subst (OthersAsBefore world w names) (sym (stays permit judged other)) before

  of_tasks : (permit : Permit ℕ) → judge_in nat_eq fresh world task call ≡ Ok permit → is_of_tasks permit ≡ true
      → Before permit
  of_tasks Allowed judged e = kept Allowed judged refl world itself
  of_tasks (ToList directory) judged e = itself
  of_tasks (ToStat object) judged e = itself
  of_tasks (ToRead file) judged e = itself
  of_tasks (ToReadPart file offset size) judged e = itself
  of_tasks ToListMounts judged e = itself
  of_tasks (ToClose number) judged e = kept _ judged refl (apply nat_eq fresh world task (ToClose number)).world
      (replaced _ (closing _) refl _ its_files)
  of_tasks (ToSetDirectory place) judged e =
      kept (ToSetDirectory place) judged refl (apply nat_eq fresh world task (ToSetDirectory place)).world
      (replaced (record task { directory = place }) (with_directory place (directory_there place judged)) refl
      world.filesystems its_files)
  of_tasks (ToSetRoot place) judged e = kept _ judged refl (apply nat_eq fresh world task (ToSetRoot place)).world
      (replaced (record task { root = place }) (with_root place (root_there place judged)) refl _ its_files)
  of_tasks (ToSetUmask umask) judged e =
      kept (ToSetUmask umask) judged refl (apply nat_eq fresh world task (ToSetUmask umask)).world
      (replaced (record task { umask = umask }) (record {
        named = refl;
        root = root_theirs world names it.is task member.among;
        directory = directory_theirs world names it.is task member.among;
        places = λ l m. inl m;
      }) refl world.filesystems its_files)
  of_tasks (ToSetCredentials credentials) judged e = kept (ToSetCredentials credentials) judged refl
      (apply nat_eq fresh world task (ToSetCredentials credentials)).world
      (replaced (record task { credentials = credentials }) (record {
        named = refl;
        root = root_theirs world names it.is task member.among;
        directory = directory_theirs world names it.is task member.among;
        places = λ l m. inl m;
      }) refl world.filesystems its_files)
  of_tasks (ToFork credentials) judged e = tasks_as_before _ (sealing_of it.it) _ world.filesystems
      (child_beside it.it task it.called credentials)
  of_tasks permit judged e = absurd (true≢false (sym e))

  -- Files
  pub changed_before : (w : World ℕ) → ChangesFiles world w → OthersAsBefore world w names names
  changed_before w changes = subst (λ v. OthersAsBefore world v names names) (sym changes.same) (tasks_as_before names
      (sealing_of it.it) _ _ (tasks_beside world names it.is _ (λ f m. inl (changes.placed f m))))

  opened_before : (w : World ℕ) → ChangesFiles world w → (file : Location ℕ) (access : Access) → OnTheirs file
      → OthersAsBefore world
      (record w { tasks = map (replaced_if_called (with_descriptor task file access)) w.tasks }) names names
  opened_before w changes file access on = subst (λ v. OthersAsBefore world
      (record v { tasks = map (replaced_if_called (with_descriptor task file access)) v.tasks }) names names)
      (sym changes.same) (replaced _ (opening file _ on) refl _ (λ f m. inl (changes.placed f m)))

  opened_there : (file : Location ℕ) (access : Access) → judge_in nat_eq fresh world task call ≡ Ok (ToOpen file access)
      → OnTheirs file
  opened_there file access judged =
      let for = permits_are_for_their_calls fresh world task call (ToOpen file access) judged in
      theirs_from world names it.is.mounts file.mount (subst (λ j. IfOk j (OpensOn (is_theirs world names)))
      (sym (ap (judge_in nat_eq fresh world task) for.2) ∙ judged) (opens_theirs member _ for.0 access for.1))

  of_files : (permit : Permit ℕ) → judge_in nat_eq fresh world task call ≡ Ok permit → is_of_files permit ≡ true
      → Before permit
  of_files (ToChange location change) judged e = kept _ judged refl (apply nat_eq fresh world task
      (ToChange location change)).world (changed_before (apply nat_eq fresh world task (ToChange location change)).world
      (change_changes_files world it.is.files.one_filesystem fresh location _))
  of_files (ToMake directory entry node) judged e =
      kept (ToMake directory entry node) judged refl (apply nat_eq fresh world task (ToMake directory entry node)).world
      (changed_before (apply nat_eq fresh world task (ToMake directory entry node)).world
      (change_changes_files world it.is.files.one_filesystem (odds fresh) directory
      (Make directory.node entry (evens fresh 0) node)))
  of_files (ToOpen file access) judged e = opened_before _
      (copy_changes_files world it.is.files.one_filesystem _ fresh file) file _ (opened_there file _ judged)
  of_files (ToOpenNew directory entry node access) judged e = opened_before _
      (change_changes_files world it.is.files.one_filesystem (odds fresh) directory (Make directory.node entry
      (evens fresh 0) node)) (record { mount = directory.mount; node = evens fresh 0 }) access
      (theirs_from world names it.is.mounts _ (granted_theirs member fresh call _ judged _ _ refl tt))
  of_files (ToWritePart file offset bytes) judged e = kept (ToWritePart file offset bytes) judged refl
      (apply nat_eq fresh world task (ToWritePart file offset bytes)).world
      (changed_before (apply nat_eq fresh world task (ToWritePart file offset bytes)).world
      (write_changes_files world it.is.files.one_filesystem fresh file offset bytes))
  of_files permit judged e = absurd (true≢false (sym e))

  -- by the one permit of the call, whose world is swept
  pub swept_out : (permit : Permit ℕ) → judge_in nat_eq fresh world task call ≡ Ok permit
      → (EndsInAWorld it.it fresh it.serves it.few task permit
      → OthersAsBefore world (settled nat_eq (apply nat_eq fresh world task permit).world) names
      (grown names name call (apply nat_eq fresh world task permit).answer))
      → GivesNoFoothold world names name call fresh
  swept_out permit judged before = elim (cases_Bool (only_looks call)) [
    | inl e ↦ looks_out it.it fresh e
    | inr e ↦ granted_out it.it fresh it.serves it.few e (one_permit it.it fresh it.serves it.few task it.called permit
        judged before)
  ]

  -- or before the sweep
  pub permit_out : (permit : Permit ℕ) → judge_in nat_eq fresh world task call ≡ Ok permit
      → (EndsInAWorld it.it fresh it.serves it.few task permit → Before permit)
      → GivesNoFoothold world names name call fresh
  permit_out permit judged before = swept_out permit judged (λ ends.
      swept_as_before world (apply nat_eq fresh world task permit).world names
      (grown names name call (apply nat_eq fresh world task permit).answer) (before ends))

pub looks_give_no_foothold : LooksGiveNoFoothold
looks_give_no_foothold world names name call it fresh looks = looks_out it fresh looks

pub denials_give_no_foothold : DenialsGiveNoFoothold
denials_give_no_foothold world names name call it fresh refused = refused_out it fresh refused

pub tasks_give_no_foothold : TasksGiveNoFoothold
tasks_give_no_foothold world names name call it few fresh serves task called permit judged is_one =
    permit_out (record { it = it; few = few; serves = serves; called = called }) permit judged
    (λ ends. of_tasks (record { it = it; few = few; serves = serves; called = called }) permit judged is_one)

pub files_give_no_foothold : FilesGiveNoFoothold
files_give_no_foothold world names name call it few fresh serves task called permit judged is_one =
    permit_out (record { it = it; few = few; serves = serves; called = called }) permit judged
    (λ ends. of_files (record { it = it; few = few; serves = serves; called = called }) permit judged is_one)
