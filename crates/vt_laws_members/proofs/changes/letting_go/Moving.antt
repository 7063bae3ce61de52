-- Calls of close(2), chdir(2) and chroot(2) end in the part as in the world.
use Rattle.std.proofs.Common.{Bool, ◌≡◌, refl, sym, ap, subst, ◌∙◌, inl, inr, ⊎_elim, ℕ, nat_eq, true, List, Some, Ok, Err, Result, filter, map, not, IfOk, ◌==◌}
use Rattle.vt_spec.proofs.Common.{Among, Chdir, Chroot, Close, Descriptor, Here, Location, Looks, Permit, Task, TaskName, ToClose, ToSetDirectory, ToSetRoot, World, among-from_filter, among-from_map, among-map, and_then, descriptor_at, directory_walk, is_among, judge, judge_in, judging, looks_of, part_of, task_called, used_filesystems}
use Rattle.vt_laws_members.proofs.Common.{Deny}
use Rattle.vt_laws_members.proofs.judging.Common.{HereAt, IsMember, IsTheirs, JudgesAlike, caller_in, directory_agrees, directory_theirs, judges, leads_alike, root_theirs, theirs_from}
use Rattle.vt_laws_members.specs.Judging.{is_theirs}
use Rattle.vt_laws_members.specs.Changes.Changes.{EndsAlike}
use Rattle.vt_laws_members.specs.Changes.LettingGo.{ChdirsEndAlike, ChrootsEndAlike, ClosesEndAlike}
use Rattle.vt_laws_members.proofs.changes.looks.Granted.{ends_so, judged_so}
use Rattle.vt_laws_members.proofs.changes.tasks.ByPermit.{by_known}
use Rattle.vt_laws_members.proofs.changes.tasks.Denied.{ran_there, run_by}
use Rattle.vt_laws_members.proofs.changes.letting_go.Callers.{moved_alike, spaces_kept}

-- The permit of close(2)
abbrev Closes : ℕ → Permit ℕ → Type 0
Closes number permit = permit ≡ ToClose number

closes_after : (number : ℕ) (r : Result (Descriptor ℕ) Deny) → IfOk
    (and_then r (λ descriptor. Ok (ToClose number))) (Closes number)
closes_after number (Ok descriptor) = refl
closes_after number (Err deny) = tt

closes : (looks : Looks ℕ) (full : Permit ℕ → Bool) (task : Task ℕ) (number : ℕ) → IfOk (judge nat_eq looks full task (Close number)) (Closes number)
unfolding judging
closes looks full task number = closes_after number (descriptor_at task number (λ descriptor. true))

module _ {world : World ℕ} {names : List TaskName} {task : Task ℕ} (member : IsMember world names task) where
  abbrev pub one : Looks ℕ
  one = looks_of nat_eq world

  abbrev pub other : Looks ℕ
  other = looks_of nat_eq (part_of nat_eq world names)

  abbrev pub On : ℕ → Type 0
  On number = is_theirs world names number ≡ true

  pub alike : JudgesAlike one other task (is_theirs world names)
      (λ number. is_among nat_eq number (used_filesystems nat_eq world names))
  alike = judges member

  abbrev pub StandsHere : Here ℕ → Type 0
  StandsHere = HereAt (leads_alike alike)

  pub at_directory : (path : List ℕ) → IfOk (directory_walk nat_eq one task path) StandsHere
  at_directory path = (directory_agrees (leads_alike alike) path).1

  -- The permits of chdir(2) and chroot(2)
  abbrev pub SetsDirectory : Permit ℕ → Type 0
  SetsDirectory permit = (l : Location ℕ) × (permit ≡ ToSetDirectory l) × On l.mount

  abbrev pub SetsRoot : Permit ℕ → Type 0
  SetsRoot permit = (l : Location ℕ) × (permit ≡ ToSetRoot l) × On l.mount

  pub sets_directory : (full : Permit ℕ → Bool) (path : List ℕ) → IfOk (judge nat_eq one full task (Chdir path)) SetsDirectory
  unfolding judging
  sets_directory full path = judged_so one full task SetsDirectory (Chdir path) (λ here end passed.
      (here.location, refl, ends_so StandsHere (at_directory path) end))

  pub sets_root : (full : Permit ℕ → Bool) (path : List ℕ) → IfOk (judge nat_eq one full task (Chroot path)) SetsRoot
  unfolding judging
  sets_root full path = judged_so one full task SetsRoot (Chroot path) (λ capable here end passed.
      (here.location, refl, ends_so StandsHere (at_directory path) end))

pub closes_end_alike : ClosesEndAlike
closes_end_alike world names name number it fresh other = by_known it fresh other refl (λ task e. Closes number)
    (λ task e. closes _ _ task number) (λ task e permit judged its. granted_so task e (judged ∙ ap Ok its))
  where
    part : World ℕ
    part = part_of nat_eq world names

    granted_so : (task : Task ℕ) → task_called world name ≡ Some task
        → judge_in nat_eq fresh world task (Close number) ≡ Ok (ToClose number)
        → EndsAlike world names name (Close number) fresh other
    granted_so task e judged =
        let member = caller_in it e in
        moved_alike it task e (record task {
          descriptors = filter (λ (d : Descriptor ℕ). not (number == d.number))
              task.descriptors;
        })
        (record {
          named = refl;
          root = root_theirs world names it.is task member.among;
          directory = directory_theirs world names it.is task member.among;
          places = λ l m. inl (⊎_elim inl (λ rest. inr (⊎_elim inl (λ open_file.
              let d = among-from_map (λ (d : Descriptor ℕ). d.location)
              (filter (λ (d : Descriptor ℕ). not (number == d.number)) task.descriptors) l open_file in
              inr (subst (λ (k : Location ℕ). Among k (map (λ (d : Descriptor ℕ). d.location) task.descriptors))
              (sym d.2) (among-map (λ (d : Descriptor ℕ). d.location) task.descriptors d.0
              (among-from_filter (λ (d : Descriptor ℕ). not
              (number == d.number)) task.descriptors d.0 d.1).0))) rest)) m);
        }) fresh other refl (spaces_kept it task e
        (record task { descriptors = filter (λ (d : Descriptor ℕ). not (number == d.number)) task.descriptors }) refl
        refl) (ap (run_by it world fresh task) judged) (ran_there it fresh other task e judged)

pub chdirs_end_alike : ChdirsEndAlike
chdirs_end_alike world names name path it fresh other = by_known it fresh other refl
    (λ task e. SetsDirectory (caller_in it e)) (λ task e. sets_directory (caller_in it e) _ path)
    (λ task e permit judged its. granted_so task (caller_in it e) e its.0
    (theirs_from world names it.is.mounts its.0.mount its.2) (judged ∙ ap Ok its.1))
  where
    part : World ℕ
    part = part_of nat_eq world names

    granted_so : (task : Task ℕ) (member : IsMember world names task) → task_called world name ≡ Some task
        → (l : Location ℕ) → IsTheirs world names it.is.mounts l.mount
        → judge_in nat_eq fresh world task (Chdir path) ≡ Ok (ToSetDirectory l)
        → EndsAlike world names name (Chdir path) fresh other
    granted_so task member e l on judged =
        moved_alike it task e (record task { directory = l }) (record {
          named = refl;
          root = root_theirs world names it.is task member.among;
          directory = on;
          places = λ k m. ⊎_elim (λ root. inl (inl root)) (λ rest. ⊎_elim
              (λ here. inr (subst (λ (q : Location ℕ). IsTheirs world names it.is.mounts q.mount) (sym here) on))
              (λ open_file. inl (inr (inr open_file))) rest) m;
        }) fresh other refl (spaces_kept it task e
        (record task { directory = l }) refl refl) (ap (run_by it world fresh task) judged)
        (ran_there it fresh other task e judged)

pub chroots_end_alike : ChrootsEndAlike
chroots_end_alike world names name path it fresh other = by_known it fresh other refl
    (λ task e. SetsRoot (caller_in it e)) (λ task e. sets_root (caller_in it e) _ path)
    (λ task e permit judged its. granted_so task (caller_in it e) e its.0
    (theirs_from world names it.is.mounts its.0.mount its.2) (judged ∙ ap Ok its.1))
  where
    part : World ℕ
    part = part_of nat_eq world names

    granted_so : (task : Task ℕ) (member : IsMember world names task) → task_called world name ≡ Some task
        → (l : Location ℕ) → IsTheirs world names it.is.mounts l.mount
        → judge_in nat_eq fresh world task (Chroot path) ≡ Ok (ToSetRoot l)
        → EndsAlike world names name (Chroot path) fresh other
    granted_so task member e l on judged =
        moved_alike it task e (record task { root = l }) (record {
          named = refl;
          root = on;
          directory = directory_theirs world names it.is task member.among;
          places = λ k m. ⊎_elim
              (λ here. inr (subst (λ (q : Location ℕ). IsTheirs world names it.is.mounts q.mount) (sym here) on))
              (λ rest. inl (inr rest)) m;
        }) fresh other refl (spaces_kept it task e (record task { root = l }) refl refl)
        (ap (run_by it world fresh task) judged) (ran_there it fresh other task e judged)
