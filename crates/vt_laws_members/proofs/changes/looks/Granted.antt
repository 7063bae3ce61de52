-- What a call of theirs that only looks is granted: to look at what is on mounts of theirs, or at an open file.
use Rattle.std.proofs.Common.{◌≡◌, refl, sym, inr, ℕ, nat_eq, Bool, true, true≢false, List, Ok, Err, Result, IfOk, subst, ◌==◌}
use Rattle.vt_spec.proofs.Common.{Allowed, Among, Call, Descriptor, Exec, Exit, Fork, Here, Judgement, ListMounts, Location, Looks, Ls, Lstat, Permit, Pread, Read, Readlink, Stat, Task, TaskName, ToList, ToListMounts, ToRead, ToReadPart, ToStat, World, among-flat_map, among-map, directory_walk, found_among, is_among, judge, locations, locations_of, looks_of, members, object_walk, only_looks, part_of, symlink_walk, used_filesystems, ⊤, descriptor_at, descriptor_found}
use Rattle.vt_laws_members.proofs.judging.Common.{HereAt, IsMember, JudgesAlike, directory_agrees, judges, leads_alike, object_agrees, symlink_agrees}
use Rattle.vt_laws_members.specs.Changes.Changes.{left}
use Rattle.vt_laws_members.specs.Judging.{is_theirs}
use Rattle.vt_laws_rules.proofs.given.Inversion.{IfGranted, call_is_granted, holds_of_granted}
use Rattle.vt_spec.specs.Machine.Judging.{judging}

-- any answers to M9, of a call that attaches no mount
abbrev pub any_answers : Permit ℕ → Bool
any_answers permit = true

-- what holds of the permit in each way in which a call may be granted holds of it
pub judged_so : (looks : Looks ℕ) (overfills : Permit ℕ → Bool) (task : Task ℕ) (P : Permit ℕ → Type 0) (call : Call)
    → IfGranted nat_eq looks overfills task P (judging nat_eq looks task call)
    → IfOk (judge nat_eq looks overfills task call) P
judged_so looks overfills task P call h = by (judge nat_eq looks overfills task call) refl
  where
    by : (answer : Judgement ℕ) → judge nat_eq looks overfills task call ≡ answer → IfOk answer P
    by (Ok permit) e = holds_of_granted nat_eq looks overfills task P (judging nat_eq looks task call) permit h
        (call_is_granted nat_eq looks overfills task call permit e)
    by (Err deny) e = tt

-- what holds wherever a walk ends holds where it ends
pub ends_so : {A B : Type 0} {walk : Result A B} {a : A} (Q : A → Type 0) → IfOk walk Q → walk ≡ Ok a → Q a
ends_so Q so end = subst (λ w. IfOk w Q) end so

-- to look at these
abbrev pub IsLook : (own : ℕ → Bool) → List (Location ℕ) → Permit ℕ → Type 0
IsLook own files Allowed = ⊤
IsLook own files (ToList directory) = own directory.mount ≡ true
IsLook own files (ToStat object) = own object.mount ≡ true
IsLook own files (ToRead file) = own file.mount ≡ true
IsLook own files (ToReadPart file offset size) = Among file files
IsLook own files ToListMounts = ⊤
IsLook own files permit = ⊥

module _ {world : World ℕ} {names : List TaskName} {task : Task ℕ} (member : IsMember world names task) where
  abbrev one : Looks ℕ
  one = looks_of nat_eq world

  abbrev other : Looks ℕ
  other = looks_of nat_eq (part_of nat_eq world names)

  abbrev Looked : Permit ℕ → Type 0
  Looked = IsLook (is_theirs world names) (locations (members world names))

  alike : JudgesAlike one other task (is_theirs world names) (λ number. is_among nat_eq number
      (used_filesystems nat_eq world names))
  alike = judges member

  abbrev StandsHere : Here ℕ → Type 0
  StandsHere = HereAt (leads_alike alike)

  at_object : (path : List ℕ) → IfOk (object_walk nat_eq one task path) StandsHere
  at_object path = (object_agrees (leads_alike alike) path).1

  at_symlink : (path : List ℕ) → IfOk (symlink_walk nat_eq one task path) StandsHere
  at_symlink path = (symlink_agrees (leads_alike alike) path).1

  at_directory : (path : List ℕ) → IfOk (directory_walk nat_eq one task path) StandsHere
  at_directory path = (directory_agrees (leads_alike alike) path).1

  -- an open file of theirs
  pub opened_theirs : (descriptor : Descriptor ℕ) → Among descriptor task.descriptors
      → Among descriptor.location (locations (members world names))
  opened_theirs descriptor m = among-flat_map locations_of (members world names) task descriptor.location member.among
      (inr (inr (among-map (λ (d : Descriptor ℕ). d.location) task.descriptors descriptor m)))

  pub found_theirs : (number : ℕ) (fits : Descriptor ℕ → Bool) (descriptor : Descriptor ℕ)
      → descriptor_at task number fits ≡ Ok descriptor → Among descriptor.location (locations (members world names))
  found_theirs number fits descriptor found = opened_theirs descriptor (found_among
      (λ (d : Descriptor ℕ). number == d.number) task.descriptors descriptor
      (descriptor_found task number fits descriptor found).0)

  looks_at : (overfills : Permit ℕ → Bool) (call : Call) → only_looks call ≡ true
      → IfGranted nat_eq one overfills task Looked (judging nat_eq one task call)
  unfolding judging
  looks_at overfills (Ls path) e = λ here end passed. ends_so StandsHere (at_directory path) end
  looks_at overfills (Stat path) e = λ here end. ends_so StandsHere (at_object path) end
  looks_at overfills (Lstat path) e = λ here end. ends_so StandsHere (at_symlink path) end
  looks_at overfills (Readlink path) e = λ here end passed. ends_so StandsHere (at_symlink path) end
  looks_at overfills (Read path) e = λ here end passed. ends_so StandsHere (at_object path) end
  looks_at overfills (Exec path) e = λ here end passed. tt
  looks_at overfills (Pread number offset size) e =
      λ descriptor found. found_theirs number (λ (d : Descriptor ℕ). d.reads) descriptor found
  looks_at overfills ListMounts e = tt
  looks_at overfills call e = absurd (true≢false (sym e))

  left_alone : (set : List TaskName) (name : TaskName) (call : Call) → only_looks call ≡ true
      → left set name call ≡ set
  left_alone set name (Fork words) e = absurd (true≢false (sym e))
  left_alone set name Exit e = absurd (true≢false (sym e))
  left_alone set name call e = refl

  pub looked : (overfills : Permit ℕ → Bool) (set : List TaskName) (name : TaskName) (call : Call)
      → only_looks call ≡ true → IfOk (judge nat_eq one overfills task call) Looked × (left set name call ≡ set)
  looked overfills set name call e =
      (judged_so one overfills task Looked call (looks_at overfills call e), left_alone set name call e)
