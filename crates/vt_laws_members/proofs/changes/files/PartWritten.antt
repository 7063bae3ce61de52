-- A write of bytes at an offset of an open file ends in the part as in the world.
use Rattle.std.proofs.Common.{Bool, ◌≡◌, refl, sym, ap, subst, ◌∙◌, ℕ, nat_eq, List, ◌∷◌, Ok, IfOk}
use Rattle.vt_spec.proofs.Common.{Among, Call, Descriptor, Location, Looks, Permit, Pwrite, SetBytes, Task, TaskName, ToWritePart, World, bytes_in, filesystem_numbered, judge, judge_in, judging, locations, looks_of, members, mount_at, node_at, overwritten, part_of, ⊤}
use Rattle.vt_laws_members.proofs.Common.{found, located}
use Rattle.vt_laws_members.proofs.judging.Common.{IsMember, caller_in, lasting, located_used, sealing_of}
use Rattle.vt_laws_members.specs.Changes.Changes.{PartWritesEndAlike}
use Rattle.vt_laws_members.proofs.changes.files.FilesEnding.{edit_ends}
use Rattle.vt_laws_members.proofs.changes.looks.Granted.{found_theirs, judged_so}
use Rattle.vt_laws_members.proofs.changes.looks.Told.{open_file}
use Rattle.vt_laws_members.proofs.changes.tasks.Denied.{ran_there, run_by}

-- these bytes to one of these files, if it is a write at an offset
abbrev pub Writes : (files : List (Location ℕ)) (bytes : List ℕ) → Permit ℕ → Type 0
Writes files bytes (ToWritePart file at written) = Among file files × (written ≡ bytes)
Writes files bytes permit = ⊤

module _ {world : World ℕ} {names : List TaskName} {task : Task ℕ} (member : IsMember world names task)
    (bytes : List ℕ) where
  abbrev one : Looks ℕ
  one = looks_of nat_eq world

  abbrev Written : Permit ℕ → Type 0
  Written = Writes (locations (members world names)) bytes

  pub writes_theirs : (full : Permit ℕ → Bool) (number offset : ℕ) → IfOk (judge nat_eq one full task (Pwrite number offset bytes)) Written
  unfolding judging
  writes_theirs full number offset = judged_so one full task Written (Pwrite number offset bytes)
      (λ descriptor found passed. (found_theirs member number (λ (d : Descriptor ℕ). d.writes) descriptor found, refl))

pub part_writes_end_alike : PartWritesEndAlike
part_writes_end_alike world names name descriptor offset byte bytes it task called fresh other file at written
    granted_so plain = edit_ends (lasting it called refl refl) file
    (SetBytes file.node (overwritten at (byte ∷ bytes) (bytes_in (node_at nat_eq world file)))) tt plain
    (located_used world names it.is file theirs.0)
    (sym (found world names (mount_at nat_eq world file).filesystem (located_used world names it.is file theirs.0))
    ∙ ap (filesystem_numbered nat_eq part) (sym (located world names file theirs.0)))
    fresh other (ap (run_by it world fresh task) judged) (cc
    (ran_there it fresh other task called judged, open_file (sealing_of it) file theirs.0))
  where
    call : Call
    call = Pwrite descriptor offset (byte ∷ bytes)

    part : World ℕ
    part = part_of nat_eq world names

    theirs : Among file (locations (members world names)) × (written ≡ byte ∷ bytes)
    theirs = subst (λ j. IfOk j (Writes (locations (members world names)) (byte ∷ bytes))) granted_so
        (writes_theirs (caller_in it called) (byte ∷ bytes) _ descriptor offset)

    judged : judge_in nat_eq fresh world task call ≡ Ok (ToWritePart file at (byte ∷ bytes))
    judged = cc theirs.1
