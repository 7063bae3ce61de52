-- An edit of a file on a plain filesystem ends in the part as in the world.
use Rattle.std.proofs.Common.{arith, ◌≡◌, refl, sym, ap, subst, ◌∙◌, ℕ, nat_eq, true, false, List, [], ◌∷◌, Option, Some, None, Ok, filter, is_some, map, ◌||◌, IfOk}
use Rattle.vt_spec.proofs.Common.{Among, Call, Change, Done, FileTree, Filesystem, Fresh, Location, Overlay, Task, TaskName, ToChange, World, changed_at, common_steps, filesystem_at, filesystem_changed, finished_unless, granted, is_among, is_member_task, is_overlay, judge_in, mount_at, numbers_of_change, numbers_raised, part_of, policy, raised_task, settled, used_filesystems, with_change}
use Rattle.vt_spec.specs.Language.Changes
use Rattle.vt_laws_members.proofs.judging.Common.{IsLastingCall, caller_in, filesystem_alike, lasting, sealing_of, theirs_from, theirs_used}
use Rattle.vt_laws_members.proofs.Common.{AllInUse, all_in_use, filter-map, same_members, same_used, with_filesystems}
use Rattle.vt_laws_members.specs.Judging.{is_theirs}
use Rattle.vt_laws_members.specs.Changes.Changes.{ChmodsEndAlike, ChownsEndAlike, EndsAlike, OpaquesEndAlike, WritesEndAlike}
use Rattle.vt_laws_members.proofs.changes.files.Edits.{Edits, IsEdit, chmods_edit, chowns_edit, edits_keep, opaques_edit, writes_edit}
use Rattle.vt_laws_members.proofs.changes.files.FilesInUse.{in_use_changed, tree_changes}
use Rattle.vt_laws_members.proofs.changes.files.OneFilesystem.{old_used, one_in_part, one_in_world}
use Rattle.vt_laws_members.proofs.changes.files.FilesRaised.{both, left, left_so, part_left, swap}
use Rattle.vt_laws_members.proofs.changes.looks.Told.{ended_alike, ran, same_caller}
use Rattle.vt_laws_members.proofs.changes.part.PartAgain.{part_again}
use Rattle.vt_laws_members.proofs.changes.part.SettledPart.{part_in_use}
use Rattle.vt_laws_members.proofs.changes.tasks.Denied.{ran_there, run_by}
use Rattle.vt_laws_members.proofs.changes.tasks.Rights.{raised_is}

pub no_overlay : (o : Option (Overlay ℕ)) → is_some o ≡ false → o ≡ None
no_overlay None e = refl
no_overlay (Some overlay) e = cc

module _ {world : World ℕ} {names : List TaskName} {name : TaskName} {call : Call} {task : Task ℕ}
    (lasts : IsLastingCall world names name call task) (location : Location ℕ) (change : Change ℕ) (is : IsEdit change)
    (plain : is_overlay (filesystem_at nat_eq world location) ≡ false)
    (used : is_among nat_eq (mount_at nat_eq world location).filesystem (used_filesystems nat_eq world names) ≡ true)
    (alike : filesystem_at nat_eq world location ≡ filesystem_at nat_eq (part_of nat_eq world names) location) where
  abbrev part : World ℕ
  part = part_of nat_eq world names

  abbrev number : ℕ
  number = (mount_at nat_eq world location).filesystem

  abbrev old : Filesystem ℕ
  old = filesystem_at nat_eq world location

  abbrev files : FileTree ℕ
  files = Changes.changed nat_eq old.files change

  -- a run of the change
  changes_so : (w : World ℕ) (supply : Fresh ℕ) → filesystem_at nat_eq w location ≡ old
      → run_by lasts.it w supply task (Ok (ToChange location change))
      ≡ granted Done (numbers_raised nat_eq w name (old.number ∷ [])
      (settled nat_eq (with_filesystems w (swap old files))))
  changes_so w supply e = ap (λ b. finished_unless nat_eq (b || false) w name (changed_at nat_eq w location)
      (granted Done (with_change nat_eq supply w location change))) lasts.looks
      ∙ ap (λ f. granted Done (numbers_raised nat_eq w name (numbers_of_change nat_eq w f f.overlay)
      (settled nat_eq (filesystem_changed nat_eq supply w f f.overlay change)))) e
      ∙ ap (λ o. granted Done (numbers_raised nat_eq w name (numbers_of_change nat_eq w old o)
      (settled nat_eq (filesystem_changed nat_eq supply w old o change)))) (no_overlay old.overlay plain)

  in_use : (w : World ℕ) → AllInUse w
      → ((x : Filesystem ℕ) → Among x w.filesystems → nat_eq old.number x.number ≡ true → x ≡ old)
      → AllInUse (with_filesystems w (swap old files))
  in_use w all one = in_use_changed w all (swap old files)
      (tree_changes w files plain (edits_keep old.files change is).0 (edits_keep old.files change is).1
      (edits_keep old.files change is).2 one)

  abbrev raised_members : List (Task ℕ) → List (Task ℕ)
  raised_members tasks = filter (is_member_task names) (map (raised_task name) tasks)

  tasks_alike : raised_members world.tasks ≡ raised_members part.tasks
  tasks_alike = grind (arith, common_steps, same_members, filter-map, raised_is)

  abbrev left_here : World ℕ
  left_here = left old files world name

  abbrev left_there : World ℕ
  left_there = left old files part name

  parts_alike : part_of nat_eq left_here names ≡ part_of nat_eq left_there names
  parts_alike = part_left old files world name names (old_used world names lasts.is number used)
      (one_in_world world names lasts.is number used) ∙ (λ i. record (with_filesystems
      (sym (part_again world names lasts.is) i) (both old files)) { tasks = tasks_alike i }) ∙
      sym (part_left old files part name names (cc (same_used world names, old_used world names lasts.is number used))
      (one_in_part world names lasts.is number used))

  pub edit_ends : (fresh other : Fresh ℕ) → ran name call world fresh (Some task)
      ≡ run_by lasts.it world fresh task (Ok (ToChange location change))
      → ran name call part other (Some task)
      ≡ run_by lasts.it part other task (Ok (ToChange location change))
      → EndsAlike world names name call fresh other
  edit_ends fresh other one two =
      let first : policy nat_eq fresh world name call ≡ granted Done left_here = cc (
        lasts.found,
        changes_so world fresh refl,
        left_so old files world name
            (in_use world (all_in_use world lasts.is) (one_in_world world names lasts.is number used)),
      ) in
      let second : policy nat_eq other part name call ≡ granted Done left_there = cc (
        same_caller (sealing_of lasts.it) name lasts.theirs,
        lasts.found,
        changes_so part other (sym alike),
        left_so old
            files part name (in_use part (part_in_use (sealing_of lasts.it))
            (one_in_part world names lasts.is number used)),
      )
      in
      ended_alike names name call first second (rw lasts.stays (record { answer = refl; part = parts_alike }))

-- A call whose walk leads to what it edits
module _ {world : World ℕ} {names : List TaskName} {name : TaskName} {call : Call} {task : Task ℕ}
    (lasts : IsLastingCall world names name call task) (fresh other : Fresh ℕ) {location : Location ℕ}
    {change : Change ℕ} (granted_so : judge_in nat_eq fresh world task call ≡ Ok (ToChange location change))
    (plain : is_overlay (filesystem_at nat_eq world location) ≡ false)
    (edits : IfOk (judge_in nat_eq fresh world task call) (Edits (is_theirs world names))) where
  edit : (is_theirs world names location.mount ≡ true) × IsEdit change
  edit = subst (λ j. IfOk j (Edits (is_theirs world names))) granted_so edits

  pub walked_edit_ends : EndsAlike world names name call fresh other
  walked_edit_ends =
      let ground = theirs_from world names lasts.is.mounts location.mount edit.0 in
      edit_ends lasts location change edit.1 plain (theirs_used world names lasts.is location ground)
      (filesystem_alike world names lasts.is location ground) fresh other (cc)
      (ran_there lasts.it fresh other task lasts.found granted_so)

pub writes_end_alike : WritesEndAlike
writes_end_alike world names name path bytes it task found fresh other location change granted_so plain =
    walked_edit_ends (lasting it found refl refl) fresh other granted_so plain
    (writes_edit (caller_in it found) _ path bytes)

pub chmods_end_alike : ChmodsEndAlike
chmods_end_alike world names name path mode it task found fresh other location change granted_so plain =
    walked_edit_ends (lasting it found refl refl) fresh other granted_so plain
    (chmods_edit (caller_in it found) _ path mode)

pub chowns_end_alike : ChownsEndAlike
chowns_end_alike world names name path uid gid it task found fresh other location change granted_so plain =
    walked_edit_ends (lasting it found refl refl) fresh other granted_so plain
    (chowns_edit (caller_in it found) _ path uid gid)

pub opaques_end_alike : OpaquesEndAlike
opaques_end_alike world names name path mark it task found fresh other location change granted_so plain =
    walked_edit_ends (lasting it found refl refl) fresh other granted_so plain
    (opaques_edit (caller_in it found) _ path mark)
