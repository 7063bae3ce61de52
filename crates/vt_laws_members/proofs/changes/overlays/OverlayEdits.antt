-- Calls of theirs that edit a file through an overlay: write(2), chmod(2), chown(2), pwrite(2).
use Rattle.std.proofs.Common.{inl, inr, arith, ◌≡◌, refl, sym, ap, subst, ◌∙◌, ℕ, nat_eq, true, false, true≢false, List, ◌∷◌, Option, Some, None, Ok, is_some, IfOk}
use Rattle.vt_spec.proofs.Common.{AddName, Among, Call, Change, CopyUp, Done, Filesystem, Fresh, Layer, Location, Make, Move, Overlay, Pwrite, Remove, Serves, SetAttr, SetBytes, SetMark, Task, TaskName, ToChange, ToWritePart, World, among-append_right, among-map, bytes_in, changed_at, common_steps, filesystem_at, filesystem_numbered, finished, granted, is_overlay, judge_in, locations, members, mount_at, node_at, only_looks, overwritten, part_of, task_called, used_directly, with_change}
use Rattle.vt_laws_members.proofs.judging.Common.{IsLastingCall, IsTheirs, caller_in, filesystem_alike, lasting, located_used, sealing_of, theirs_directly, theirs_from}
use Rattle.vt_laws_members.proofs.Common.{cases_Option, AsksWell, CanChange, found, located, name_found, permits_ask_well, permits_can_change}
use Rattle.vt_laws_members.specs.Judging.{is_theirs}
use Rattle.vt_laws_members.specs.Changes.Changes.{EndsAlike}
use Rattle.vt_laws_members.specs.Changes.OverlayEdits.{OverlayChmodsEndAlike, OverlayChownsEndAlike, OverlayPartWritesEndAlike, OverlayWritesEndAlike}
use Rattle.vt_laws_members.proofs.changes.files.Edits.{Edits, IsEdit, chmods_edit, chowns_edit, writes_edit}
use Rattle.vt_laws_members.proofs.changes.files.PartWritten.{Writes, writes_theirs}
use Rattle.vt_laws_members.proofs.changes.looks.Told.{open_file, ran}
use Rattle.vt_laws_members.proofs.changes.overlays.CopiesEnding.{copy_ends}
use Rattle.vt_laws_members.proofs.changes.overlays.Copying.{Copies}
use Rattle.vt_laws_members.proofs.changes.tasks.Denied.{ran_there, run_by}
use Rattle.vt_laws_members.proofs.changes.tasks.Ending.{with_tasks}
use Rattle.vt_laws_members.proofs.changes.tasks.Rights.{idle_end_alike}

-- without an upper layer nothing is changed
pub unwritten_run : (w : World ℕ) (name : TaskName) (call : Call) (supply : Fresh ℕ) (location : Location ℕ)
    (change : Change ℕ) (merged : Filesystem ℕ) (overlay : Overlay ℕ) → only_looks call ≡ false
    → filesystem_at nat_eq w location ≡ merged → merged.overlay ≡ Some overlay → overlay.upper ≡ None
    → finished nat_eq w name call (changed_at nat_eq w location)
    (granted Done (with_change nat_eq supply w location change)) ≡ with_tasks w name Done w.tasks
unwritten_run w name call supply location change merged overlay looks same overlaid none = grind (arith, common_steps)

-- With one the file is copied up.
module _ {world : World ℕ} {names : List TaskName} {name : TaskName} {call : Call} {task : Task ℕ}
    (lasts : IsLastingCall world names name call task) (fresh : Fresh ℕ) {location : Location ℕ} {change : Change ℕ}
    (copies : Copies change)
    (direct : Among (mount_at nat_eq world location).filesystem (used_directly nat_eq world names))
    (alike : filesystem_at nat_eq world location ≡ filesystem_at nat_eq (part_of nat_eq world names) location)
    (is : is_overlay (filesystem_at nat_eq world location) ≡ true) (can : (overlay : Overlay ℕ) (upper : Layer ℕ)
    → (filesystem_at nat_eq world location).overlay ≡ Some overlay → overlay.upper ≡ Some upper
    → CanChange fresh world location change overlay upper) where
  abbrev part : World ℕ
  part = part_of nat_eq world names

  abbrev merged : Filesystem ℕ
  merged = filesystem_at nat_eq world location

  pub through_ends : ran name call world fresh (Some task)
      ≡ finished nat_eq world name call (changed_at nat_eq world location)
      (granted Done (with_change nat_eq fresh world location change)) → ran name call part fresh (Some task)
      ≡ finished nat_eq part name call (changed_at nat_eq part location)
      (granted Done (with_change nat_eq fresh part location change)) → EndsAlike world names name call fresh fresh
  through_ends one two = elim (cases_Option merged.overlay) [
    | inl none ↦ absurd (true≢false (sym is ∙ ap is_some none))
    | inr its ↦ layered its.0 its.1 its.0.upper refl
  ]
    where
      layered : (overlay : Overlay ℕ) → merged.overlay ≡ Some overlay → (o : Option (Layer ℕ)) → overlay.upper ≡ o
          → EndsAlike world names name call fresh fresh
      layered overlay overlaid None none =
          idle_end_alike world names name call lasts.it task lasts.found fresh fresh Done lasts.stays
          (one ∙ unwritten_run world name call fresh location change merged overlay lasts.looks refl overlaid none)
          (two ∙ unwritten_run part name call fresh location change merged overlay lasts.looks
          (sym alike) overlaid none)
      layered overlay overlaid (Some upper) has =
          copy_ends lasts (record {
            is = lasts.is;
            supply = fresh;
            location = location;
            change = change;
            overlay = overlay;
            upper = upper;
            can = can overlay upper overlaid has;
            direct = direct;
            alike = alike;
          }) copies one two

-- an edit that may be made through an overlay sets no mark
edits_copy : (world : World ℕ) (location : Location ℕ) (change : Change ℕ) → IsEdit change
    → is_overlay (filesystem_at nat_eq world location) ≡ true → AsksWell world location change → Copies change
edits_copy world location (SetBytes file bytes) edit is asked = tt
edits_copy world location (SetAttr object attr) edit is asked = tt
edits_copy world location (SetMark directory opaque) edit is asked = cc
edits_copy world location (CopyUp object) none is asked = absurd none
edits_copy world location (Make directory name number node) none is asked = absurd none
edits_copy world location (AddName directory name object) none is asked = absurd none
edits_copy world location (Remove directory name object) none is asked = absurd none
edits_copy world location (Move from old to new object) none is asked = absurd none

-- A call whose walk leads to what it edits
module _ {world : World ℕ} {names : List TaskName} {name : TaskName} {call : Call} {task : Task ℕ}
    (lasts : IsLastingCall world names name call task) {fresh : Fresh ℕ} (serves : Serves nat_eq world fresh)
    {location : Location ℕ} {change : Change ℕ}
    (judged : judge_in nat_eq fresh world task call ≡ Ok (ToChange location change))
    (is : is_overlay (filesystem_at nat_eq world location) ≡ true)
    (edits : IfOk (judge_in nat_eq fresh world task call) (Edits (is_theirs world names))) where
  edit : (is_theirs world names location.mount ≡ true) × IsEdit change
  edit = subst (λ j. IfOk j (Edits (is_theirs world names))) judged edits

  ground : IsTheirs world names lasts.is.mounts location.mount
  ground = theirs_from world names lasts.is.mounts location.mount edit.0

  itself : task_called world task.name ≡ Some task
  itself = cc (name_found world name task lasts.found, lasts.found)

  pub walked_copy_ends : EndsAlike world names name call fresh fresh
  walked_copy_ends = through_ends lasts fresh
      (edits_copy world location change edit.1 is (permits_ask_well world fresh task call (ToChange location change)
      lasts.is serves itself judged).0) (theirs_directly world names lasts.is location ground)
      (filesystem_alike world names lasts.is location ground) is
      (λ overlay upper overlaid has. permits_can_change world fresh task call (ToChange location change) location change
      overlay upper lasts.is serves itself judged refl overlaid has) (ap (run_by lasts.it world fresh task) judged)
      (ran_there lasts.it fresh fresh task lasts.found judged)

pub overlay_writes_end_alike : OverlayWritesEndAlike
overlay_writes_end_alike world names name path bytes it task called fresh serves location change judged is =
    walked_copy_ends (lasting it called refl refl) serves judged is
    (writes_edit (caller_in it called) _ path bytes)

pub overlay_chmods_end_alike : OverlayChmodsEndAlike
overlay_chmods_end_alike world names name path mode it task called fresh serves location change judged is =
    walked_copy_ends (lasting it called refl refl) serves judged is
    (chmods_edit (caller_in it called) _ path mode)

pub overlay_chowns_end_alike : OverlayChownsEndAlike
overlay_chowns_end_alike world names name path uid gid it task called fresh serves location change judged is =
    walked_copy_ends (lasting it called refl refl) serves judged is
    (chowns_edit (caller_in it called) _ path uid gid)

pub overlay_part_writes_end_alike : OverlayPartWritesEndAlike
overlay_part_writes_end_alike world names name descriptor offset byte bytes it task called fresh serves file at written
    granted_so is = through_ends (lasting it called refl refl) fresh tt direct alike is
    (λ overlay upper overlaid has. permits_can_change world fresh task call (ToWritePart file at (byte ∷ bytes)) file
    (SetBytes file.node (overwritten at (byte ∷ bytes) (bytes_in (node_at nat_eq world file)))) overlay upper it.is
    serves itself judged refl overlaid has) (ap (run_by it world fresh task) judged)
    (ran_there it fresh fresh task called judged ∙ ap (λ node. run_by it part fresh task
    (Ok (ToChange file (SetBytes file.node (overwritten at (byte ∷ bytes) (bytes_in node))))))
    (sym (open_file (sealing_of it) file theirs.0)))
  where
    call : Call
    call = Pwrite descriptor offset (byte ∷ bytes)

    part : World ℕ
    part = part_of nat_eq world names

    theirs : Among file (locations (members world names)) × (written ≡ byte ∷ bytes)
    theirs = subst (λ j. IfOk j (Writes (locations (members world names)) (byte ∷ bytes))) granted_so
        (writes_theirs (caller_in it called) (byte ∷ bytes) _ descriptor offset)

    judged : judge_in nat_eq fresh world task call ≡ Ok (ToWritePart file at (byte ∷ bytes))
    judged = granted_so ∙ ap (λ w. Ok (ToWritePart file at w)) theirs.1

    itself : task_called world task.name ≡ Some task
    itself = ap (task_called world) (sym (name_found world name task called)) ∙ called

    direct : Among (mount_at nat_eq world file).filesystem (used_directly nat_eq world names)
    direct = grind (arith, common_steps, among-append_right, among-map, theirs)

    alike : filesystem_at nat_eq world file ≡ filesystem_at nat_eq part file
    alike =
        sym (found world names (mount_at nat_eq world file).filesystem (located_used world names it.is file theirs.0))
        ∙ ap (filesystem_numbered nat_eq part) (sym (located world names file theirs.0))
