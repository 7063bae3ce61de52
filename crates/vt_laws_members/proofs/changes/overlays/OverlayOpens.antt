-- An open of theirs that copies the file up ends in the part as in the world.
use Rattle.std.proofs.Common.{inl, inr, ◌≡◌, refl, sym, ap, subst, ◌∙◌, ℕ, nat_eq, Bool, true, false, true≢false, List, Option, Some, None, Ok, is_some, not, ◌&&◌, IfOk}
use Rattle.vt_spec.proofs.Common.{Access, Among, Call, CopyUp, Creation, Filesystem, Fresh, Layer, Location, OpenFile, Opened, Outcome, Overlay, Permit, Task, TaskName, ToOpen, World, and_parts, changed_at, changed_if, filesystem_at, finished, free_number, granted, has_no_upper, is_copied_up, judge_in, lies_only_in_lowers, looks_of, mount_at, numbers_raised, opened, opens_for_writing, overfills, overlay_or, part_of, settled, task_called, used_directly, with_change, with_copy, with_descriptor, with_task}
use Rattle.vt_laws_members.proofs.judging.Common.{IsTheirs, caller_in, filesystem_alike, sealing_of, theirs_directly, theirs_from}
use Rattle.vt_laws_members.proofs.Common.{cases_Option, CanChange, IsGranted, all_in_use, calls_are_granted, change_asked, name_found, opens, opens_existing, permits_can_change, same_used, with_filesystems}
use Rattle.vt_laws_members.specs.Judging.{is_theirs}
use Rattle.vt_laws_members.specs.Changes.Changes.{EndsAlike, IsCallOfTheirs}
use Rattle.vt_laws_members.specs.Changes.OverlayEdits.{OverlayOpensEndAlike}
use Rattle.vt_laws_members.proofs.changes.files.StepsInUse.{in_use_stepped}
use Rattle.vt_laws_members.proofs.changes.Common.{OverlayChange, both_numbers, changes_in_part, changes_in_world, kept_on, numbers_in_part, numbers_in_world, ones_in_part, ones_in_world, part_in_use, part_moved, ran_there, run_by, step, stepped_in_part, stepped_in_world}
use Rattle.vt_laws_members.proofs.changes.tasks.OpenedFiles.{opened_ends, opened_with}
use Rattle.vt_laws_members.proofs.changes.tasks.Opening.{OpensOn, opens_theirs}

-- F2: what is opened for writing through an overlay has an upper layer
writes_above : (world : World ℕ) (fresh : Fresh ℕ) (task : Task ℕ) (asked : Call) (permit : Permit ℕ)
    → IsGranted nat_eq (looks_of nat_eq world) (overfills nat_eq fresh world task) task asked permit
    → (file : Location ℕ) (wanted : Access) → permit ≡ ToOpen file wanted
    → (opens_for_writing wanted && has_no_upper (looks_of nat_eq world) file) ≡ false
writes_above world fresh task asked permit (opens path access here few walk passed) file wanted e =
    let same : here.location ≡ file = cc in
    let kind : access ≡ wanted = cc in
    (λ i. opens_for_writing (sym kind i) && has_no_upper (looks_of nat_eq world) (sym same i)) ∙ passed.1.1.1.0
writes_above world fresh task asked permit
    (opens_existing path access mode place own_file few walk named is_there passed) file wanted e =
    let same : own_file ≡ file = cc in
    let kind : access ≡ wanted = cc in
    (λ i. opens_for_writing (sym kind i) && has_no_upper (looks_of nat_eq world) (sym same i)) ∙ passed.1.1.1.0
writes_above world fresh task asked permit other_way file wanted e = absurd cc

module _ {world : World ℕ} {names : List TaskName} {name : TaskName} {path : List ℕ} {access : Access} {how : Creation}
    (it : IsCallOfTheirs world names name (OpenFile path access how)) {task : Task ℕ}
    (called : task_called world name ≡ Some task) {fresh : Fresh ℕ} {file : Location ℕ} {wanted : Access}
    (ground : IsTheirs world names it.is.mounts file.mount) (copied : is_copied_up nat_eq world file wanted ≡ true)
    (given : judge_in nat_eq fresh world task (OpenFile path access how) ≡ Ok (ToOpen file wanted))
    {overlay : Overlay ℕ} {upper : Layer ℕ} (can : CanChange fresh world file (CopyUp file.node) overlay upper) where
  abbrev part : World ℕ
  part = part_of nat_eq world names

  abbrev call : Call
  call = OpenFile path access how

  direct : Among (mount_at nat_eq world file).filesystem (used_directly nat_eq world names)
  direct = theirs_directly world names it.is file ground

  alike : filesystem_at nat_eq world file ≡ filesystem_at nat_eq part file
  alike = filesystem_alike world names it.is file ground

  abbrev through : OverlayChange world names
  through = record {
    is = it.is;
    supply = fresh;
    location = file;
    change = CopyUp file.node;
    overlay = overlay;
    upper = upper;
    can = can;
    direct = direct;
    alike = alike;
  }

  abbrev moved : Filesystem ℕ → Filesystem ℕ
  moved = step through

  abbrev numbers : List ℕ
  numbers = both_numbers through

  -- the copy is made, and the file opened
  run_opened : (w : World ℕ) → is_copied_up nat_eq w file wanted ≡ true
      → with_change nat_eq fresh w file (CopyUp file.node) ≡ with_filesystems w moved
      → changed_at nat_eq w file ≡ numbers
      → run_by it w fresh task (Ok (ToOpen file wanted))
      ≡ opened_with w name moved numbers task file wanted
  run_opened w copies made listed = ap by copies
      ∙ ap (λ l. granted (Opened (free_number task)) (numbers_raised nat_eq w name l (settled nat_eq
      (with_task (with_change nat_eq fresh w file (CopyUp file.node)) (with_descriptor task file wanted))))) listed
      ∙ ap (λ v. granted (Opened (free_number task)) (numbers_raised nat_eq w name numbers (settled nat_eq
      (with_task v (with_descriptor task file wanted))))) made
    where
      by : Bool → Outcome ℕ
      by b = finished nat_eq w name call (changed_if nat_eq b w file)
          (opened (with_copy nat_eq b fresh w file) task file wanted)

  copied_in_part : is_copied_up nat_eq part file wanted ≡ true
  copied_in_part = cc alike

  pub open_through_ends : EndsAlike world names name call fresh fresh
  open_through_ends = opened_ends it fresh called file ground wanted moved numbers
      (record {
        in_use = in_use_stepped world (all_in_use world it.is) moved
            (changes_in_world through tt);
        part_moved = part_moved through world (ones_in_world through)
            (kept_on through);
      }) (record {
        in_use = in_use_stepped part (part_in_use (sealing_of it)) moved
            (changes_in_part through tt);
        part_moved = part_moved through part (ones_in_part through) (λ x e. kept_on through x
            (cc (same_used world names)));
      }) (cc (run_opened world copied (stepped_in_world through) (numbers_in_world through)))
      (ran_there it fresh fresh task called given ∙ run_opened part copied_in_part (stepped_in_part through tt)
      (numbers_in_part through))

pub overlay_opens_end_alike : OverlayOpensEndAlike
overlay_opens_end_alike world names name path access how it task called fresh serves file wanted given copied =
    elim (cases_Option (filesystem_at nat_eq world file).overlay) [
      | inl none ↦ absurd (true≢false (sym parts.1
          ∙ ap (overlay_or false (λ overlay. lies_only_in_lowers overlay file.node)) none))
      | inr its ↦ layered its.0 its.1 its.0.upper refl
    ]
  where
    call : Call
    call = OpenFile path access how

    itself : task_called world task.name ≡ Some task
    itself = cc (name_found world name task called)

    parts : (opens_for_writing wanted ≡ true)
        × (overlay_or false (λ overlay. lies_only_in_lowers overlay file.node) (filesystem_at nat_eq world file).overlay
        ≡ true)
    parts = and_parts (opens_for_writing wanted) _ copied

    above : (opens_for_writing wanted && has_no_upper (looks_of nat_eq world) file) ≡ false
    above = writes_above world fresh task call (ToOpen file wanted)
        (calls_are_granted nat_eq (looks_of nat_eq world) (overfills nat_eq fresh world task) task call
        (ToOpen file wanted) given) file wanted refl

    ground : IsTheirs world names it.is.mounts file.mount
    ground = theirs_from world names it.is.mounts file.mount
        (subst (λ j. IfOk j (OpensOn (is_theirs world names))) given (opens_theirs (caller_in it called) _ path
        access how))

    asks : change_asked fresh world (ToOpen file wanted) ≡ Some (file, CopyUp file.node)
    asks = cc

    layered : (overlay : Overlay ℕ) → (filesystem_at nat_eq world file).overlay ≡ Some overlay → (o : Option (Layer ℕ))
        → overlay.upper ≡ o → EndsAlike world names name call fresh fresh
    layered overlay overlaid None none = absurd (true≢false
        (sym ((λ i. parts.0 i && overlay_or false (λ (v : Overlay ℕ). not (is_some v.upper)) (overlaid i))
        ∙ ap (λ o. not (is_some o)) none) ∙ above))
    layered overlay overlaid (Some upper) has =
        open_through_ends it called ground copied given
        (permits_can_change world fresh task call (ToOpen file wanted) file (CopyUp file.node) overlay upper it.is
        serves itself given asks overlaid has)
