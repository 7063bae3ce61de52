-- Files that others change, make and write to: chmod(2), mkdir(2), link(2), unlink(2), open(2), write(2), pwrite(2).
use Rattle.std.proofs.Common.{arith, ◌≡◌, refl, sym, ap, subst, ◌∙◌, ℕ, nat_eq, Bool, true, false, List, [], ◌∷◌, Some, Ok}
use Rattle.vt_spec.proofs.Common.{Access, Call, Change, CopyUp, Fresh, Location, Make, MountInvariants, Node, Outcome, OverlayInvariants, Permit, SetBytes, Task, TaskName, ToChange, ToMake, ToOpen, ToOpenNew, ToWritePart, TreeInvariants, World, after, apply, bytes_in, call_outcome, changed_at, changed_if, common_steps, evens, filesystems_changed, is_copied_up, judge_in, looks_of, node_at, none_is_some, odds, overfills, overwritten, settled, task_called, when, with_change, with_copy, with_descriptor, with_task}
use Rattle.vt_laws_sealed.proofs.Common.{IsGranted, OneNumberEach, call_is_judged_then_applied, calls_are_granted, change_asked, mounts_overlay, mounts_overlayfs, name_found, overlays_kept, permits_make_their_change, the_rest_stays, under}
use Rattle.vt_laws_sealed.proofs.outsiders.OthersCalls.{IsOthersCall, apart_from}
use Rattle.vt_laws_sealed.proofs.outsiders.ChangesGround.{granted_theirs}
use Rattle.vt_laws_sealed.proofs.outsiders.FilesOfCalls.{changed_files_leave}
use Rattle.vt_laws_sealed.proofs.outsiders.Opening.{descriptor_leaves, open_outside}
use Rattle.vt_laws_sealed.proofs.outsiders.Refusals.{leaves_apart_itself}
use Rattle.vt_laws_sealed.proofs.outsiders.Staying.{LeavesApart}
use Rattle.vt_laws_sealed.proofs.outsiders.Sweeping.{sweep_leaves_apart, sweeping_leaves_apart}

-- a call that is granted a change mounts no overlay
pub changes_mount_no_overlay : (world : World ℕ) (fresh : Fresh ℕ) (task : Task ℕ) (asked : Call) (permit : Permit ℕ)
    → IsGranted nat_eq (looks_of nat_eq world) (overfills nat_eq fresh world task) task asked permit
    → (made : Location ℕ × Change ℕ) → change_asked fresh world permit ≡ Some made → mounts_overlay asked ≡ false
changes_mount_no_overlay world fresh task asked permit
    (mounts_overlayfs path words flags here layers admin end walked layered passed) made e = none_is_some made e
changes_mount_no_overlay world fresh task asked permit granted made e = refl

module _ {world : World ℕ} {fresh : Fresh ℕ} {names : List TaskName} {name : TaskName} {call : Call}
    {task : Task ℕ} (outsider : IsOthersCall world fresh names name call task) (permit : Permit ℕ)
    (judged : judge_in nat_eq fresh world task call ≡ Ok permit) where
  granted : IsGranted nat_eq (looks_of nat_eq world) (overfills nat_eq fresh world task) task call permit
  granted = calls_are_granted nat_eq (looks_of nat_eq world) (overfills nat_eq fresh world task) task call permit judged

  -- The sweep after a call that mounts no overlay
  pub call_swept : mounts_overlay call ≡ false → (changed : List ℕ)
      → LeavesApart world (apply nat_eq fresh world task permit).world names changed
      → LeavesApart world (settled nat_eq (apply nat_eq fresh world task permit).world) names changed
  call_swept other changed leaves =
      let itself = ap (task_called world) (sym (name_found world name task outsider.called)) ∙ outsider.called in
      let left : (call_outcome nat_eq fresh world task call).world ≡ (apply nat_eq fresh world task permit).world =
      ap (λ (o : Outcome ℕ). o.world) (call_is_judged_then_applied fresh world task call
      ∙ ap (λ j. after world j (apply nat_eq fresh world task)) judged) in
      let way = under call outsider.is outsider.serves itself other outsider.few_groups judged
      in sweep_leaves_apart
      (apart_from outsider.it) outsider.sealed_off (subst (TreeInvariants nat_eq) left way.files)
      (subst (OverlayInvariants nat_eq) left (overlays_kept call outsider.is outsider.serves
      itself other outsider.few_groups judged)) (subst (MountInvariants nat_eq) left way.mounts).one_number
      leaves

  -- A change, where others were moved before in a world of the same filesystems
  pub change_leaves : (location : Location ℕ) (change : Change ℕ)
      → change_asked fresh world permit ≡ Some (location, change) → (base : World ℕ)
      → base.filesystems ≡ world.filesystems → (apply nat_eq fresh world task permit).world
      ≡ record base { filesystems = (apply nat_eq fresh world task permit).world.filesystems }
      → filesystems_changed nat_eq world permit ≡ changed_at nat_eq world location → LeavesApart world base names []
      → LeavesApart world (settled nat_eq (apply nat_eq fresh world task permit).world) names
      (filesystems_changed nat_eq world permit)
  change_leaves location change asks base same left raised leaves =
      call_swept (changes_mount_no_overlay world fresh task call permit granted (location, change) asks)
      (filesystems_changed nat_eq world permit)
      (subst (LeavesApart world (apply nat_eq fresh world task permit).world names) (sym raised)
      (changed_files_leave outsider judged asks base (apply nat_eq fresh world task permit).world
      same (cc (permits_make_their_change world fresh task permit location change asks)) leaves))

  -- where the world stays but for its filesystems
  pub change_alone : (location : Location ℕ) (change : Change ℕ)
      → change_asked fresh world permit ≡ Some (location, change) → (apply nat_eq fresh world task permit).world
      ≡ record world { filesystems = (apply nat_eq fresh world task permit).world.filesystems }
      → filesystems_changed nat_eq world permit ≡ changed_at nat_eq world location
      → LeavesApart world (settled nat_eq (apply nat_eq fresh world task permit).world) names
      (filesystems_changed nat_eq world permit)
  change_alone location change asks left raised = change_leaves location change asks world refl left raised
      (leaves_apart_itself outsider.it)

-- A descriptor on a file of others
module _ {world : World ℕ} {fresh : Fresh ℕ} {names : List TaskName} {name : TaskName} {call : Call}
    {task : Task ℕ} (outsider : IsOthersCall world fresh names name call task) where
  -- the world before the change
  abbrev with_open : Location ℕ → Access → World ℕ
  with_open file access = with_task world (with_descriptor task file access)

  -- what is left beside filesystems
  opened_beside : (changed : World ℕ) → changed ≡ record world { filesystems = changed.filesystems }
      → (file : Location ℕ) (access : Access) → with_task changed (with_descriptor task file access)
      ≡ record (with_open file access) { filesystems = changed.filesystems }
  opened_beside changed same file access = ap (λ w. with_task w (with_descriptor task file access)) same

  pub open_leaves : (file : Location ℕ) (access : Access)
      → judge_in nat_eq fresh world task call ≡ Ok (ToOpen file access)
      → LeavesApart world (settled nat_eq (apply nat_eq fresh world task (ToOpen file access)).world) names
      (filesystems_changed nat_eq world (ToOpen file access))
  open_leaves file access judged = by (is_copied_up nat_eq world file access) refl
    where
      leaves : LeavesApart world (with_open file access) names []
      leaves = descriptor_leaves outsider file access
          (open_outside outsider file access judged)

      left : World ℕ
      left = (apply nat_eq fresh world task (ToOpen file access)).world

      beside : left ≡ record (with_open file access) { filesystems = left.filesystems }
      beside = grind (arith, common_steps, opened_beside, the_rest_stays)

      by : (b : Bool) → is_copied_up nat_eq world file access ≡ b
          → LeavesApart world (settled nat_eq left) names (filesystems_changed nat_eq world (ToOpen file access))
      by true e = change_leaves outsider (ToOpen file access) judged file
          (CopyUp file.node) (ap (λ b. when b (file, CopyUp file.node)) e) (with_open file access) refl beside
          (ap (λ b. changed_if nat_eq b world file) e) leaves
      by false e = subst (LeavesApart world (settled nat_eq left) names)
          (sym (ap (λ b. changed_if nat_eq b world file) e)) (sweeping_leaves_apart world left names
          (apart_from outsider.it) outsider.sealed_off (ap (λ b. (with_copy nat_eq b fresh world file).filesystems) e)
          (subst OneNumberEach (sym not_copied) outsider.is.mounts.one_number) []
          (subst (λ w. LeavesApart world w names []) (sym not_copied) leaves))
        where
          not_copied : left ≡ with_open file access
          not_copied = ap (λ b. with_task (with_copy nat_eq b fresh world file) (with_descriptor task file access)) e

  pub new_leaves : (directory : Location ℕ) (new_name : List ℕ) (node : Node ℕ) (access : Access)
      → judge_in nat_eq fresh world task call ≡ Ok (ToOpenNew directory new_name node access)
      → LeavesApart world (settled nat_eq (apply nat_eq fresh world task
      (ToOpenNew directory new_name node access)).world) names (changed_at nat_eq world directory)
  new_leaves directory new_name node access judged =
      let file : Location ℕ = record { mount = directory.mount; node = evens fresh 0 } in
      let permit = ToOpenNew directory new_name node access in
      let theirs = granted_theirs outsider call permit
      (calls_are_granted nat_eq (looks_of nat_eq world) (overfills nat_eq fresh world task) task call permit judged)
      (directory, Make directory.node new_name (evens fresh 0) node) refl in
      change_leaves outsider permit judged directory (Make directory.node new_name (evens fresh 0) node) refl
      (with_open file access) refl (opened_beside (with_change nat_eq (odds fresh) world directory
      (Make directory.node new_name (evens fresh 0) node)) (the_rest_stays (odds fresh) world directory
      (Make directory.node new_name (evens fresh 0) node)) file access) refl
      (descriptor_leaves outsider file access theirs.0)

  -- A change of attributes and bytes, a new name, and a write
  pub attributes_leave : (location : Location ℕ) (change : Change ℕ)
      → judge_in nat_eq fresh world task call ≡ Ok (ToChange location change)
      → LeavesApart world (settled nat_eq (apply nat_eq fresh world task (ToChange location change)).world) names
      (filesystems_changed nat_eq world (ToChange location change))
  attributes_leave location change judged =
      change_alone outsider (ToChange location change) judged location change refl
      (the_rest_stays fresh world location change) refl

  pub making_leaves : (directory : Location ℕ) (new_name : List ℕ) (node : Node ℕ)
      → judge_in nat_eq fresh world task call ≡ Ok (ToMake directory new_name node)
      → LeavesApart world (settled nat_eq (apply nat_eq fresh world task (ToMake directory new_name node)).world) names
      (filesystems_changed nat_eq world (ToMake directory new_name node))
  making_leaves directory new_name node judged =
      change_alone outsider (ToMake directory new_name node) judged directory
      (Make directory.node new_name (evens fresh 0) node) refl (the_rest_stays (odds fresh) world directory
      (Make directory.node new_name (evens fresh 0) node)) refl

  pub writing_leaves : (file : Location ℕ) (offset : ℕ) (bytes : List ℕ)
      → judge_in nat_eq fresh world task call ≡ Ok (ToWritePart file offset bytes)
      → LeavesApart world (settled nat_eq (apply nat_eq fresh world task (ToWritePart file offset bytes)).world) names
      (filesystems_changed nat_eq world (ToWritePart file offset bytes))
  writing_leaves file offset [] judged =
      subst (λ w. LeavesApart world w names []) (sym outsider.is.nothing_unused) (leaves_apart_itself outsider.it)
  writing_leaves file offset (byte ∷ bytes) judged =
      change_alone outsider (ToWritePart file offset (byte ∷ bytes)) judged file
      (SetBytes file.node (overwritten offset (byte ∷ bytes) (bytes_in (node_at nat_eq world file)))) refl
      (the_rest_stays fresh world file (SetBytes file.node (overwritten offset (byte ∷ bytes)
      (bytes_in (node_at nat_eq world file))))) refl
