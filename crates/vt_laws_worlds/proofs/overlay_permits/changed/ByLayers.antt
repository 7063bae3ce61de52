-- What a granted call makes of the upper layer of the overlay that it changes, by layers alone.
use Rattle.std.proofs.Common.{ap, ◌∙◌, subst, ℕ, nat_eq, [], ◌∷◌, Option, Some, None, arith}
use Rattle.vt_spec.proofs.Common.{Change, Fresh, Location, Permit, ToChange, ToMake, ToOpen, ToOpenNew, ToRemoveDirectory, ToRename, ToWritePart, World, filesystem_at, filesystem_numbered, merge_of, mount_at, stack_of, ⊤, common_steps}
use Rattle.vt_laws_trees.proofs.overlays.changes.WholeWorlds.{overlays_are_whole}
use Rattle.vt_laws_worlds.specs.Merging.UpperCalls.{Does}
use Rattle.vt_laws_worlds.specs.Merging.UpperCalls.Does.{does_change, does_make, does_open, does_open_new, does_remove, does_rename, does_write}
use Rattle.vt_laws_worlds.specs.Merging.UpperChanges.{AreNew, seen_below}
use Rattle.vt_laws_worlds.proofs.merging.upper.BelowWhole.{below_ends, below_stays}
use Rattle.vt_laws_worlds.proofs.merging.upper.Asked.{asked_changes_have_places}
use Rattle.vt_laws_worlds.proofs.merging.upper.Worlds.{upper_layers_after_whole_calls}
use Rattle.vt_laws_worlds.specs.OverlayPermits.Asked.{change_asked}
use Rattle.vt_laws_worlds.specs.OverlayPermits.Changed.{GrantedCallsAreByLayers, GrantedCallsLeaveBelow, numbers_left}
use Rattle.vt_laws_worlds.proofs.overlay_permits.asked.AskedOverlays.{permits_ask_overlays_well}
use Rattle.vt_laws_worlds.proofs.overlay_permits.changed.ChangedOverlays.{are_left}

-- a permit makes the change that it asks for, by the numbers that are left for it
abbrev DoesIf : World ℕ → Fresh ℕ → Permit ℕ → Option (Location ℕ × Change ℕ) → Type 0
DoesIf world fresh permit None = ⊤
DoesIf world fresh permit (Some made) = Does fresh world permit made.0 (numbers_left fresh permit) made.1

does : (world : World ℕ) (fresh : Fresh ℕ) (permit : Permit ℕ)
    → DoesIf world fresh permit (change_asked fresh world permit)
does world fresh (ToChange location change) = does_change location change
does world fresh (ToMake directory name node) = does_make directory name node
does world fresh (ToRemoveDirectory parent name directory) = does_remove parent name directory
does world fresh (ToRename from old to new object replaced) = does_rename from old to new object replaced
does world fresh (ToOpen file access) = grind (arith, common_steps, does_open)
does world fresh (ToOpenNew directory name node access) = does_open_new directory name node access
does world fresh (ToWritePart file offset []) = tt
does world fresh (ToWritePart file offset (byte ∷ bytes)) = does_write file offset byte bytes
does world fresh permit = tt

pub granted_calls_are_by_layers : GrantedCallsAreByLayers
granted_calls_are_by_layers world fresh task call permit location change overlay upper conditions serves called judged
    asks is has =
    let numbers = numbers_left fresh permit in
    let left = are_left world fresh conditions serves permit in
    let place = asked_changes_have_places (stack_of nat_eq world overlay upper)
    (merge_of nat_eq world (filesystem_at nat_eq world location) overlay upper) change
    (overlays_are_whole world (mount_at nat_eq world location).filesystem overlay upper conditions is has)
    (permits_ask_overlays_well world fresh task call permit location change overlay upper conditions serves called
    judged asks is has) in
    record {
      at = place.0;
      asks = place.1;
      files = upper_layers_after_whole_calls fresh numbers world task call permit location change place.0 overlay upper
          conditions judged (subst (DoesIf world fresh permit) asks (does world fresh permit)) is has
          (record { distinct = left.0; unused = left.1 upper.filesystem }) place.1;
    }

pub granted_calls_leave_below : GrantedCallsLeaveBelow
granted_calls_leave_below world fresh task call permit location change overlay upper at path conditions serves called
    judged asks is has places =
    let numbers = numbers_left fresh permit in
    let left = are_left world fresh conditions serves permit in
    let new : AreNew numbers (filesystem_numbered nat_eq world upper.filesystem).files =
    record { distinct = left.0; unused = left.1 upper.filesystem } in
    let stack = stack_of nat_eq world overlay upper in
    let merge = merge_of nat_eq world (filesystem_at nat_eq world location) overlay upper in
    let whole = overlays_are_whole world (mount_at nat_eq world location).filesystem overlay upper conditions is has in
    let asked = permits_ask_overlays_well world fresh task call permit location change overlay upper conditions serves
    called judged asks is has in
    let files = upper_layers_after_whole_calls fresh numbers world task call permit location change at overlay upper
    conditions judged (subst (DoesIf world fresh permit) asks (does world fresh permit)) is has new places in (
      λ out. ap (λ u. seen_below stack u path) files
          ∙ (below_stays numbers stack merge whole new change at path asked places out).0,
      λ top ended under. ap (λ u. seen_below stack u path) files
          ∙ below_ends numbers stack merge whole new change at top path asked places ended under,
    )
