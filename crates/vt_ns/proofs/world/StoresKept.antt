-- The store of a world, and an event that leaves all its overlays.
use Rattle.std.proofs.Common.{◌≡◌, sym, ap, subst, ◌∙◌, ℕ, map}
use Rattle.vt_spec.proofs.Common.{Permit, TaskName}
use Rattle.vt_ns.proofs.Common.{IsDone, IsHeld, Permits, StoreValue, WorldValue, kept, kept_of, left_itself, overlay_of_store, overlays_of_store, with_store}
use Rattle.vt_mounting.specs.Detach.Uses.{kept_with}
use Rattle.vt_mounting.proofs.attach.OverlayMounted.{merged_are}
use Rattle.vt_mounting.proofs.detach.StoreShown.{kept_lower}
use Rattle.vt_mounting.proofs.detach.OverlaysListed.{done_in_store, kept_in_store}

-- what a store keeps is what its world has
pub kept_is : (base : WorldValue) (store : StoreValue) → IsHeld (with_store store base)
    → kept base.mounts store ≡ kept_of (with_store store base)
kept_is base store held =
    ap (kept_with base.mounts store.plain) (merged_are store.plain store.overlays (kept_lower base store held))

-- An event after which a store has the overlays that it had is done in the world of the store, if it is in the world
-- that has them as they were.
pub same_in_store : (base new_base : WorldValue) (old new : StoreValue) → IsHeld (with_store old base)
    → new.overlays ≡ old.overlays → (name : TaskName) (permit : Permit ℕ) → Permits (with_store old base) name permit
    → IsDone (with_store old base) name permit
    (record new_base { filesystems = new.plain; overlays = overlays_of_store old })
    → IsDone (with_store old base) name permit (with_store new new_base)
same_in_store base new_base old new held same name permit permits done =
    let left = left_itself old.overlays new.overlays same in
    done_in_store base new_base old new held left name permit permits (subst (λ overlays. IsDone (with_store old base)
    name permit (record new_base { filesystems = new.plain; overlays = overlays }))
    (ap (map (overlay_of_store old.plain)) (sym same) ∙ sym (kept_in_store base old new held left)) done)
