-- A store with one overlay less.
use Rattle.std.proofs.Common.{◌≡◌, ◌∷◌, [], get_or, nat_eq, None, not, refl, subst, sym, ℕ, All, arith}
use Rattle.vt_spec.proofs.Common.{All-filter, common_steps}
use Rattle.vt_store.specs.Laws.{StaysUnder}
use Rattle.vt_store.specs.OverlaysValue.{OverlayEntry, Overlays, layered_of, without_overlay}
use Rattle.vt_store.specs.StoreValue.{StandOnLayers, StandsOnLayers, StoreValue}
use Rattle.vt_store.proofs.LayersStanding.{overlays_stand_still}

-- what is not there is not taken out
pub absent_removed : (count : ℕ) (overlays : Overlays) → layered_of overlays count ≡ None
    → without_overlay count overlays ≡ overlays
absent_removed count [] none = refl
absent_removed count (entry ∷ overlays) none =
    grind (arith, common_steps, absent_removed count overlays, nat_eq count entry.count)

-- those that are left stand still where their layers' trees are as they were
stand_still : (old new : StoreValue) → All (StandsOnLayers old.plain) new.overlays
    → All (λ (entry : OverlayEntry). All (StaysUnder old.plain new.plain entry) entry.overlay.lowers) new.overlays
    → StandOnLayers new
stand_still old new standing same place default within =
    overlays_stand_still old.plain new.plain (get_or new.overlays place default) (standing place default within)
    (same place default within)

pub stand_without : (count : ℕ) (old new : StoreValue) → new.overlays ≡ without_overlay count old.overlays
    → StandOnLayers old
    → All (λ (entry : OverlayEntry). All (StaysUnder old.plain new.plain entry) entry.overlay.lowers) new.overlays
    → StandOnLayers new
stand_without count old new overlays standing =
    stand_still old new (subst (All (StandsOnLayers old.plain)) (sym overlays)
    (All-filter (λ (entry : OverlayEntry). not (nat_eq count entry.count)) (StandsOnLayers old.plain) old.overlays
    standing))
