-- Overlays of which one has other nodes, one by one.
use Rattle.std.proofs.Common.{◌≡◌, refl, sym, ap, subst, ◌∙◌, ⊎_elim, ℕ, nat_eq, eqb-true, eq-eqb, Bool, true, false, true≢false, cond, [], ◌∷◌, Option, Some, None, option_map, All, Contains}
use Rattle.std.specs.List.{list_any}
use Rattle.vt_spec.proofs.Common.{Among, all_from_among, among-from_map, any_from_among, any_pair, contains_from_among, or_false_left, or_false_right, then_some}
use Rattle.vt_births.specs.declared.upper_nodes.UpperNodes.{UpperNodes}
use Rattle.vt_location.specs.declared.locations.NodeRef.{NodeRef}
use Rattle.vt_layered.specs.LayeredValue.{Above, LayeredValue}
use Rattle.vt_layered.specs.Pins.{IsPinned, IsUnpinned, with_nodes}
use Rattle.vt_store.specs.OverlaysValue.{OverlayEntry, Overlays, entry_kept, layered_of}
use Rattle.vt_store.specs.Pins.{ChangesAbove, ChangesOverlay, Pins, PinsBy, Unpins, UnpinsBy}
use Rattle.vt_store.specs.StoreValue.{StoreValue, layered_in}
use Rattle.vt_kept_nodes.specs.Counted.{AreApart}

-- the overlay of a count is the only one
only_one : (f : ℕ) (overlays : Overlays) → AreApart overlays → (entry : OverlayEntry) → Among entry overlays
    → nat_eq f entry.count ≡ true → entry_kept overlays f ≡ Some entry
only_one f [] apart entry m is = absurd m
only_one f (first ∷ rest) apart entry m is = ⊎_elim
    (λ same. ap (λ (one : OverlayEntry). cond (nat_eq f one.count) (Some one) (entry_kept rest f)) (sym same)
    ∙ ap (λ b. cond b (Some entry) (entry_kept rest f)) is)
    (λ later. by (nat_eq f first.count) refl later (only_one f rest
    (or_false_right (list_any (λ other. nat_eq first.count other.count) rest) _ apart) entry later is)) m
  where
    by : (b : Bool) → nat_eq f first.count ≡ b → Among entry rest → entry_kept rest f ≡ Some entry
        → cond b (Some first) (entry_kept rest f) ≡ Some entry
    by true e later found = absurd (true≢false (sym (any_from_among (λ (other : OverlayEntry).
        nat_eq first.count other.count) rest entry later
        (eq-eqb first.count entry.count (sym (eqb-true f first.count e) ∙ eqb-true f entry.count is)))
        ∙ or_false_left _ (any_pair (λ (a b : OverlayEntry). nat_eq a.count b.count) rest) apart))
    by false e later found = found

-- an overlay with other nodes
abbrev pub having : UpperNodes → OverlayEntry → OverlayEntry
having nodes entry = record entry { above = with_nodes nodes entry.above }

module _ (change : UpperNodes → UpperNodes → Type 0) (count : ℕ) (old : Overlays) (apart : AreApart old)
    (P : OverlayEntry → OverlayEntry → Type 0)
    (same : (entry : OverlayEntry) → Among entry old → (nat_eq count entry.count ≡ true → entry.above ≡ None)
    → P entry entry)
    (step : (entry : OverlayEntry) (above : Above) (nodes : UpperNodes) → Among entry old
    → nat_eq count entry.count ≡ true → entry.above ≡ Some above → change above.nodes nodes
    → P entry (having nodes entry)) where
  abbrev Is : OverlayEntry → Type 0
  Is entry = (was : OverlayEntry) × Contains old was × P was entry

  abbrev above_found : Option Above
  above_found = then_some (layered_of old count) (λ (layered : LayeredValue). layered.above)

  -- what is found is what it has
  is_found : (entry : OverlayEntry) → Among entry old → nat_eq count entry.count ≡ true → above_found ≡ entry.above
  is_found entry m e = ap (λ (o : Option OverlayEntry). then_some (option_map
      (λ (one : OverlayEntry). record { overlay = one.overlay; above = one.above }) o)
      (λ (layered : LayeredValue). layered.above)) (only_one count old apart entry m e)

  pub each_changed : (new : Overlays) → ChangesOverlay change count old new → All Is new
  each_changed new = by above_found refl
    where
      one : (above : Above) (nodes : UpperNodes) → change above.nodes nodes → above_found ≡ Some above
          → (entry : OverlayEntry) → Among entry old
          → Is (cond (nat_eq count entry.count) (having nodes entry) entry)
      one above nodes changes found entry m = at (nat_eq count entry.count) refl
        where
          at : (b : Bool) → nat_eq count entry.count ≡ b → Is (cond b (having nodes entry) entry)
          at true e = (
            entry,
            contains_from_among old entry m,
            step entry above nodes m e (sym (is_found entry m e) ∙ found) changes,
          )
          at false e =
              (entry, contains_from_among old entry m, same entry m (λ t. absurd (true≢false (sym t ∙ e))))

      by : (o : Option Above) → above_found ≡ o → ChangesAbove change count old new o → All Is new
      by None found is = subst (All Is) (sym is) (all_from_among Is old (λ entry m. (
        entry,
        contains_from_among old entry m,
        same entry m (λ e. sym (is_found entry m e) ∙ found),
      )))
      by (Some above) found is = subst (All Is) (sym is.2) (all_from_among Is _ (λ entry m.
          let was = among-from_map (λ (one : OverlayEntry). cond (nat_eq count one.count) (having is.0 one) one) old
          entry m in
          subst Is (sym was.2) (one above is.0 is.1 found was.0 was.1)))

-- what a pin and an unpin change of overlays
pub pins_change : (node : NodeRef) (old new : StoreValue) → Pins node old new
    → ChangesOverlay (IsPinned node) node.filesystem.count old.overlays new.overlays
pins_change node old new = by (layered_in old node.filesystem.count)
  where
    by : (o : Option LayeredValue) → PinsBy node old new o
        → ChangesAbove (IsPinned node) node.filesystem.count old.overlays new.overlays
        (then_some o (λ (layered : LayeredValue). layered.above))
    by None is = is.0
    by (Some layered) is = is.1

pub unpins_change : (node : NodeRef) (old new : StoreValue) → Unpins node old new
    → ChangesOverlay (IsUnpinned node) node.filesystem.count old.overlays new.overlays
unpins_change node old new = by (layered_in old node.filesystem.count)
  where
    by : (o : Option LayeredValue) → UnpinsBy node old new o
        → ChangesAbove (IsUnpinned node) node.filesystem.count old.overlays new.overlays
        (then_some o (λ (layered : LayeredValue). layered.above))
    by None is = is.0
    by (Some layered) is = is.1
