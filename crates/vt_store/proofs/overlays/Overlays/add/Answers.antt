use Rattle.std.proofs.Common.{[], None, Result, ap, arith, nat_lt, subst, sym, ◌++◌, ◌<◌, ◌∙◌, ◌∷◌, IsOk, OnOk}
use Rattle.vt_spec.proofs.Common.{list_all, common_steps}
use Rattle.indexmap.specs.IndexMap.{spare}
use Rattle.vt_overlay.specs.MergedTree.{OverlayValue}
use Rattle.vt_store.proofs.KeptOverlays.{added}
use Rattle.vt_store.proofs.LayersKept.{kept_added}
use Rattle.vt_store.proofs.overlays.Overlays.add.Goals as goal
use Rattle.vt_store.specs.LayersAt.{AreCounted}
use Rattle.vt_layered.specs.LayeredValue.{KeepsItsOwn, LayeredValue, held_layers}
use Rattle.vt_store.specs.OverlaysValue.{AreKept, OverlayEntry, kept_overlays}

pub invariant_of-self : goal.invariant_of-self
invariant_of-self c = record {
  own = c.self.invariant.own;
  older = c.self.invariant.older;
  layers = c.reserve.ensures.same _ c.self.invariant.layers;
  nodes = c.self.invariant.nodes;
}

pub invariant_of-self-in_err-reserve-2 : goal.invariant_of-self-in_err-reserve-2
invariant_of-self-in_err-reserve-2 c =
    subst (λ entries. AreKept entries c.reserve.new.self c.self.inside.oldest) (sym c.reserve-2.ensures.entries)
    (record {
      own = c.self.invariant.own;
      older = c.self.invariant.older;
      layers = c.reserve.ensures.same _ c.self.invariant.layers;
      nodes = c.self.invariant.nodes;
    })

-- what holds where it is put in, once there is room
where_ok : {T E P : Type 0} (r : Result T E) → IsOk r → OnOk r P → P
where_ok r is p = grind (arith, common_steps)

pub add-requires-clause-known : goal.add-requires-clause-known
add-requires-clause-known c = (_, c.reserve.ensures.same _ c.self.invariant.layers)

pub invariant_of-self-2 : goal.invariant_of-self-2
invariant_of-self-2 c =
    let room : 0 < spare c.reserve-2.new.self = omega (arith, c.in_ok-reserve-2.ensures.ok) in
    let updates = where_ok c.insert.result (c.insert.ensures.succeeds room) c.insert.ensures.updates in
    subst (λ oldest. AreKept c.insert.new.self.entries c.add.new.self oldest) (sym c.min-self-inside.ensures)
    (kept_added c.reserve-2.new.self.entries c.insert.new.self.entries c.args.id _ c.args.lowers.items
    c.reserve.new.self c.add.new.self c.self.inside.oldest
    (subst (λ entries. AreKept entries c.reserve.new.self c.self.inside.oldest) (sym c.reserve-2.ensures.entries)
    (record {
      own = c.self.invariant.own;
      older = c.self.invariant.older;
      layers = c.reserve.ensures.same _ c.self.invariant.layers;
      nodes = c.self.invariant.nodes;
    }))
    (ap (λ (one : LayeredValue). one.overlay.number) c.lower-overlay.ensures
    ∙ ap (λ (overlay : OverlayValue). overlay.number) c.new.ensures)
    (ap (λ (one : LayeredValue). held_layers one.overlay one.above) c.lower-overlay.ensures
    ∙ ap (λ (overlay : OverlayValue). overlay.lowers) c.new.ensures)
    (subst (λ (one : LayeredValue). KeepsItsOwn one.overlay one.above) (sym c.lower-overlay.ensures) tt)
    (ap (λ all. list_all (λ (entry : OverlayEntry). nat_lt entry.count c.args.id.count) all)
    (ap kept_overlays c.reserve-2.ensures.entries ∙ c.self.view_is) ∙ c.requires) updates.0
    (λ all counted. subst (λ lowers. AreCounted (all ++ lowers) c.add.new.self) c.as_slice.ensures.value
    (c.add.ensures all counted)))

pub returns-clause-ok : goal.returns-clause-ok
returns-clause-ok c =
    let room : 0 < spare c.reserve-2.new.self = omega (arith, c.in_ok-reserve-2.ensures.ok) in
    let updates = where_ok c.insert.result (c.insert.ensures.succeeds room) c.insert.ensures.updates in
    added c.reserve-2.new.self.entries c.insert.new.self.entries c.args.self.now c.args.id _
    (ap kept_overlays c.reserve-2.ensures.entries ∙ c.self.view_is) c.requires updates.0
    ∙ ap (λ (one : LayeredValue). c.args.self.now ++ record {
      count = c.args.id.count;
      overlay = one.overlay;
      above = one.above;
      mounts = 0;
    } ∷ []) (c.lower-overlay.ensures
    ∙ ap (λ (overlay : OverlayValue). record { overlay = overlay; above = None }) c.new.ensures)
