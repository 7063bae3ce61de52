use Rattle.vt_spec.proofs.Common.{common_steps}
use Rattle.std.proofs.Common.{None, Some, sym, ◌∙◌, arith}
use Rattle.vt_store.proofs.KeptOverlays.{layered_of-kept, removed}
use Rattle.vt_store.proofs.LayersKept.{kept_removed}
use Rattle.vt_store.proofs.overlays.Overlays.remove.Goals as goal

pub returns-in_err-overlay-clause-value : goal.returns-in_err-overlay-clause-value
returns-in_err-overlay-clause-value c = c.from_residual.ensures
    ∙ layered_of-kept c.args.id.count c.self.inside.by_number.entries c.args.self.now None c.self.view_is
    (sym c.in_err-overlay.was ∙ c.swap_remove.ensures.value)

pub returns-in_err-overlay-clause-removed : goal.returns-in_err-overlay-clause-removed
returns-in_err-overlay-clause-removed c = grind (arith, common_steps, removed)

pub invariant_of-self : goal.invariant_of-self
invariant_of-self c = grind (arith, common_steps, c.in_err-overlay.ensures.unchanged, c.self.invariant)

pub invariant_of-self-2 : goal.invariant_of-self-2
invariant_of-self-2 c =
    kept_removed c.args.id.count c.self.inside.by_number.entries _ c.in_ok-overlay.field-0 c.self.inside.layers
    c.take_held.new.self c.self.inside.oldest c.self.invariant (sym c.in_ok-overlay.was ∙ c.swap_remove.ensures.value)
    c.swap_remove.ensures.updates.0
    c.take_held.ensures

pub returns-clause-value : goal.returns-clause-value
returns-clause-value c =
    layered_of-kept c.args.id.count c.self.inside.by_number.entries c.args.self.now (Some c.in_ok-overlay.field-0)
    c.self.view_is (sym c.in_ok-overlay.was ∙ c.swap_remove.ensures.value)

pub returns-clause-removed : goal.returns-clause-removed
returns-clause-removed c = grind (arith, common_steps, removed)
