use Rattle.std.proofs.Common.{None, Some, ap, option_copied, subst, sym, ◌∙◌}
use Rattle.vt_store.specs.OverlaysValue.{KeepTheirOwn}
use Rattle.vt_store.proofs.KeptObjects.{own_of}
use Rattle.vt_store.proofs.KeptOverlays.{is_own, layered_of-kept}
use Rattle.vt_store.proofs.overlays.Overlays.get.Goals as goal

pub returns-in_err-found-clause-value : goal.returns-in_err-found-clause-value
returns-in_err-found-clause-value c = ap option_copied c.from_residual.ensures
    ∙ layered_of-kept c.args.id.count c.self.inside.by_number.entries c.args.self.now None c.self.view_is
    (sym (ap option_copied c.in_err-found.was) ∙ c.found_under.ensures)

pub returns-clause-value : goal.returns-clause-value
returns-clause-value c =
    layered_of-kept c.args.id.count c.self.inside.by_number.entries c.args.self.now (Some c.in_ok-found.found.now)
    c.self.view_is (sym (ap option_copied c.in_ok-found.was) ∙ c.found_under.ensures)

pub returns-clause-own : goal.returns-clause-own
returns-clause-own c = is_own c.args.id c.self.inside.by_number.entries c.self.invariant.own c.in_ok-found.found.now
    (sym (ap option_copied c.in_ok-found.was) ∙ c.found_under.ensures)

pub returns-clause-nodes : goal.returns-clause-nodes
returns-clause-nodes c = own_of c.args.self.now c.args.id.count
    (subst KeepTheirOwn c.self.view_is c.self.invariant.nodes) c.in_ok-found.found.now.overlay
    (sym (layered_of-kept c.args.id.count c.self.inside.by_number.entries c.args.self.now (Some c.in_ok-found.found.now)
    c.self.view_is (sym (ap option_copied c.in_ok-found.was) ∙ c.found_under.ensures)))
