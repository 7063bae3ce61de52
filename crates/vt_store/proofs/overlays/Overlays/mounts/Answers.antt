use Rattle.std.proofs.Common.{None, Some, ap, option_copied, sym, ◌∙◌}
use Rattle.vt_store.proofs.KeptOverlays.{mounts-kept}
use Rattle.vt_store.proofs.overlays.Overlays.mounts.Goals as goal

pub returns-in_err-found : goal.returns-in_err-found
returns-in_err-found c = c.from_residual.ensures
    ∙ mounts-kept c.args.id.count c.self.inside.by_number.entries c.args.self.now None c.self.view_is
    (sym (ap option_copied c.in_err-found.was) ∙ c.found_under.ensures)

pub returns : goal.returns
returns c = mounts-kept c.args.id.count c.self.inside.by_number.entries c.args.self.now (Some c.in_ok-found.found.now)
    c.self.view_is (sym (ap option_copied c.in_ok-found.was) ∙ c.found_under.ensures)
