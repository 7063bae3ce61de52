use Rattle.std.proofs.Common.{[], ap, refl, sym, ◌∙◌}
use Rattle.vt_mounting.specs.Detach.Stored.{kept}
use Rattle.vt_mounting.specs.Detach.Uses.{root_left}
use Rattle.vt_mounting.proofs.detach.OverlaysListed.{left_itself}
use Rattle.vt_mounting.proofs.detach.detaching.leave_root_left.Goals as goal

pub returns-in-Some-clause-left : goal.returns-in-Some-clause-left
returns-in-Some-clause-left c = c.leave_root.ensures.left
    ∙ ap (λ root. root_left root (kept [] c.args.store.now)) (sym c.in-Some.is)

pub returns-in_default-clause-left : goal.returns-in_default-clause-left
returns-in_default-clause-left c = ap (λ root. root_left root (kept [] c.args.store.now)) (sym c.in_default.is)

pub returns-in-Some-clause-overlays : goal.returns-in-Some-clause-overlays
returns-in-Some-clause-overlays c = c.leave_root.ensures.overlays

pub returns-in_default-clause-overlays : goal.returns-in_default-clause-overlays
returns-in_default-clause-overlays c = left_itself c.args.store.now.overlays c.args.store.now.overlays refl
