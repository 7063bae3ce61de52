use Rattle.std.proofs.Common.{ap, sym, ◌∙◌}
use Rattle.vt_mounting.proofs.Common.{shown}
use Rattle.vt_mounting.specs.Detach.Uses.{unpinned_at}
use Rattle.vt_mounting.proofs.detach.CountNoUses.{still_unpinned, unpins_plain}
use Rattle.vt_mounting.proofs.detach.detaching.unpin_point.Goals as goal

pub returns-in-Some-clause-uses : goal.returns-in-Some-clause-uses
returns-in-Some-clause-uses c =
    (unpins_plain c.args.store.now c.requires c.in-Some.point.node c.unpin.new.self c.unpin.ensures).0
    ∙ ap (λ point. unpinned_at point (shown c.args.store.now.plain)) (sym c.in-Some.is)

pub returns-in_default-clause-uses : goal.returns-in_default-clause-uses
returns-in_default-clause-uses c = ap (λ point. unpinned_at point (shown c.args.store.now.plain)) (sym c.in_default.is)

pub returns-in-Some-clause-overlays : goal.returns-in-Some-clause-overlays
returns-in-Some-clause-overlays c =
    (unpins_plain c.args.store.now c.requires c.in-Some.point.node c.unpin.new.self c.unpin.ensures).1

pub returns-in-Some-clause-still : goal.returns-in-Some-clause-still
returns-in-Some-clause-still c =
    still_unpinned c.args.store.now c.requires c.in-Some.point.node c.unpin.new.self c.unpin.ensures
