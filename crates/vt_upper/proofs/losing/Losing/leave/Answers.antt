use Rattle.std.proofs.Common.{refl, subst, sym}
use Rattle.vt_upper.specs.Losing.{IsLeftBy, MayBeKept}
use Rattle.vt_upper.proofs.losing.Losing.leave.Goals as goal

pub returns-in-Named : goal.returns-in-Named
returns-in-Named c = subst (λ l. IsLeftBy l c.args.nodes.now c.args.nodes.now) (sym c.in-Named.is) refl

pub leave_last-requires : goal.leave_last-requires
leave_last-requires c =
    let may = subst (λ l. MayBeKept l c.args.nodes.now.kept) c.in-Last.is c.requires in
    record { room = may.0; new = may.1 }

pub returns-in-Last : goal.returns-in-Last
returns-in-Last c = subst (λ l. IsLeftBy l c.args.nodes.now c.leave_last.new.nodes) (sym c.in-Last.is) c.leave_last.ensures
