use Rattle.std.proofs.Common.{Ok, ap, subst, sym}
use Rattle.vt_spec.proofs.Common.{unless}
use Rattle.vt_ns.proofs.Common.{IsHeld, location_of}
use Rattle.vt_ns.proofs.looking.UppersAsked.{unasked}
use Rattle.vt_ns.proofs.looking.WorldLook.mounter_may_change.Goals as goal

pub returns : goal.returns
returns c change asked = ap (λ rules. unless rules (Ok tt))
    (sym (unasked c.args.self.now (subst IsHeld c.self.view_is c.self.invariant) (location_of c.args._at) c.requires change))
