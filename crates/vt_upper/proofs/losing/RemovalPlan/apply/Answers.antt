use Rattle.std.proofs.Common.{ap, subst, sym}
use Rattle.vt_births.specs.declared.upper_nodes.UpperNodes.{UpperNodes}
use Rattle.vt_upper.specs.Losing.{IsLeftBy, MayBeKept}
use Rattle.vt_upper_overlay.specs.UpperValue.{UpperOverlayValue}
use Rattle.vt_upper.proofs.losing.RemovalPlan.apply.Goals as goal

pub leave-requires : goal.leave-requires
leave-requires c = subst (MayBeKept c.args.self.losing)
    (sym (ap (λ (overlay : UpperOverlayValue). overlay.nodes.kept) c.apply.ensures.others)) c.requires.may_be_kept

pub returns-clause-removed : goal.returns-clause-removed
returns-clause-removed c = (
  c.apply.new.overlay.nodes.births,
  c.apply.ensures.removed,
  subst (λ (nodes : UpperNodes). IsLeftBy c.args.self.losing nodes c.leave.new.nodes)
      (ap (λ (overlay : UpperOverlayValue). overlay.nodes) c.apply.ensures.others) c.leave.ensures,
)

pub returns-clause-others : goal.returns-clause-others
returns-clause-others c = ap (λ (overlay : UpperOverlayValue). record overlay { nodes = c.leave.new.nodes })
    c.apply.ensures.others
