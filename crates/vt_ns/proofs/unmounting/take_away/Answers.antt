use Rattle.std.proofs.Common.{ap, ◌∙◌, append-nil, arith}
use Rattle.vt_spec.proofs.Common.{common_steps}
use Rattle.vt_ns.proofs.Common.{are_ascending, mounts_in}
use Rattle.vt_ns.proofs.unmounting.take_away.Goals as goal

pub attach_planned-requires-clause-ascending : goal.attach_planned-requires-clause-ascending
attach_planned-requires-clause-ascending c = λ order. ap are_ascending (append-nil (mounts_in c.args.mounts.now)) ∙ order

pub returns-clause-ok : goal.returns-clause-ok
returns-clause-ok c = grind (arith, common_steps)

pub returns-clause-overlays : goal.returns-clause-overlays
returns-clause-overlays c = grind (arith, common_steps)
