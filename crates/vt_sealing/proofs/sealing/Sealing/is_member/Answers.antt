use Rattle.std.proofs.Common.{rules}
use Rattle.vt_spec.proofs.Common.{YieldsList-from_slice, any_from_yields_List, same_name}
use Rattle.vt_sealing.proofs.sealing.Sealing.is_member.Goals as goal

pub returns : goal.returns
returns c = any_from_yields_List (same_name c.args.task.now.name) _ _ _ c.any.ensures.ran
    (YieldsList-from_slice c.args.self.now.names.now cc) (λ x b q k. search rules)
