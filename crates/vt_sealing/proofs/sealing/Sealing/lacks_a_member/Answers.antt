use Rattle.std.proofs.Common.{rules}
use Rattle.vt_spec.proofs.Common.{YieldsList-from_slice, any_from_yields_List}
use Rattle.vt_spec.specs.Machine.Sealed.{no_such_task}
use Rattle.vt_sealing.specs.Seen.{world_seen}
use Rattle.vt_sealing.proofs.sealing.Sealing.lacks_a_member.Goals as goal

pub returns : goal.returns
returns c = any_from_yields_List (no_such_task (world_seen c.args.self.now)) _ _ _ c.any.ensures.ran
    (YieldsList-from_slice c.args.self.now.names.now cc) (λ x b q k. search rules)
