use Rattle.std.proofs.Common.{arith}
use Rattle.vt_cred.specs.Caps.{capability_bits}
use Rattle.vt_cred.proofs.BitLemmas.{IsWithout-and}
use Rattle.vt_cred.proofs.capabilities.Caps.without.Goals as goal

pub returns-clause-meaning : goal.returns-clause-meaning
returns-clause-meaning c = IsWithout-and 8 (capability_bits c.args.self) (capability_bits c.args.dropped) (omega arith)
    (omega arith)
