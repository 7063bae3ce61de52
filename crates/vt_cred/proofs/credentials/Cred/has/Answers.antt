use Rattle.std.proofs.Common.{rules}
use Rattle.vt_spec.proofs.Common.{Decides-at, has_all}
use Rattle.vt_cred.specs.Caps.{capability_bits}
use Rattle.vt_cred.proofs.BitLemmas.{Decides-has_all}
use Rattle.vt_cred.proofs.credentials.Cred.has.Goals as goal

pub returns-clause-meaning : goal.returns-clause-meaning
returns-clause-meaning c =
    let held = c.args.self.now.capabilities in
    let wanted = capability_bits c.args.wanted in
    Decides-at c.contains.result (has_all held wanted) (search rules) (Decides-has_all held wanted)
