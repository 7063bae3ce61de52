use Rattle.std.proofs.Common.{rules}
use Rattle.vt_spec.proofs.Common.{Decides-at, allows}
use Rattle.vt_cred.specs.Rights.{right_bits}
use Rattle.vt_cred.proofs.AccessLemmas.{Decides-allows}
use Rattle.vt_cred.proofs.access.allows.Goals as goal

pub returns-then-override_grants-clause-meaning : goal.returns-then-override_grants-clause-meaning
returns-then-override_grants-clause-meaning c =
    let a = c.args in
    Decides-at _ (allows a.cred.now a.attr.now a.kind (right_bits a.wanted)) (search rules)
    (Decides-allows a.cred.now a.attr.now a.kind (right_bits a.wanted))

pub returns-then-has-2-clause-meaning : goal.returns-then-has-2-clause-meaning
returns-then-has-2-clause-meaning c =
    let a = c.args in
    Decides-at _ (allows a.cred.now a.attr.now a.kind (right_bits a.wanted)) (search rules)
    (Decides-allows a.cred.now a.attr.now a.kind (right_bits a.wanted))

pub returns-else-has-2-clause-meaning : goal.returns-else-has-2-clause-meaning
returns-else-has-2-clause-meaning c =
    let a = c.args in
    Decides-at _ (allows a.cred.now a.attr.now a.kind (right_bits a.wanted)) (search rules)
    (Decides-allows a.cred.now a.attr.now a.kind (right_bits a.wanted))
