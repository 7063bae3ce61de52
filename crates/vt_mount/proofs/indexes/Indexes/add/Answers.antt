use Rattle.std.proofs.Common.{ap, ◌∙◌}
use Rattle.vt_mount.specs.Indexes.{is_in, same_namespace, taken}
use Rattle.vt_mount.specs.Listed.{listed}
use Rattle.vt_mount.proofs.RisingLemmas.{taken-put}
use Rattle.vt_mount.proofs.indexes.Indexes.add.Goals as goal

pub returns-clause-namespace_rest : goal.returns-clause-namespace_rest
returns-clause-namespace_rest c q =
    let mount = c.args.mount.now in
    ap (taken (is_in q mount) mount.number) (ap (λ lists. listed same_namespace q lists.lists) c.add_at.ensures.namespace
    ∙ c.in_ok-add_in.ensures.namespace_ok q) ∙ taken-put (is_in q mount) mount.number _
