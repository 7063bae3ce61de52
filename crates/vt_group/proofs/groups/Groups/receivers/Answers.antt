use Rattle.std.proofs.Common.{◌∙◌}
use Rattle.vt_spec.proofs.Common.{IfOk-weaker}
use Rattle.vt_location.specs.Numbers.{counted}
use Rattle.vt_group.proofs.Receiving.{receivers_found}
use Rattle.vt_group.proofs.groups.Groups.receivers.Goals as goal

pub returns : goal.returns
returns c = record {
  ok = IfOk-weaker c.receiving.result _ _ (λ mounts found world has live. found.2
      ∙ receivers_found c.args.self.now (counted c.args.group.count) found.0 found.1 world has live)
      c.receiving.ensures;
}
