use Rattle.std.proofs.Common.{ap, ltb, ◌∙◌}
use Rattle.vt_spec.proofs.Common.{list_any}
use Rattle.vt_group.specs.Types.{is_in_group}
use Rattle.vt_group.proofs.Counted.{counted_any}
use Rattle.vt_group.proofs.types.Types.has_members.Goals as goal

pub returns : goal.returns
returns c = ap (ltb 0) (c.of.ensures ∙ c.self.invariant.0 c.args.group)
    ∙ counted_any c.args.group c.self.inside.kinds.entries
    ∙ ap (λ kept. list_any (is_in_group c.args.group) kept.kinds.entries) c.self.view_is
