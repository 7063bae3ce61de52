use Rattle.std.proofs.Common.{ap, ◌∙◌, nat_eq}
use Rattle.vt_spec.proofs.Common.{holds_of}
use Rattle.vt_location.specs.Numbers.{counted}
use Rattle.vt_group.proofs.Handed.{option_eq-counted}
use Rattle.vt_group.proofs.propagation.has_source.Goals as goal

pub returns : goal.returns
returns c = c.eq.ensures ∙ option_eq-counted c.source.result c.args.group
    ∙ ap (holds_of (nat_eq (counted c.args.group.count))) c.source.ensures.number
