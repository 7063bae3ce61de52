use Rattle.std.proofs.Common.{sym, ap, ◌∙◌}
use Rattle.vt_spec.proofs.Common.{capability_named}
use Rattle.vt_line.proofs.WordLemmas.{find_name-capability, capability_named-no_text}
use Rattle.vt_line.proofs.words.capability_named.Goals as goal

pub returns : goal.returns
returns c = c.from_name.ensures tt ∙ find_name-capability c.in-Ok.name.now ∙ ap capability_named c.in-Ok.ensures.cases.0

pub returns-in_default : goal.returns-in_default
returns-in_default c = sym (capability_named-no_text c.args.name.now c.in_default.ensures.cases.0)
