use Rattle.std.proofs.Common.{rules}
use Rattle.std.specs.Str.{bytes_eq}
use Rattle.vt_spec.proofs.Common.{YieldsList-from_slice, any_from_yields_List}
use Rattle.vt_spec.specs.Errors.{rule_name}
use Rattle.vt_later.proofs.passing.is_among.Goals as goal

pub returns : goal.returns
returns c = any_from_yields_List (λ one. bytes_eq (rule_name one) (rule_name c.args.rule))
    _ _ _ c.any.ensures.ran (YieldsList-from_slice c.args.rules.now cc) (λ x b q k. search rules)
