use Rattle.std.proofs.Common.{◌≡◌, ◌∙◌, None, ap, codes, cond, drop, false, length, nat_eq, subst, take}
use Rattle.vt_spec.proofs.Common.{pointwise}
use Rattle.vt_spec.specs.Language.Script.{spelled}
use Rattle.vt_spec.specs.Language.Script.Reading.{AfterX}
use Rattle.vt_line.proofs.Escapes.{nothing_spelled, spelled-escape}
use Rattle.vt_line.proofs.token.split_escape.Goals as goal

pub returns-in_err-strip_prefix-clause-spelled : goal.returns-in_err-strip_prefix-clause-spelled
returns-in_err-strip_prefix-clause-spelled c =
    let text = c.args.text.now in
    let beginning : c.as_slice.result.now ≡ codes "\\x" = c.as_slice.ensures in
    let other : pointwise nat_eq (take 2 text) (codes "\\x") ≡ false =
    subst (λ beginning. pointwise nat_eq (take (length beginning) text) beginning ≡ false) beginning
    c.in_err-strip_prefix.ensures.cases in
    nothing_spelled _ _ c.from_residual.ensures
    (spelled-escape text c.requires.some c.requires.stops ∙ ap (λ escape. cond escape (spelled AfterX (drop 2 text)) None) other)
