use Rattle.std.proofs.Common.{◌≡◌, ap, false, is_some, sym, true, ◌∙◌}
use Rattle.vt_line.proofs.CallLemmas.{is_some-map, known_none, known_some, known_upper}
use Rattle.vt_line.proofs.calls.mounting.options_word.Goals as goal

pub returns-in_default : goal.returns-in_default
returns-in_default c = known_none c.args.text.now (sym c.parse.ensures ∙ c.in_default.is)

pub returns-then-is_some : goal.returns-then-is_some
returns-then-is_some c =
    let upper : is_some c.in-Some.options.upper ≡ true =
    ap is_some (sym c.upper.ensures) ∙ is_some-map _ c.upper.result ∙ sym c.is_some.ensures ∙ c.if-is_some.true in
    known_upper c.args.text.now c.in-Some.options (sym c.parse.ensures ∙ c.in-Some.is) upper

pub returns : goal.returns
returns c =
    let upper : is_some c.in-Some.options.upper ≡ false =
    ap is_some (sym c.upper.ensures) ∙ is_some-map _ c.upper.result ∙ sym c.is_some.ensures ∙ c.if-is_some.false in
    known_some c.args.text.now c.in-Some.options (sym c.parse.ensures ∙ c.in-Some.is) upper
