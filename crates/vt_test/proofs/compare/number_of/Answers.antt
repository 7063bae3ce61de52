use Rattle.std.proofs.Common.{Ok, ap, sym, subst, ◌≡◌, ◌∙◌}
use Rattle.std.specs.Str.{IsAscii}
use Rattle.std.specs.Result.{result_ok}
use Rattle.std.proofs.lemmas.Fmt.{IsAscii-decimal, parse-decimal}
use Rattle.std.proofs.lemmas.Str.{IsUtf8-from_ascii}
use Rattle.vt_test.proofs.compare.number_of.Goals as goal

pub returns-in_default : goal.returns-in_default
returns-in_default c = λ number small is. absurd (c.in_default.ensures.cases.0
    (IsUtf8-from_ascii _ (subst IsAscii (sym is) (IsAscii-decimal number small))))

pub returns : goal.returns
returns c = λ number small is.
    let read : c.parse.result ≡ Ok number = parse-decimal 64 number _ c.parse.result small small
    (c.in-Ok.ensures.cases.0 ∙ is) c.parse.ensures.value.0 in
    c.ok.ensures.value ∙ ap result_ok read
