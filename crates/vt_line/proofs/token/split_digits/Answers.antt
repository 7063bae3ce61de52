use Rattle.std.proofs.Common.{◌≡◌, ◌∷◌, ◌∙◌, None, Some, ap, sym}
use Rattle.vt_spec.specs.Language.Script.{hex_value, spelled}
use Rattle.vt_spec.specs.Language.Script.Reading.{AfterX}
use Rattle.vt_line.proofs.Escapes.{no_high, no_low, nothing_spelled}
use Rattle.vt_line.proofs.token.split_digits.Goals as goal

pub returns-in_err-high-2-clause-spelled : goal.returns-in_err-high-2-clause-spelled
returns-in_err-high-2-clause-spelled c =
    let high = c.in_ok-high.high.now in
    let rest = c.in_ok-high.rest.now in
    let first : c.args.text.now ≡ high ∷ rest = c.in_ok-high.ensures.cases.0 in
    let unknown : hex_value high ≡ None = sym c.in_err-high-2.ensures in
    nothing_spelled _ _ c.from_residual-in_err-high-2.ensures (ap (spelled AfterX) first ∙ no_high high rest unknown)

pub returns-in_err-low-2-clause-spelled : goal.returns-in_err-low-2-clause-spelled
returns-in_err-low-2-clause-spelled c =
    let high = c.in_ok-high.high.now in
    let low = c.in_ok-low.low.now in
    let rest = c.in_ok-low.rest.now in
    let first : c.args.text.now ≡ high ∷ c.in_ok-high.rest.now = c.in_ok-high.ensures.cases.0 in
    let second : c.in_ok-high.rest.now ≡ low ∷ rest = c.in_ok-low.ensures.cases.0 in
    let digit : hex_value high ≡ Some c.in_ok-high-2.high = sym c.in_ok-high-2.ensures in
    let unknown : hex_value low ≡ None = sym c.in_err-low-2.ensures in
    nothing_spelled _ _ c.from_residual-in_err-low-2.ensures
    (ap (spelled AfterX) (first ∙ ap (λ rest. high ∷ rest) second) ∙ no_low high _ low rest digit unknown)
