use Rattle.std.proofs.Common.{Some, ap, decimal, sym, subst, ◌≡◌, ◌∙◌}
use Rattle.vt_test.specs.Given.{HasNoSpace}
use Rattle.vt_test.proofs.GivenLemmas.{decimal_apart, no_line, one_cut}
use Rattle.vt_test.proofs.compare.numbered.Goals as goal

pub returns-in_err-digits : goal.returns-in_err-digits
returns-in_err-digits c = λ told is small.
    absurd (no_line (decimal told.0) told.1 (subst HasNoSpace is c.in_err-digits.ensures))

pub returns-in_err-number_of : goal.returns-in_err-number_of
returns-in_err-number_of c = λ told is small.
    let cut = one_cut c.in_ok-digits.digits.now (decimal told.0) c.in_ok-digits.text.now told.1 c.in_ok-digits.ensures.1
    (decimal_apart told.0 small) (sym c.in_ok-digits.ensures.0 ∙ is) in
    let none = c.in_err-number_of.ensures told.0 small cut.0 in
    absurd cc

pub returns : goal.returns
returns c = λ told is small.
    let cut = one_cut c.in_ok-digits.digits.now (decimal told.0) c.in_ok-digits.text.now told.1 c.in_ok-digits.ensures.1
    (decimal_apart told.0 small) (sym c.in_ok-digits.ensures.0 ∙ is) in
    let some = c.in_ok-number_of.ensures told.0 small cut.0 in
    let same : c.in_ok-number_of.field-0 ≡ told.0 = cc in
    λ i. Some (same i, cut.1 i)
