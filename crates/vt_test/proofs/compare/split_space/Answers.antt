use Rattle.std.proofs.Common.{◌≡◌, ◌≢◌, ◌<◌, ◌==◌, ℕ, get_or, length, refl, ap, arith}
use Rattle.vt_spec.proofs.Common.{nat_tests}
use Rattle.vt_test.proofs.GivenLemmas.{HasNoSpace-each, cut_at_space}
use Rattle.vt_test.proofs.compare.split_space.Goals as goal

pub returns : goal.returns
returns c =
    let line = c.args.line.now in
    let space = c.in_ok-space.space in
    let found = c.in_ok-space.ensures in
    let here : get_or line space 0 ≡ 32 = grind (arith, nat_tests, found.1) in
    let before : (k : ℕ) → k < space
    → get_or line k 0 ≢ 32 = λ k low e. found.0.before k (omega arith) low (ap (λ byte. byte == 32) e) in
    cut_at_space line c.split_at.result.0.now c.split_at.result.1.now _ space found.0.high here before c.split_at.ensures.front c.split_at.ensures.back refl

pub returns-in_err-space : goal.returns-in_err-space
returns-in_err-space c =
    let line = c.args.line.now in
    let other : (k : ℕ) → k < length line
    → get_or line k 0 ≢ 32 = λ k within e. c.in_err-space.ensures k (omega arith) within
    (ap (λ byte. byte == 32) e) in
    rw c.from_residual.ensures (HasNoSpace-each line other)
