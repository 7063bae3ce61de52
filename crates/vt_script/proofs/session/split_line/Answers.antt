use Rattle.std.proofs.Common.{◌≡◌, ◌≢◌, ◌<◌, ◌==◌, ℕ, get_or, length, refl, ap, arith}
use Rattle.vt_spec.proofs.Common.{nat_tests}
use Rattle.vt_script.proofs.RunLemmas.{HasNoNewline-each, cut_at_newline}
use Rattle.vt_script.proofs.session.split_line.Goals as goal

pub returns : goal.returns
returns c =
    let bytes = c.args.bytes.now in
    let newline = c.in_ok-newline.newline in
    let found = c.in_ok-newline.ensures in
    let here : get_or bytes newline 0 ≡ 10 = grind (arith, nat_tests, found.1) in
    let before : (k : ℕ) → k < newline
    → get_or bytes k 0 ≢ 10 = λ k low e. found.0.before k (omega arith) low (ap (λ byte. byte == 10) e) in
    cut_at_newline bytes c.split_at.result.0.now c.split_at.result.1.now _ newline found.0.high here before c.split_at.ensures.front c.split_at.ensures.back refl

pub returns-in_err-newline : goal.returns-in_err-newline
returns-in_err-newline c =
    let bytes = c.args.bytes.now in
    let other : (k : ℕ) → k < length bytes
    → get_or bytes k 0 ≢ 10 = λ k within e. c.in_err-newline.ensures k (omega arith) within
    (ap (λ byte. byte == 10) e) in
    rw c.from_residual.ensures (HasNoNewline-each bytes other)
