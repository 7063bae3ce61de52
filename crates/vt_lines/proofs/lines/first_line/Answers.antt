use Rattle.std.proofs.Common.{◌≡◌, ◌≢◌, ◌<◌, ◌==◌, ℕ, get_or, length, refl, ap, arith}
use Rattle.vt_spec.proofs.Common.{nat_tests}
use Rattle.vt_script.proofs.RunLemmas.{HasNoNewline-each, cut_at_newline}
use Rattle.vt_lines.proofs.LineLemmas.{lines_of-cut, lines_of-one}
use Rattle.vt_lines.proofs.lines.first_line.Goals as goal

pub returns-in_default-clause-lines : goal.returns-in_default-clause-lines
returns-in_default-clause-lines c =
    let text = c.args.text.now in
    let other : (k : ℕ) → k < length text
    → get_or text k 0 ≢ 10 = λ k within e. c.in_default.ensures k (omega arith) within (ap (λ byte. byte == 10) e) in
    let some : 0 < length text = grind (arith, nat_tests) in
    lines_of-one text some (HasNoNewline-each text other)

pub returns-clause-lines : goal.returns-clause-lines
returns-clause-lines c =
    let text = c.args.text.now in
    let newline = c.in-Some.newline in
    let found = c.in-Some.ensures in
    let here : get_or text newline 0 ≡ 10 = grind (arith, nat_tests, found.1) in
    let before : (k : ℕ) → k < newline
    → get_or text k 0 ≢ 10 = λ k low e. found.0.before k (omega arith) low (ap (λ byte. byte == 10) e) in
    lines_of-cut text _ _ (cut_at_newline text c.split_at.result.0.now c.split_at.result.1.now _ newline found.0.high here before c.split_at.ensures.front c.split_at.ensures.back refl)

pub returns-in_default-clause-one : goal.returns-in_default-clause-one
returns-in_default-clause-one c =
    let text = c.args.text.now in
    let other : (k : ℕ) → k < length text
    → get_or text k 0 ≢ 10 = λ k within e. c.in_default.ensures k (omega arith) within (ap (λ byte. byte == 10) e) in
    HasNoNewline-each text other

pub returns-clause-one : goal.returns-clause-one
returns-clause-one c =
    let text = c.args.text.now in
    let newline = c.in-Some.newline in
    let found = c.in-Some.ensures in
    let here : get_or text newline 0 ≡ 10 = grind (arith, nat_tests, found.1) in
    let before : (k : ℕ) → k < newline
    → get_or text k 0 ≢ 10 = λ k low e. found.0.before k (omega arith) low (ap (λ byte. byte == 10) e) in
    (cut_at_newline text c.split_at.result.0.now c.split_at.result.1.now _ newline found.0.high here before c.split_at.ensures.front c.split_at.ensures.back refl).1
