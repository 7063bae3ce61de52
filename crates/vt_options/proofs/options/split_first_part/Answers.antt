use Rattle.std.proofs.Common.{◌≡◌, ◌≢◌, ◌<◌, ◌+◌, ℕ, length, get_or, rules, All}
use Rattle.vt_spec.proofs.Common.{take_rest}
use Rattle.vt_text.proofs.PathWords.{parts_one}
use Rattle.vt_options.proofs.OptionLemmas.{parts_first}
use Rattle.vt_options.proofs.options.split_first_part.Goals as goal

pub returns-in-Some : goal.returns-in-Some
returns-in-Some c =
    let text = c.args.text.now in
    let end = c.in-Some.end in
    let inside : end < length text = search rules in
    let here : get_or text end 0 ≡ c.args.separator = search rules in
    let before : (j : ℕ) → j < end → get_or text j 0 ≢ c.args.separator = search rules in
    rw (take_rest text (end + 1)) (parts_first c.args.separator text end inside here before)

pub returns-in-None : goal.returns-in-None
returns-in-None c =
    let other : All (λ byte. byte ≢ c.args.separator) c.args.text.now = search rules in
    parts_one c.args.separator c.args.text.now other
