use Rattle.std.proofs.Common.{◌≡◌, ◌≢◌, ◌<◌, ◌+◌, ◌-◌, [], length, get_or, take, sym, ap, ◌∙◌, ⊎_elim, arith, rules, get_or-take, length-take-le}
use Rattle.vt_spec.proofs.Common.{cases_lt, words}
use Rattle.vt_text.proofs.PathWords.{words_between_none, words_between-take, words_between_last}
use Rattle.vt_text.proofs.path.split_last_word.Goals as goal

pub returns-in_err-last : goal.returns-in_err-last
returns-in_err-last c =
    let none : words c.args.text.now ≡ [] = words_between_none 47 c.args.text.now (search rules) in
    search rules

pub returns : goal.returns
returns c =
    let xs = c.args.text.now in
    let last = c.in_ok-last.last in
    let start = c.after_last_slash.result in
    let found = c.after_last_slash.ensures in
    let inside : last < length xs = search rules in
    let byte : get_or xs last 0 ≢ 47 = search rules in
    let ys = take (last + 1) xs in
    let size : length ys ≡ last + 1 = length-take-le (last + 1) xs (omega arith) in
    let last_at : get_or ys last 0 ≡ get_or xs last 0 = get_or-take (last + 1) xs last 0 (omega arith) in
    let some : start < length ys = ⊎_elim (λ below. below) (λ past.
    let at_end : start - 1 ≡ last = omega (arith, found.within) in
    let positive : 0 < start = omega arith in
    absurd (byte (sym last_at ∙ ap (λ n. get_or ys n 0) (sym at_end) ∙ found.slash positive)))
    (cases_lt start (length ys)) in
    let cut = words_between_last 47 ys start some found.after found.slash in
    let same : words ys ≡ words xs = words_between-take 47 xs (last + 1) (search rules) in
    rw (c.split_at.ensures.front, c.split_at.ensures.back) (sym same ∙ cut)
