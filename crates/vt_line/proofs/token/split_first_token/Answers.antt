use Rattle.std.proofs.Common.{◌≡◌, ◌≢◌, ◌<◌, ◌≤◌, ℕ, [], All, length, get_or, take, drop, subst, sym, ap, ◌∙◌, ⊎_elim, arith, rules, add-zero, length-drop, length-take, get_or-drop, get_or-take}
use Rattle.vt_spec.proofs.Common.{cases_lt, raw_tokens, take_rest}
use Rattle.std.proofs.lemmas.List.Elements.{All-from_get_or}
use Rattle.vt_text.proofs.PathWords.{words_between_none, words_between_one, words_between-drop, words_between_first}
use Rattle.vt_line.proofs.token.split_first_token.Goals as goal

pub returns-in_err-start : goal.returns-in_err-start
returns-in_err-start c =
    let none : raw_tokens c.args.line.now ≡ [] = words_between_none 32 c.args.line.now (search rules) in
    search rules

pub returns : goal.returns
returns c =
    let xs = c.args.line.now in
    let start = c.in_ok-start.start in
    let end = c.first_space.result in
    let found = c.first_space.ensures in
    let inside : start < length xs = search rules in
    let first : get_or xs start 0 ≢ 32 = search rules in
    let same : raw_tokens (drop start xs) ≡ raw_tokens xs = words_between-drop 32 xs start (omega arith) (search rules) in
    let rest = take_rest xs start in
    let first_at : get_or (drop start xs) 0 0 ≡ get_or xs start 0 = get_or-drop start xs 0 0
    ∙ ap (λ n. get_or xs n 0) (add-zero start) in
    let within : end ≤ length (drop start xs) = rw rest at found.within in
    let before : (k : ℕ) → k < end → get_or (drop start xs) k 0 ≢ 32 = rw rest at found.before in
    let space : end < length (drop start xs) → get_or (drop start xs) end 0 ≡ 32 = rw rest at found.space in
    let some : 0 < end = ⊎_elim (λ positive. positive) (λ at_most_zero.
    let zero : end ≡ 0 = omega arith in
    let inside_rest : end < length (drop start xs) = omega (arith, length-drop start xs) in
    absurd (first (sym first_at ∙ ap (λ n. get_or (drop start xs) n 0) (sym zero) ∙ space inside_rest)))
    (cases_lt 0 end) in
    let cut = words_between_first 32 (drop start xs) end some within before space in
    let front : c.split_at.result.0.now ≡ take end (drop start xs) = rw rest at c.split_at.ensures.front in
    let back : c.split_at.result.1.now ≡ drop end (drop start xs) = rw rest at c.split_at.ensures.back in
    let word : All (λ byte. byte ≢ 32) (take end (drop start xs)) =
    All-from_get_or (λ byte. byte ≢ 32) (take end (drop start xs)) 0
    (λ k inside. let below : k < end = omega (arith, length-take end (drop start xs)) in
    subst (λ byte. byte ≢ 32) (sym (get_or-take end (drop start xs) k 0 below)) (before k below)) in
    let long : 0 < length (take end (drop start xs)) = omega (arith, length-take end (drop start xs)) in
    record {
      parts = rw (front, back) (sym same ∙ cut);
      token = rw front (words_between_one 32 (take end (drop start xs)) long word);
    }
