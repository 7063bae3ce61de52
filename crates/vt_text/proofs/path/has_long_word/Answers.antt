use Rattle.std.proofs.Common.{◌≡◌, ◌≢◌, ◌≤◌, ◌<◌, ◌+◌, ◌-◌, ℕ, length, get_or, drop, refl, sym, ap, subst, ◌∙◌, arith, length-take, length-drop, get_or-take}
use Rattle.vt_spec.proofs.Common.{longest_name, take_rest, words}
use Rattle.vt_text.proofs.Limits.{some_long, no_long_word, long_word_after, long_word_here}
use Rattle.vt_text.proofs.path.has_long_word.Goals as goal

pub loop-rest-init : goal.loop-rest-init
loop-rest-init c = refl

pub returns-then-start-eq0 : goal.returns-then-start-eq0
returns-then-start-eq0 c =
    let rest = c.loop-rest.rest.now in
    let long : longest_name < length rest = c.loop-rest-test.true in
    let size = length-take 256 rest in
    let other : (k : ℕ) → k ≤ longest_name → get_or rest k 0 ≢ 47 = λ k within.
    subst (λ byte. byte ≢ 47) (get_or-take 256 rest k 0 (omega arith))
    (c.after_last_slash-start.ensures.after k (omega (arith, c.if-start-eq0.true)) (omega (arith, size))) in
    sym (c.loop-rest.invariant ∙ long_word_here rest long other)

pub slice_bounds-rest-count : goal.slice_bounds-rest-count
slice_bounds-rest-count c = omega (arith, length-take 256 c.loop-rest.rest.now, c.after_last_slash-start.ensures.within)

pub slice_bounds-rest-start : goal.slice_bounds-rest-start
slice_bounds-rest-start c = omega (arith, length-take 256 c.loop-rest.rest.now, c.after_last_slash-start.ensures.within)

pub loop-rest-smaller : goal.loop-rest-smaller
loop-rest-smaller c =
    let rest = c.loop-rest.rest.now in
    let start = c.after_last_slash-start.result in
    let positive : 0 < start = omega (arith, c.if-start-eq0.false) in
    omega (arith, length-take (length rest - start) (drop start rest), length-drop start rest)

pub loop-rest-preserved : goal.loop-rest-preserved
loop-rest-preserved c =
    let rest = c.loop-rest.rest.now in
    let start = c.after_last_slash-start.result in
    let positive : 0 < start = omega (arith, c.if-start-eq0.false) in
    let within = c.after_last_slash-start.ensures.within in
    let size = length-take 256 rest in
    let back : start - 1 + 1 ≡ start = omega arith in
    let slash : get_or rest (start - 1) 0 ≡ 47 =
    sym (get_or-take 256 rest (start - 1) 0 (omega arith)) ∙ c.after_last_slash-start.ensures.slash positive in
    c.loop-rest.invariant ∙ long_word_after rest (start - 1) (omega arith) (omega arith) slash
    ∙ ap (λ at. some_long (words (drop at rest))) back
    ∙ ap (λ text. some_long (words text)) (sym (take_rest rest start))

pub returns : goal.returns
returns c = sym (c.loop-rest.invariant ∙ no_long_word c.loop-rest.rest.now c.loop-rest-test.false)
