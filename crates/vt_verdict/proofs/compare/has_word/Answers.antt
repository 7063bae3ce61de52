use Rattle.std.proofs.Common.{◌≡◌, ◌+◌, ◌||◌, arith, ap, drop, eqb, false, length, rules, sym, tests, true, ◌∙◌, Bool, List, ℕ}
use Rattle.std.proofs.lemmas.Iterator.Consumers.{YieldsList-end, YieldsList-turn}
use Rattle.std.proofs.lemmas.Iterator.Splits.{YieldsList-from_slice_split}
use Rattle.std.specs.List.{list_any}
use Rattle.std.specs.Str.{bytes_eq}
use Rattle.std.proofs.lemmas.List.{length_push}
use Rattle.vt_verdict.specs.Compared.{words_of}
use Rattle.vt_verdict.proofs.Lines.{any-end, any-next}
use Rattle.vt_verdict.proofs.compare.has_word.Goals as goal

pub returns-then-eq : goal.returns-then-eq
returns-then-eq c =
    let text = c.args.text.now in
    let is = λ (other : List ℕ). bytes_eq other c.args.word.now in
    let road = YieldsList-from_slice_split _ (λ byte. eqb byte 32) text (cc) (cc) (cc) (λ x b q k. search (rules, tests)) in
    let turn = YieldsList-turn road c.loop-other.yielded _ c.loop-other.yielded_by _ _ c.in-Some.other c.in-Some.is c.next.ensures.steps in
    let next = any-next is (words_of text) (length c.loop-other.yielded) c.in-Some.other.now turn in
    let same : is c.in-Some.other.now ≡ true = sym c.eq.ensures ∙ c.if-eq.true in
    let first = λ (b : Bool). b || list_any is (drop (length c.loop-other.yielded + 1) (words_of text)) in
    sym (sym c.loop-other.invariant.left ∙ next ∙ ap first same)

pub loop-other-preserved : goal.loop-other-preserved
loop-other-preserved c =
    let text = c.args.text.now in
    let is = λ (other : List ℕ). bytes_eq other c.args.word.now in
    let road = YieldsList-from_slice_split _ (λ byte. eqb byte 32) text (cc) (cc) (cc) (λ x b q k. search (rules, tests)) in
    let turn = YieldsList-turn road c.loop-other.yielded _ c.loop-other.yielded_by _ _ c.in-Some.other c.in-Some.is c.next.ensures.steps in
    let next = any-next is (words_of text) (length c.loop-other.yielded) c.in-Some.other.now turn in
    let other : is c.in-Some.other.now ≡ false = sym c.eq.ensures ∙ c.if-eq.false in
    let first = λ (b : Bool). b || list_any is (drop (length c.loop-other.yielded + 1) (words_of text)) in
    record {
      can_next = search rules;
      is_finite = search rules;
      left = ap (λ n. list_any is (drop n (words_of text))) (length_push c.loop-other.yielded c.in-Some.other)
          ∙ sym (next ∙ ap first other) ∙ c.loop-other.invariant.left;
    }

pub returns : goal.returns
returns c =
    let text = c.args.text.now in
    let is = λ (other : List ℕ). bytes_eq other c.args.word.now in
    let road = YieldsList-from_slice_split _ (λ byte. eqb byte 32) text (cc) (cc) (cc) (λ x b q k. search (rules, tests)) in
    let last = YieldsList-end road c.loop-other.yielded _ c.loop-other.yielded_by _ _ c.in-None.is c.next.ensures.steps in
    sym (any-end is (words_of text) (length c.loop-other.yielded) (omega (arith, last.1))) ∙ c.loop-other.invariant.left
