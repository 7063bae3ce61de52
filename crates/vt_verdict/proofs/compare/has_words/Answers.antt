use Rattle.std.proofs.Common.{◌≡◌, ◌+◌, ◌&&◌, arith, ap, drop, eqb, false, length, rules, sym, tests, true, ◌∙◌, Bool}
use Rattle.std.proofs.lemmas.Iterator.Consumers.{YieldsList-end, YieldsList-turn}
use Rattle.std.proofs.lemmas.Iterator.Splits.{YieldsList-from_slice_split}
use Rattle.std.specs.List.{list_all}
use Rattle.std.proofs.lemmas.List.{length_push}
use Rattle.vt_verdict.specs.Compared.{has_word, words_of}
use Rattle.vt_verdict.proofs.Lines.{all-end, all-next}
use Rattle.vt_verdict.proofs.compare.has_words.Goals as goal

pub returns-then-not-has_word : goal.returns-then-not-has_word
returns-then-not-has_word c =
    let text = c.args.words.now in
    let is = has_word c.args.text.now in
    let road = YieldsList-from_slice_split _ (λ byte. eqb byte 32) text (cc) (cc) (cc) (λ x b q k. search (rules, tests)) in
    let turn = YieldsList-turn road c.loop-word.yielded _ c.loop-word.yielded_by _ _ c.in-Some.word c.in-Some.is c.next.ensures.steps in
    let next = all-next is (words_of text) (length c.loop-word.yielded) c.in-Some.word.now turn in
    let same : is c.in-Some.word.now ≡ false = cc in
    let first = λ (b : Bool). b && list_all is (drop (length c.loop-word.yielded + 1) (words_of text)) in
    sym (sym c.loop-word.invariant.left ∙ next ∙ ap first same)

pub loop-word-preserved : goal.loop-word-preserved
loop-word-preserved c =
    let text = c.args.words.now in
    let is = has_word c.args.text.now in
    let road = YieldsList-from_slice_split _ (λ byte. eqb byte 32) text (cc) (cc) (cc) (λ x b q k. search (rules, tests)) in
    let turn = YieldsList-turn road c.loop-word.yielded _ c.loop-word.yielded_by _ _ c.in-Some.word c.in-Some.is c.next.ensures.steps in
    let next = all-next is (words_of text) (length c.loop-word.yielded) c.in-Some.word.now turn in
    let other : is c.in-Some.word.now ≡ true = cc in
    let first = λ (b : Bool). b && list_all is (drop (length c.loop-word.yielded + 1) (words_of text)) in
    record {
      can_next = search rules;
      is_finite = search rules;
      left = ap (λ n. list_all is (drop n (words_of text))) (length_push c.loop-word.yielded c.in-Some.word)
          ∙ sym (next ∙ ap first other) ∙ c.loop-word.invariant.left;
    }

pub returns : goal.returns
returns c =
    let text = c.args.words.now in
    let is = has_word c.args.text.now in
    let road = YieldsList-from_slice_split _ (λ byte. eqb byte 32) text (cc) (cc) (cc) (λ x b q k. search (rules, tests)) in
    let last = YieldsList-end road c.loop-word.yielded _ c.loop-word.yielded_by _ _ c.in-None.is c.next.ensures.steps in
    sym (all-end is (words_of text) (length c.loop-word.yielded) (omega (arith, last.1))) ∙ c.loop-word.invariant.left
