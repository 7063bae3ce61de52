use Rattle.std.proofs.Common.{None, Some, bytes_eq, codes, ◌∷◌, ◌∙◌, ◌≡◌, ◌+◌, ◌<◌, ◌||◌, ap, arith, drop, eqb, length, rules, sym, tests}
use Rattle.std.proofs.lemmas.Iterator.Consumers.{YieldsList-end, YieldsList-turn}
use Rattle.std.proofs.lemmas.Iterator.Splits.{YieldsList-from_slice_split}
use Rattle.std.proofs.lemmas.List.{length_push}
use Rattle.vt_spec.proofs.Common.{nat_tests}
use Rattle.vt_spec.specs.Language.Script.{behind}
use Rattle.vt_spec.specs.Lists.{when}
use Rattle.vt_wanted.specs.Headers.{named_next, words_of}
use Rattle.vt_wanted.proofs.Files.{first_word-empty, first_word-here, named_by-itself, named_by-next, named_next-at, named_next-end}
use Rattle.vt_wanted.proofs.header.word_in.Goals as goal
use Rattle.vt_wanted.proofs.header.word_in.Goals.{else-is_next-via-then-is_next+else-not-is_empty, else-is_next-via-else-is_next}

pub returns-then-not-is_empty : goal.returns-then-not-is_empty
returns-then-not-is_empty c =
    let line = c.args.line.now in
    let road = YieldsList-from_slice_split _ (λ byte. eqb byte 32) line (cc) (cc) (cc) (λ x b q k. search (rules, tests)) in
    let turn = YieldsList-turn road c.loop-text.yielded _ c.loop-text.yielded_by _ _ c.in-Some.text c.in-Some.is c.next.ensures.steps in
    let word = c.in-Some.text.now in
    let rest = drop (length c.loop-text.yielded + 1) (words_of line) in
    let some : 0 < length word = grind (arith, nat_tests) in
    sym (first_word-here word rest some) ∙ ap (λ b. named_next b (word ∷ rest)) (sym c.if-is_next.true)
    ∙ sym (named_next-at c.loop-text.is_next (words_of line) (length c.loop-text.yielded) word turn)
    ∙ c.loop-text.invariant.left

pub returns-in-Some-strip_prefix : goal.returns-in-Some-strip_prefix
returns-in-Some-strip_prefix c =
    let line = c.args.line.now in
    let road = YieldsList-from_slice_split _ (λ byte. eqb byte 32) line (cc) (cc) (cc) (λ x b q k. search (rules, tests)) in
    let turn = YieldsList-turn road c.loop-text.yielded _ c.loop-text.yielded_by _ _ c.in-Some.text c.in-Some.is c.next.ensures.steps in
    let word = c.in-Some.text.now in
    let rest = drop (length c.loop-text.yielded + 1) (words_of line) in
    let at = named_next-at c.loop-text.is_next (words_of line) (length c.loop-text.yielded) word turn in
    let found = c.in-Some-strip_prefix.ensures.cases in
    let named : behind (codes "--script=") word ≡ Some c.in-Some-strip_prefix.text.now =
    ap (λ b. when b (drop 9 word)) found.0 ∙ ap Some (sym found.1) in
    elim c.else-is_next.branch [
      | else-is_next-via-then-is_next+else-not-is_empty w ↦
          let long : 9 + length c.in-Some-strip_prefix.text.now ≡ length word = omega (arith, found.2) in
          let none : length word ≡ 0 = grind (arith, nat_tests) in
          absurd (omega (arith, long, none))
      | else-is_next-via-else-is_next w ↦
          sym (named_by-itself word c.in-Some-strip_prefix.text.now rest named)
          ∙ ap (λ b. named_next b (word ∷ rest)) (sym w.if-is_next.false) ∙ sym at ∙ c.loop-text.invariant.left
    ]

pub loop-text-preserved : goal.loop-text-preserved
loop-text-preserved c =
    let line = c.args.line.now in
    let road = YieldsList-from_slice_split _ (λ byte. eqb byte 32) line (cc) (cc) (cc) (λ x b q k. search (rules, tests)) in
    let turn = YieldsList-turn road c.loop-text.yielded _ c.loop-text.yielded_by _ _ c.in-Some.text c.in-Some.is c.next.ensures.steps in
    let word = c.in-Some.text.now in
    let rest = drop (length c.loop-text.yielded + 1) (words_of line) in
    let at = named_next-at c.loop-text.is_next (words_of line) (length c.loop-text.yielded) word turn in
    let same = bytes_eq word (codes "--script") in
    let later : named_next c.loop-text.is_next (word ∷ rest) ≡ named_next (c.loop-text.is_next || same) rest =
    elim c.else-is_next.branch [
      | else-is_next-via-then-is_next+else-not-is_empty w ↦
          let none : length word ≡ 0 = grind (arith, nat_tests) in
          ap (λ b. named_next b (word ∷ rest)) w.if-is_next.true ∙ first_word-empty word rest none
          ∙ ap (λ b. named_next (b || same) rest) (sym w.if-is_next.true)
      | else-is_next-via-else-is_next w ↦
          let other : behind (codes "--script=") word ≡ None =
          ap (λ b. when b (drop 9 word)) c.in_default.ensures.cases in
          ap (λ b. named_next b (word ∷ rest)) w.if-is_next.false ∙ named_by-next word rest other
          ∙ ap (λ b. named_next (b || same) rest) (sym w.if-is_next.false)
    ] in
    let equal : c.eq-is_next.result ≡ same = c.eq-is_next.ensures in
    record {
      can_next = search rules;
      is_finite = search rules;
      left = ap (λ n. named_next (c.loop-text.is_next || c.eq-is_next.result) (drop n (words_of line))) (length_push c.loop-text.yielded c.in-Some.text)
          ∙ ap (λ b. named_next (c.loop-text.is_next || b) rest) equal
          ∙ sym (at ∙ later) ∙ c.loop-text.invariant.left;
    }

pub returns : goal.returns
returns c =
    let line = c.args.line.now in
    let road = YieldsList-from_slice_split _ (λ byte. eqb byte 32) line (cc) (cc) (cc) (λ x b q k. search (rules, tests)) in
    let last = YieldsList-end road c.loop-text.yielded _ c.loop-text.yielded_by _ _ c.in-None.is c.next.ensures.steps in
    sym (named_next-end c.loop-text.is_next (words_of line) (length c.loop-text.yielded) (omega (arith, last.1)))
    ∙ c.loop-text.invariant.left
