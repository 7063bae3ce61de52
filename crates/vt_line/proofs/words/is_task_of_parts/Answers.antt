use Rattle.std.proofs.Common.{◌≡◌, None, true, false, not, codes, eqb, is_some, length, drop, sym, ap, ◌∙◌, arith, rules, tests, bytes_eq}
use Rattle.vt_spec.proofs.Common.{YieldsList-end, YieldsList-from_slice_split, YieldsList-turn, child_number, each_of, length_push, none_from_not_some, parts}
use Rattle.std.proofs.lemmas.Iterator.Consumers.{YieldsList-at}
use Rattle.vt_line.proofs.Splits.{YieldsList-parts, YieldsList-others, each_of-end, each_of-goes, each_of-none}
use Rattle.vt_line.proofs.WordLemmas.{task_word-other, task_word-children}
use Rattle.vt_line.proofs.words.is_task_of_parts.Goals as goal

pub returns-then-ne : goal.returns-then-ne
returns-then-ne c =
    let other : bytes_eq c.in-Some.first.now (codes "t") ≡ false = search rules in
    let text = c.args.text.now in
    let all = parts 46 text in
    let road = YieldsList-parts 46 text
    (YieldsList-from_slice_split _ (λ byte. eqb byte 46) text (cc) (cc) (cc) (λ x b q k. search (rules, tests))) in
    let first = YieldsList-others all road c.next.result c.next.new.self c.in-Some.first c.in-Some.is c.next.ensures.steps in
    ap is_some (sym (task_word-other text c.in-Some.first.now (drop 1 all) first.0 other))

pub returns-then-is_none : goal.returns-then-is_none
returns-then-is_none c =
    let same : bytes_eq c.in-Some.first.now (codes "t") ≡ true = search rules in
    let text = c.args.text.now in
    let all = parts 46 text in
    let road = YieldsList-parts 46 text
    (YieldsList-from_slice_split _ (λ byte. eqb byte 46) text (cc) (cc) (cc) (λ x b q k. search (rules, tests))) in
    let first = YieldsList-others all road c.next.result c.next.new.self c.in-Some.first c.in-Some.is c.next.ensures.steps in
    let others = YieldsList-at c.into_iter-part-iterator.ensures.into_iter_gives first.1 in
    let n = length c.loop-part.yielded in
    let turn = YieldsList-turn others c.loop-part.yielded _ c.loop-part.yielded_by _ _ c.in-Some-part.part c.in-Some-part.is c.next-in-loop-part.ensures.steps in
    let none : child_number c.in-Some-part.part.now ≡ None = sym c.child_number.ensures.value
    ∙ none_from_not_some c.child_number.result (c.is_none.ensures ∙ ap not c.if-is_none.true) in
    ap is_some (sym (each_of-none child_number (drop 1 all) n c.in-Some-part.part.now turn none))
    ∙ c.loop-part.invariant.read
    ∙ ap is_some (sym (task_word-children text c.in-Some.first.now (drop 1 all) first.0 same))

pub loop-part-preserved : goal.loop-part-preserved
loop-part-preserved c =
    let same : bytes_eq c.in-Some.first.now (codes "t") ≡ true = search rules in
    let text = c.args.text.now in
    let all = parts 46 text in
    let road = YieldsList-parts 46 text
    (YieldsList-from_slice_split _ (λ byte. eqb byte 46) text (cc) (cc) (cc) (λ x b q k. search (rules, tests))) in
    let first = YieldsList-others all road c.next.result c.next.new.self c.in-Some.first c.in-Some.is c.next.ensures.steps in
    let others = YieldsList-at c.into_iter-part-iterator.ensures.into_iter_gives first.1 in
    let n = length c.loop-part.yielded in
    let turn = YieldsList-turn others c.loop-part.yielded _ c.loop-part.yielded_by _ _ c.in-Some-part.part c.in-Some-part.is c.next-in-loop-part.ensures.steps in
    let more = length_push c.loop-part.yielded c.in-Some-part.part in
    let some : is_some (child_number c.in-Some-part.part.now) ≡ true =
    ap is_some (sym c.child_number.ensures.value) ∙ c.is_none.ensures ∙ ap not c.if-is_none.false in
    record {
      can_next = search rules;
      is_finite = search rules;
      read = ap (λ at. is_some (each_of child_number (drop at (drop 1 all)))) more
          ∙ sym (each_of-goes child_number (drop 1 all) n c.in-Some-part.part.now turn some)
          ∙ c.loop-part.invariant.read;
    }

pub returns : goal.returns
returns c =
    let same : bytes_eq c.in-Some.first.now (codes "t") ≡ true = search rules in
    let text = c.args.text.now in
    let all = parts 46 text in
    let road = YieldsList-parts 46 text
    (YieldsList-from_slice_split _ (λ byte. eqb byte 46) text (cc) (cc) (cc) (λ x b q k. search (rules, tests))) in
    let first = YieldsList-others all road c.next.result c.next.new.self c.in-Some.first c.in-Some.is c.next.ensures.steps in
    let others = YieldsList-at c.into_iter-part-iterator.ensures.into_iter_gives first.1 in
    let n = length c.loop-part.yielded in
    let last = YieldsList-end others c.loop-part.yielded _ c.loop-part.yielded_by _ _ c.in-None.is c.next-in-loop-part.ensures.steps in
    let none_left = each_of-end child_number (drop 1 all) n (omega (arith, last.1)) in
    ap is_some (sym none_left) ∙ c.loop-part.invariant.read
    ∙ ap is_some (sym (task_word-children text c.in-Some.first.now (drop 1 all) first.0 same))
