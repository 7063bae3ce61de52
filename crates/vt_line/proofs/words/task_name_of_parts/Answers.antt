use Rattle.std.proofs.Common.{◌≡◌, ◌+◌, ◌≤◌, [], ◌∷◌, ◌++◌, Some, None, true, false, eqb, is_some, length, drop, sym, ap, ◌∙◌, arith, rules, tests, append-nil}
use Rattle.vt_spec.proofs.Common.{YieldsList-end, YieldsList-from_slice_split, YieldsList-turn, child_number, each_of, length_push, parts, task_word, with_first}
use Rattle.std.proofs.lemmas.Iterator.Consumers.{YieldsList-at}
use Rattle.vt_line.proofs.Splits.{YieldsList-parts, YieldsList-skipped, each_of-end, each_of-more, each_of-none, long_enough, on_err}
use Rattle.vt_line.proofs.TokenLemmas.{read_before, read_before-first}
use Rattle.vt_line.proofs.WordLemmas.{task_word-some}
use Rattle.vt_line.proofs.words.task_name_of_parts.Goals as goal

pub unreachable-requires : goal.unreachable-requires
unreachable-requires c =
    let text = c.args.text.now in
    let rest = drop 1 (parts 46 text) in
    let split = YieldsList-parts 46 text
    (YieldsList-from_slice_split _ (λ byte. eqb byte 46) text (cc) (cc) (cc) (λ x b q k. search (rules, tests))) in
    let others = YieldsList-at c.into_iter-part-iterator.ensures.into_iter_gives (YieldsList-skipped c.split.result
    (parts 46 text) split c.skip-part-items.ensures.source c.skip-part-items.ensures.count) in
    let n = length c.loop-part.yielded in
    let task = task_word-some text c.requires in
    let turn = YieldsList-turn others c.loop-part.yielded _ c.loop-part.yielded_by _ _ c.in-Some.part c.in-Some.is c.next.ensures.steps in
    let none : child_number c.in-Some.part.now ≡ None = sym c.child_number.ensures.value ∙ c.in_default.is in
    let wrong : None ≡ task_word text =
    ap (read_before c.loop-part.name) (sym (each_of-none child_number rest n c.in-Some.part.now turn none))
    ∙ c.loop-part.invariant.read ∙ sym task in
    let clash : false ≡ true = ap is_some wrong ∙ c.requires in
    cc

pub returns-in_err-name-clause-memory : goal.returns-in_err-name-clause-memory
returns-in_err-name-clause-memory c =
    let text = c.args.text.now in
    let rest = drop 1 (parts 46 text) in
    let split = YieldsList-parts 46 text
    (YieldsList-from_slice_split _ (λ byte. eqb byte 46) text (cc) (cc) (cc) (λ x b q k. search (rules, tests))) in
    let others = YieldsList-at c.into_iter-part-iterator.ensures.into_iter_gives (YieldsList-skipped c.split.result
    (parts 46 text) split c.skip-part-items.ensures.source c.skip-part-items.ensures.count) in
    let n = length c.loop-part.yielded in
    let task = task_word-some text c.requires in
    let turn = YieldsList-turn others c.loop-part.yielded _ c.loop-part.yielded_by _ _ c.in-Some.part c.in-Some.is c.next.ensures.steps in
    let count : length c.loop-part.name ≡ n = c.loop-part.invariant.count in
    let full : 8 ≤ n = grind (arith, c.in_err-name.ensures.inline) in
    on_err c.from_residual.result (long_enough child_number rest 8 (task_word text) task (omega (arith, turn.0, full)))

pub loop-part-preserved : goal.loop-part-preserved
loop-part-preserved c =
    let text = c.args.text.now in
    let rest = drop 1 (parts 46 text) in
    let split = YieldsList-parts 46 text
    (YieldsList-from_slice_split _ (λ byte. eqb byte 46) text (cc) (cc) (cc) (λ x b q k. search (rules, tests))) in
    let others = YieldsList-at c.into_iter-part-iterator.ensures.into_iter_gives (YieldsList-skipped c.split.result
    (parts 46 text) split c.skip-part-items.ensures.source c.skip-part-items.ensures.count) in
    let n = length c.loop-part.yielded in
    let task = task_word-some text c.requires in
    let turn = YieldsList-turn others c.loop-part.yielded _ c.loop-part.yielded_by _ _ c.in-Some.part c.in-Some.is c.next.ensures.steps in
    let step = each_of-more child_number rest n c.in-Some.part.now turn in
    let number = c.in-Some-child_number.number in
    let more = length_push c.loop-part.yielded c.in-Some.part in
    let name = c.loop-part.name in
    let is_number : child_number c.in-Some.part.now ≡ Some number = sym c.child_number.ensures.value
    ∙ c.in-Some-child_number.is in
    let left : each_of child_number (drop n rest)
    ≡ with_first (Some number) (each_of child_number (drop (n + 1) rest)) =
    step ∙ ap (λ first. with_first first (each_of child_number (drop (n + 1) rest))) is_number in
    record {
      can_next = search rules;
      is_finite = search rules;
      count = ap length c.in_ok-name.ensures.ok ∙ length_push name number ∙ ap (λ n. n + 1) c.loop-part.invariant.count
          ∙ sym more;
      read = ap (λ now. read_before now (each_of child_number
          (drop (length (c.loop-part.yielded ++ c.in-Some.part ∷ [])) rest))) c.in_ok-name.ensures.ok
          ∙ ap (λ at. read_before (name ++ number ∷ []) (each_of child_number (drop at rest))) more
          ∙ read_before-first name number (each_of child_number (drop (n + 1) rest)) ∙ ap (read_before name) (sym left)
          ∙ c.loop-part.invariant.read;
    }

pub returns-clause-value : goal.returns-clause-value
returns-clause-value c =
    let text = c.args.text.now in
    let rest = drop 1 (parts 46 text) in
    let split = YieldsList-parts 46 text
    (YieldsList-from_slice_split _ (λ byte. eqb byte 46) text (cc) (cc) (cc) (λ x b q k. search (rules, tests))) in
    let others = YieldsList-at c.into_iter-part-iterator.ensures.into_iter_gives (YieldsList-skipped c.split.result
    (parts 46 text) split c.skip-part-items.ensures.source c.skip-part-items.ensures.count) in
    let n = length c.loop-part.yielded in
    let task = task_word-some text c.requires in
    let last = YieldsList-end others c.loop-part.yielded _ c.loop-part.yielded_by _ _ c.in-None.is c.next.ensures.steps in
    let none_left = each_of-end child_number rest n (omega (arith, last.1)) in
    let name = c.loop-part.name in
    sym (ap Some (sym (append-nil name)) ∙ ap (read_before name) (sym none_left) ∙ c.loop-part.invariant.read
    ∙ sym task)
