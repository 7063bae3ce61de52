use Rattle.std.proofs.Common.{◌≡◌, ◌+◌, ◌≤◌, [], ◌∷◌, ◌++◌, Some, None, true, false, codes, eqb, length, drop, sym, ap, ◌∙◌, arith, rules, tests, bytes_eq, append-nil}
use Rattle.vt_spec.proofs.Common.{YieldsList-end, YieldsList-from_slice_split, YieldsList-turn, each_of, identity_word, length_push, nat_tests, parts, with_first}
use Rattle.vt_line.proofs.Splits.{YieldsList-parts, each_of-more, each_of-end}
use Rattle.vt_line.proofs.TokenLemmas.{read_before, read_before-first}
use Rattle.vt_line.proofs.WordLemmas.{groups_word-few, groups_word-many, groups_word-wrong}
use Rattle.vt_line.proofs.words.groups_word.Goals as goal

pub returns-then-is_full : goal.returns-then-is_full
returns-then-is_full c =
    let text = c.args.text.now in
    let some : bytes_eq text (codes "-") ≡ false = search rules in
    let road = YieldsList-parts 44 text
    (YieldsList-from_slice_split _ (λ byte. eqb byte 44) text (cc) (cc) (cc) (λ x b q k. search (rules, tests))) in
    let turn = YieldsList-turn road c.loop-part.yielded _ c.loop-part.yielded_by _ _ c.in-Some.part c.in-Some.is c.next.ensures.steps in
    let full : eqb (length c.loop-part.groups.items) 32 ≡ true = sym c.is_full.ensures.value ∙ c.if-is_full.true in
    let many : length c.loop-part.groups.items ≡ 32 = grind (arith, nat_tests) in
    let count = c.loop-part.invariant.count in
    sym (groups_word-many text some (omega (arith, turn.0, many, count)))

pub returns-in_err-identity_word : goal.returns-in_err-identity_word
returns-in_err-identity_word c =
    let text = c.args.text.now in
    let some : bytes_eq text (codes "-") ≡ false = search rules in
    let road = YieldsList-parts 44 text
    (YieldsList-from_slice_split _ (λ byte. eqb byte 44) text (cc) (cc) (cc) (λ x b q k. search (rules, tests))) in
    let turn = YieldsList-turn road c.loop-part.yielded _ c.loop-part.yielded_by _ _ c.in-Some.part c.in-Some.is c.next.ensures.steps in
    let n = length c.loop-part.yielded in
    let step = each_of-more identity_word (parts 44 text) n c.in-Some.part.now turn in
    let unknown : identity_word c.in-Some.part.now ≡ None = sym c.in_err-identity_word.ensures in
    let left : each_of identity_word (drop n (parts 44 text)) ≡ None =
    step ∙ ap (λ first. with_first first (each_of identity_word (drop (n + 1) (parts 44 text)))) unknown in
    let read : each_of identity_word (parts 44 text) ≡ None =
    sym c.loop-part.invariant.read ∙ ap (read_before c.loop-part.groups.items) left in
    rw c.from_residual.ensures (sym (groups_word-wrong text some read))

pub loop-part-preserved : goal.loop-part-preserved
loop-part-preserved c =
    let text = c.args.text.now in
    let road = YieldsList-parts 44 text
    (YieldsList-from_slice_split _ (λ byte. eqb byte 44) text (cc) (cc) (cc) (λ x b q k. search (rules, tests))) in
    let turn = YieldsList-turn road c.loop-part.yielded _ c.loop-part.yielded_by _ _ c.in-Some.part c.in-Some.is c.next.ensures.steps in
    let n = length c.loop-part.yielded in
    let step = each_of-more identity_word (parts 44 text) n c.in-Some.part.now turn in
    let more = length_push c.loop-part.yielded c.in-Some.part in
    let groups = c.loop-part.groups.items in
    let group = c.in_ok-identity_word.field-0 in
    let left : each_of identity_word (drop n (parts 44 text))
    ≡ with_first (Some group) (each_of identity_word (drop (n + 1) (parts 44 text))) =
    step ∙ ap (λ first. with_first first (each_of identity_word (drop (n + 1) (parts 44 text))))
    (sym c.in_ok-identity_word.ensures) in
    record {
      can_next = search rules;
      is_finite = search rules;
      count = search rules;
      few = search rules;
      read = ap (λ now. read_before now (each_of identity_word
          (drop (length (c.loop-part.yielded ++ c.in-Some.part ∷ [])) (parts 44 text)))) c.push.ensures.items
          ∙ ap (λ at. read_before (groups ++ group ∷ []) (each_of identity_word (drop at (parts 44 text)))) more
          ∙ read_before-first groups group (each_of identity_word (drop (n + 1) (parts 44 text)))
          ∙ ap (read_before groups) (sym left) ∙ c.loop-part.invariant.read;
    }

pub returns : goal.returns
returns c =
    let text = c.args.text.now in
    let some : bytes_eq text (codes "-") ≡ false = search rules in
    let road = YieldsList-parts 44 text
    (YieldsList-from_slice_split _ (λ byte. eqb byte 44) text (cc) (cc) (cc) (λ x b q k. search (rules, tests))) in
    let last = YieldsList-end road c.loop-part.yielded _ c.loop-part.yielded_by _ _ c.in-None.is c.next.ensures.steps in
    let none_left = each_of-end identity_word (parts 44 text) (length c.loop-part.yielded) (omega (arith, last.1)) in
    let groups = c.loop-part.groups.items in
    let few : length (parts 44 text) ≤ 32 = omega (arith, last.1) in
    ap Some (sym (append-nil groups)) ∙ ap (read_before groups) (sym none_left) ∙ c.loop-part.invariant.read
    ∙ sym (groups_word-few text some few)
