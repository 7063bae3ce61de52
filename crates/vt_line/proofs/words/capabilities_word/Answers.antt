use Rattle.std.proofs.Common.{◌≡◌, ◌+◌, [], ◌∷◌, ◌++◌, Some, None, option_map, false, codes, eqb, length, drop, sym, ap, ◌∙◌, arith, rules, tests, bytes_eq}
use Rattle.vt_spec.proofs.Common.{YieldsList-end, YieldsList-from_slice_split, YieldsList-turn, capability_named, each_of, length_push, parts, with_first}
use Rattle.std.specs.Int.Bits.{bit_or, or_zero_r}
use Rattle.vt_spec.specs.Language.Calls.CapabilityWord.{These}
use Rattle.vt_cred.specs.Caps.{capability_bits}
use Rattle.vt_line.proofs.Splits.{YieldsList-parts, each_of-more, each_of-end}
use Rattle.vt_line.proofs.WordLemmas.{united, united-more, capabilities_word-names}
use Rattle.vt_line.proofs.words.capabilities_word.Goals as goal

pub returns : goal.returns
returns c =
    let text = c.args.text.now in
    let none : bytes_eq text (codes "-") ≡ false = search rules in
    let held : bytes_eq text (codes "*") ≡ false = search rules in
    let road = YieldsList-parts 44 text
    (YieldsList-from_slice_split _ (λ byte. eqb byte 44) text (cc) (cc) (cc) (λ x b q k. search (rules, tests))) in
    let last = YieldsList-end road c.loop-name.yielded _ c.loop-name.yielded_by _ _ c.in-None.is c.next.ensures.steps in
    let none_left = each_of-end capability_named (parts 44 text) (length c.loop-name.yielded) (omega (arith, last.1)) in
    let caps = capability_bits c.loop-name.caps in
    let read : Some caps ≡ united 0 (each_of capability_named (parts 44 text)) =
    ap Some (sym (or_zero_r caps)) ∙ ap (united caps) (sym none_left) ∙ c.loop-name.invariant.read in
    ap (option_map These) read ∙ sym (capabilities_word-names text none held)

pub returns-in_err-capability_named : goal.returns-in_err-capability_named
returns-in_err-capability_named c =
    let text = c.args.text.now in
    let none : bytes_eq text (codes "-") ≡ false = search rules in
    let held : bytes_eq text (codes "*") ≡ false = search rules in
    let road = YieldsList-parts 44 text
    (YieldsList-from_slice_split _ (λ byte. eqb byte 44) text (cc) (cc) (cc) (λ x b q k. search (rules, tests))) in
    let turn = YieldsList-turn road c.loop-name.yielded _ c.loop-name.yielded_by _ _ c.in-Some.name c.in-Some.is c.next.ensures.steps in
    let step = each_of-more capability_named (parts 44 text) (length c.loop-name.yielded) c.in-Some.name.now turn in
    let n = length c.loop-name.yielded in
    let unknown : capability_named c.in-Some.name.now ≡ None = sym c.in_err-capability_named.ensures in
    let left : each_of capability_named (drop n (parts 44 text)) ≡ None =
    step ∙ ap (λ first. with_first first (each_of capability_named (drop (n + 1) (parts 44 text)))) unknown in
    let read : None ≡ united 0 (each_of capability_named (parts 44 text)) =
    ap (united (capability_bits c.loop-name.caps)) (sym left) ∙ c.loop-name.invariant.read in
    rw c.from_residual.ensures (ap (option_map These) read ∙ sym (capabilities_word-names text none held))

pub loop-name-preserved : goal.loop-name-preserved
loop-name-preserved c =
    let text = c.args.text.now in
    let road = YieldsList-parts 44 text
    (YieldsList-from_slice_split _ (λ byte. eqb byte 44) text (cc) (cc) (cc) (λ x b q k. search (rules, tests))) in
    let turn = YieldsList-turn road c.loop-name.yielded _ c.loop-name.yielded_by _ _ c.in-Some.name c.in-Some.is c.next.ensures.steps in
    let step = each_of-more capability_named (parts 44 text) (length c.loop-name.yielded) c.in-Some.name.now turn in
    let n = length c.loop-name.yielded in
    let more = length_push c.loop-name.yielded c.in-Some.name in
    let caps = capability_bits c.loop-name.caps in
    let set = capability_bits c.in_ok-capability_named.field-0 in
    let left : each_of capability_named (drop n (parts 44 text))
    ≡ with_first (Some set) (each_of capability_named (drop (n + 1) (parts 44 text))) =
    step ∙ ap (λ first. with_first first (each_of capability_named (drop (n + 1) (parts 44 text))))
    (sym c.in_ok-capability_named.ensures) in
    record {
      can_next = search rules;
      is_finite = search rules;
      read = ap (λ all. united all (each_of capability_named
          (drop (length (c.loop-name.yielded ++ c.in-Some.name ∷ [])) (parts 44 text)))) (c.union-caps.ensures tt)
          ∙ ap (λ at. united (bit_or caps set) (each_of capability_named (drop at (parts 44 text)))) more
          ∙ united-more caps set (each_of capability_named (drop (n + 1) (parts 44 text))) ∙ ap (united caps) (sym left)
          ∙ c.loop-name.invariant.read;
    }
