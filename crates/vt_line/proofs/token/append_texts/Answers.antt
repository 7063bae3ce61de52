use Rattle.std.proofs.Common.{◌≡◌, ◌+◌, ◌-◌, [], ◌∷◌, ◌++◌, Some, None, true, cond, not, eqb, length, length-append, drop, sum, sym, ap, ◌∙◌, arith, rules, tests, append-nil}
use Rattle.vt_spec.proofs.Common.{YieldsList-end, YieldsList-from_filter, YieldsList-from_slice_split, YieldsList-turn, each_of, length_push, nat_tests, raw_tokens, token_text, with_first}
use Rattle.std.proofs.lemmas.List.Sums.{sum_by-drop_more}
use Rattle.vt_line.specs.Tokens.{cut}
use Rattle.vt_line.proofs.Splits.{each_of-end, each_of-more, each_of-none}
use Rattle.vt_line.proofs.TokenLemmas.{YieldsList-tokens, few_texts-few, few_texts-many, few_texts-wrong, read_before, read_before-first, appended, not_appended, cut-push, sum-push, tokens-length}
use Rattle.vt_line.proofs.token.append_texts.Goals as goal

pub unescape-requires : goal.unescape-requires
unescape-requires c =
    let line = c.args.line.now in
    let split = YieldsList-from_slice_split _ (λ byte. eqb byte 32) line (cc) (cc) (cc)
    (λ x b q k. search (rules, tests)) in
    let road = YieldsList-tokens line
    (YieldsList-from_filter _ (λ part. not (eqb (length part) 0)) split (cc) (λ x b q k. search (rules, tests))) in
    let n = length c.loop-token.yielded in
    let turn = YieldsList-turn road c.loop-token.yielded _ c.loop-token.yielded_by _ _ c.in-Some.token c.in-Some.is c.next.ensures.steps in
    let room = c.loop-token.invariant.room in
    let token = sum_by-drop_more length (raw_tokens line) n c.in-Some.token.now turn.0 in
    let same = ap length turn.1 in
    omega (arith, room, token, same, tokens-length line, c.requires.line)

pub returns-then-is_full-clause-value : goal.returns-then-is_full-clause-value
returns-then-is_full-clause-value c =
    let line = c.args.line.now in
    let split = YieldsList-from_slice_split _ (λ byte. eqb byte 32) line (cc) (cc) (cc)
    (λ x b q k. search (rules, tests)) in
    let road = YieldsList-tokens line
    (YieldsList-from_filter _ (λ part. not (eqb (length part) 0)) split (cc) (λ x b q k. search (rules, tests))) in
    let n = length c.loop-token.yielded in
    let turn = YieldsList-turn road c.loop-token.yielded _ c.loop-token.yielded_by _ _ c.in-Some.token c.in-Some.is c.next.ensures.steps in
    let full : eqb (length c.loop-token.sizes.items) 66 ≡ true = sym c.is_full.ensures.value ∙ c.if-is_full.true in
    let many : length c.loop-token.sizes.items ≡ 66 = grind (arith, nat_tests) in
    let count = c.loop-token.invariant.count in
    sym (few_texts-many line (omega (arith, turn.0, many, count)))

pub returns-then-not-unescape-clause-value : goal.returns-then-not-unescape-clause-value
returns-then-not-unescape-clause-value c =
    let line = c.args.line.now in
    let split = YieldsList-from_slice_split _ (λ byte. eqb byte 32) line (cc) (cc) (cc)
    (λ x b q k. search (rules, tests)) in
    let road = YieldsList-tokens line
    (YieldsList-from_filter _ (λ part. not (eqb (length part) 0)) split (cc) (λ x b q k. search (rules, tests))) in
    let n = length c.loop-token.yielded in
    let turn = YieldsList-turn road c.loop-token.yielded _ c.loop-token.yielded_by _ _ c.in-Some.token c.in-Some.is c.next.ensures.steps in
    let token = c.in-Some.token.now in
    let bytes = c.loop-token.bytes.items in
    let none : token_text token ≡ None = not_appended bytes (token_text token)
    (ap (λ done. cond done (Some c.unescape.new.text.items) None) (sym c.if-not-unescape.true)
    ∙ c.unescape.ensures.value) in
    let texts = cut bytes c.loop-token.sizes.items in
    let wrong : each_of token_text (raw_tokens line) ≡ None = sym c.loop-token.invariant.read
    ∙ ap (read_before texts) (each_of-none token_text (raw_tokens line) n token turn none) in
    sym (few_texts-wrong line wrong)

pub loop-token-preserved : goal.loop-token-preserved
loop-token-preserved c =
    let line = c.args.line.now in
    let split = YieldsList-from_slice_split _ (λ byte. eqb byte 32) line (cc) (cc) (cc)
    (λ x b q k. search (rules, tests)) in
    let road = YieldsList-tokens line
    (YieldsList-from_filter _ (λ part. not (eqb (length part) 0)) split (cc) (λ x b q k. search (rules, tests))) in
    let n = length c.loop-token.yielded in
    let turn = YieldsList-turn road c.loop-token.yielded _ c.loop-token.yielded_by _ _ c.in-Some.token c.in-Some.is c.next.ensures.steps in
    let token = c.in-Some.token.now in
    let bytes = c.loop-token.bytes.items in
    let sizes = c.loop-token.sizes.items in
    let text = appended c.unescape.new.text.items bytes (token_text token)
    (ap (λ done. cond done (Some c.unescape.new.text.items) None) (sym c.if-not-unescape.false)
    ∙ c.unescape.ensures.value) in
    let more = length_push c.loop-token.yielded c.in-Some.token in
    let longer : length c.unescape.new.text.items ≡ length bytes + length text.0 = ap length text.2
    ∙ length-append bytes text.0 in
    let size : c.len.result - c.len-start.result
    ≡ length text.0 = omega (arith, c.len.ensures.value, c.len-start.ensures.value, longer) in
    let pushed : c.push.new.self.items ≡ sizes ++ length text.0 ∷ [] = c.push.ensures.items
    ∙ ap (λ size. sizes ++ size ∷ []) size in
    let whole = c.loop-token.invariant.whole in
    let room = c.loop-token.invariant.room in
    let left_room = sum_by-drop_more length (raw_tokens line) n token turn.0 in
    let same = ap length turn.1 in
    let step = each_of-more token_text (raw_tokens line) n token turn in
    let left : each_of token_text (drop n (raw_tokens line))
    ≡ with_first (Some text.0) (each_of token_text (drop (n + 1) (raw_tokens line))) =
    step ∙ ap (λ first. with_first first (each_of token_text (drop (n + 1) (raw_tokens line)))) text.1 in
    let texts : cut c.unescape.new.text.items c.push.new.self.items ≡ cut bytes sizes ++ text.0 ∷ [] =
    ap (λ sizes. cut c.unescape.new.text.items sizes) pushed
    ∙ ap (λ bytes. cut bytes (sizes ++ length text.0 ∷ [])) text.2 ∙ cut-push bytes text.0 sizes whole in
    record {
      can_next = search rules;
      is_finite = search rules;
      count = search rules;
      few = search rules;
      room = rw more (omega (arith, room, left_room, same, c.unescape.ensures.size));
      whole = ap sum pushed ∙ sum-push sizes (length text.0) ∙ ap (λ all. all + length text.0) whole ∙ sym longer;
      read = ap (λ texts. read_before texts
          (each_of token_text (drop (length (c.loop-token.yielded ++ c.in-Some.token ∷ [])) (raw_tokens line)))) texts
          ∙ ap (λ at. read_before (cut bytes sizes ++ text.0 ∷ [])
          (each_of token_text (drop at (raw_tokens line)))) more
          ∙ read_before-first (cut bytes sizes) text.0 (each_of token_text (drop (n + 1) (raw_tokens line)))
          ∙ ap (read_before (cut bytes sizes)) (sym left) ∙ c.loop-token.invariant.read;
    }

pub returns-clause-value : goal.returns-clause-value
returns-clause-value c =
    let line = c.args.line.now in
    let split = YieldsList-from_slice_split _ (λ byte. eqb byte 32) line (cc) (cc) (cc)
    (λ x b q k. search (rules, tests)) in
    let road = YieldsList-tokens line
    (YieldsList-from_filter _ (λ part. not (eqb (length part) 0)) split (cc) (λ x b q k. search (rules, tests))) in
    let n = length c.loop-token.yielded in
    let last = YieldsList-end road c.loop-token.yielded _ c.loop-token.yielded_by _ _ c.in-None.is c.next.ensures.steps in
    let few = c.loop-token.invariant.few in
    let count = c.loop-token.invariant.count in
    let texts = cut c.loop-token.bytes.items c.loop-token.sizes.items in
    let none_left = each_of-end token_text (raw_tokens line) n (omega (arith, last.1)) in
    ap Some (sym (append-nil texts)) ∙ ap (read_before texts) (sym none_left) ∙ c.loop-token.invariant.read
    ∙ sym (few_texts-few line (omega (arith, last.1, few, count)))

pub returns-clause-whole : goal.returns-clause-whole
returns-clause-whole c = λ true. c.loop-token.invariant.whole
