use Rattle.std.proofs.Common.{◌≡◌, ◌+◌, ◌++◌, ◌∷◌, ◌∙◌, Some, [], ap, arith, codes, cond, false, length, length-append, rules, sym, bytes_eq}
use Rattle.vt_spec.proofs.Common.{Between, token_text}
use Rattle.vt_spec.specs.Language.Script.{spelled}
use Rattle.vt_line.proofs.Escapes.{read-last, read-run, read_before-byte}
use Rattle.vt_line.proofs.TokenLemmas.{read_before}
use Rattle.vt_line.proofs.token.unescape.Goals as goal

pub returns-then-is_empty-clause-value : goal.returns-then-is_empty-clause-value
returns-then-is_empty-clause-value c =
    let token = c.args.token.now in
    let so_far = c.loop-byte.invariant in
    let split = c.split_plain.ensures in
    let some : bytes_eq token (codes "\\e") ≡ false = search rules in
    let text : spelled Between token ≡ token_text token =
    sym (ap (λ empty. cond empty (Some []) (spelled Between token)) some) in
    let none : length c.split_plain.result.1.now ≡ 0 = search rules in
    ap Some c.in-Ok.ensures.ok ∙ sym (read-last _ _ _ _ split.whole split.plain none) ∙ so_far.read
    ∙ ap (read_before c.args.text.now.items) text

pub returns-in_default-split_escape-clause-value : goal.returns-in_default-split_escape-clause-value
returns-in_default-split_escape-clause-value c =
    let token = c.args.token.now in
    let so_far = c.loop-byte.invariant in
    let split = c.split_plain.ensures in
    let some : bytes_eq token (codes "\\e") ≡ false = search rules in
    let text : spelled Between token ≡ token_text token =
    sym (ap (λ empty. cond empty (Some []) (spelled Between token)) some) in
    let before = c.loop-byte.text.items ++ c.split_plain.result.0.now in
    let run = read-run c.loop-byte.text.items _ _ _ split.whole split.plain in
    sym (run ∙ ap (read_before before) c.in_default-split_escape.ensures.spelled) ∙ so_far.read
    ∙ ap (read_before c.args.text.now.items) text

pub loop-byte-preserved : goal.loop-byte-preserved
loop-byte-preserved c =
    let before = c.loop-byte.text.items in
    let plain = c.split_plain.result.0.now in
    let others = c.split_plain.result.1.now in
    let byte = c.in-Some.byte in
    let after = c.in-Some.after.now in
    let so_far = c.loop-byte.invariant in
    let split = c.split_plain.ensures in
    let text : c.push.new.self.items ≡ (before ++ plain) ++ byte ∷ [] =
    c.push.ensures.items ∙ ap (λ text. text ++ byte ∷ []) c.in-Ok.ensures.ok in
    let parts : length plain + length others ≡ length c.loop-byte.rest.now =
    sym (length-append plain others) ∙ ap length split.whole in
    let count : length c.push.new.self.items ≡ length before + length plain + 1 = ap length text
    ∙ length-append (before ++ plain) (byte ∷ []) ∙ ap (λ n. n + 1) (length-append before plain) in
    record {
      size = omega (arith, so_far.size, parts, count, c.in-Some.ensures.shorter);
      read = ap (λ text. read_before text (spelled Between after)) text
          ∙ read_before-byte (before ++ plain) byte (spelled Between after)
          ∙ ap (read_before (before ++ plain)) (sym c.in-Some.ensures.spelled)
          ∙ sym (read-run before plain others _ split.whole split.plain) ∙ so_far.read;
    }
