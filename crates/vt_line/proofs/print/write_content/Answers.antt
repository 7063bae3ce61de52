use Rattle.std.proofs.Common.{◌≡◌, ◌<◌, [], ◌∷◌, ◌++◌, codes, decimal, length, refl, subst, ◌∙◌, arith, rules, append_assoc}
use Rattle.vt_spec.proofs.Common.{nat_tests, printed_line, printed_text}
use Rattle.vt_io.specs.Sink.{Prints, WroteFront}
use Rattle.vt_io.proofs.Printing.{Prints-append, Wrote-append, WroteFront-longer, WroteFront-part}
use Rattle.vt_line.proofs.PrintLemmas.{content_line, printed_text-plain}
use Rattle.vt_line.proofs.print.write_content.Goals as goal

pub returns-then-not-is_empty : goal.returns-then-not-is_empty
returns-then-not-is_empty g c =
    let digits : c.as_bytes-digits.result.now ≡ decimal c.args.number = search rules in
    let plain = c.split_plain.result.0.now in
    let others = c.split_plain.result.1.now in
    let none : length others ≡ 0 =
    let test = c.is_empty.ensures in let is = c.if-is_empty.true in grind (arith, nat_tests) in
    let some : 0 < length plain =
    let test = c.is_empty-then-is_empty.ensures in let is = c.if-not-is_empty.true in grind (arith, nat_tests) in
    let printed = printed_text-plain plain others c.args.text.now c.split_plain.ensures.whole c.split_plain.ensures.plain none some in
    record {
      printed = subst (λ line. Prints g.W.Sink line c.write_parts.result c.args.sink.now c.write_parts.new.sink)
          (content_line c.as_bytes-digits.result.now plain c.args.text.now c.args.number digits printed)
          c.write_parts.ensures.printed;
    }

pub returns-in_err-write_parts : goal.returns-in_err-write_parts
returns-in_err-write_parts g c =
    let digits : c.as_bytes-digits.result.now ≡ decimal c.args.number = search rules in
    let text = printed_text c.args.text.now in
    let line = append_assoc c.as_bytes-digits.result.now (codes " ok ") (text ++ codes "\n")
    ∙ content_line c.as_bytes-digits.result.now text c.args.text.now c.args.number digits refl in
    let front : WroteFront g.W.Sink c.args.sink.now c.write_parts-2.new.sink
    (printed_line c.args.number (codes "ok" ∷ text ∷ [])) =
    subst (WroteFront g.W.Sink c.args.sink.now c.write_parts-2.new.sink) line
    (WroteFront-longer g.W.Sink (text ++ codes "\n") c.in_err-write_parts.ensures.printed) in
    search rules

pub returns-in_err-write_text : goal.returns-in_err-write_text
returns-in_err-write_text g c =
    let digits : c.as_bytes-digits.result.now ≡ decimal c.args.number = search rules in
    let text = printed_text c.args.text.now in
    let line = append_assoc c.as_bytes-digits.result.now (codes " ok ") (text ++ codes "\n")
    ∙ content_line c.as_bytes-digits.result.now text c.args.text.now c.args.number digits refl in
    let front : WroteFront g.W.Sink c.args.sink.now c.write_text.new.sink
    (printed_line c.args.number (codes "ok" ∷ text ∷ [])) =
    WroteFront-part g.W.Sink (codes "\n") c.in_ok-write_parts.ensures.printed c.in_err-write_text.ensures.printed line in
    search rules

pub returns : goal.returns
returns g c =
    let digits : c.as_bytes-digits.result.now ≡ decimal c.args.number = search rules in
    let text = printed_text c.args.text.now in
    let line = append_assoc (c.as_bytes-digits.result.now ++ codes " ok ") text (codes "\n")
    ∙ append_assoc c.as_bytes-digits.result.now (codes " ok ") (text ++ codes "\n")
    ∙ content_line c.as_bytes-digits.result.now text c.args.text.now c.args.number digits refl in
    let before = Wrote-append g.W.Sink c.in_ok-write_parts.ensures.printed c.in_ok-write_text.ensures.printed in
    record {
      printed = subst (λ line. Prints g.W.Sink line c.write_all.result c.args.sink.now c.write_all.new.sink) line
          (Prints-append g.W.Sink c.write_all.new.sink (codes "\n") c.write_all.result before c.write_all.ensures.printed);
    }
