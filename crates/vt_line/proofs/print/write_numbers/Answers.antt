use Rattle.std.proofs.Common.{[], ◌++◌, ◌∷◌, ◌≡◌, ◌∙◌, ap, decimal, get_or, rules, append-nil}
use Rattle.vt_io.specs.Sink.{WroteFront}
use Rattle.vt_io.proofs.Printing.{WroteFront-item}
use Rattle.vt_line.specs.Printing.{printed_numbers}
use Rattle.vt_line.proofs.print.write_numbers.Goals as goal

pub returns-in_err-write_parts : goal.returns-in_err-write_parts
returns-in_err-write_parts g c =
    let numbers = c.args.numbers.now in
    let at = c.loop-number.number-index in
    let digits : c.as_bytes.result.now ≡ decimal (get_or numbers at 0) = search rules in
    let item : 46 ∷ (c.as_bytes.result.now ++ [])
    ≡ 46 ∷ decimal (get_or numbers at 0) = ap (λ text. 46 ∷ text) (append-nil c.as_bytes.result.now ∙ digits) in
    let front : WroteFront g.W.Sink c.args.sink.now c.write_parts.new.sink (printed_numbers numbers) =
    WroteFront-item g.W.Sink (λ number. 46 ∷ decimal number) numbers at 0 c.loop-number.invariant c.loop-number-test.true c.in_err-write_parts.ensures.printed item in
    search rules
