use Rattle.std.proofs.Common.{◌≡◌, ◌+◌, ◌-◌, ◌*◌, ◌<◌, drop, get_or, sym, ap, arith}
use Rattle.vt_spec.proofs.Common.{at_drop_more, value_from}
use Rattle.vt_line.proofs.NumberLemmas.{value_from-grows, number_in-large, digit-value}
use Rattle.vt_line.proofs.number.number.Goals as goal

pub returns-then-from-value : goal.returns-then-from-value
returns-then-from-value c =
    let text = c.args.text.now in
    let at = c.loop-byte.byte-index in
    let base = c.args.base in
    let value = base * c.loop-byte.value + (get_or text at 0 - 48) in
    let step : value_from base c.loop-byte.value (drop at text) ≡ value_from base value (drop (at + 1) text) =
    at_drop_more (value_from base c.loop-byte.value) text at 0 (omega arith) in
    let grown = value_from-grows base value (drop (at + 1) text) c.requires.some_base in
    let digit = digit-value _ (get_or text at 0 - 48) _ c.digit_below.ensures c.in_ok-digit.was in
    let large : c.args.limit < value_from base 0 text = omega
    (arith, digit, ap (λ b. b * c.loop-byte.value) c.from.ensures) in
    sym (number_in-large base c.args.most c.args.limit text large)
