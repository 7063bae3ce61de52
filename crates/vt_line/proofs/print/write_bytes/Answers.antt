use Rattle.std.proofs.Common.{◌++◌, ◌∙◌, append_assoc, rules, arith, flat_map}
use Rattle.vt_spec.proofs.Common.{printed_byte}
use Rattle.vt_io.specs.Sink.{WroteFront}
use Rattle.vt_io.proofs.Printing.{Wrote-append, WroteFront-part}
use Rattle.vt_line.proofs.PrintLemmas.{escape, printed-front, printed-last, printed-escape}
use Rattle.vt_line.proofs.print.write_bytes.Goals as goal

pub returns-in_err-write_all : goal.returns-in_err-write_all
returns-in_err-write_all g c =
    let text = c.args.text.now in
    let so_far = c.loop-byte.invariant in
    let split = c.split_plain.ensures in
    let whole = printed-front so_far.0 _ _ _ text so_far.2 split.whole split.plain in
    let front : WroteFront g.W.Sink c.args.sink.now c.write_all.new.sink (flat_map printed_byte text) =
    WroteFront-part g.W.Sink _ so_far.1 c.in_err-write_all.ensures.printed whole in
    search rules

pub returns-in_default : goal.returns-in_default
returns-in_default g c =
    let text = c.args.text.now in
    let so_far = c.loop-byte.invariant in
    let split = c.split_plain.ensures in
    let whole = printed-last so_far.0 _ _ _ text so_far.2 split.whole split.plain c.in_default.ensures.cases in
    record { printed = rw (← whole) (Wrote-append g.W.Sink so_far.1 c.in_ok-write_all.ensures.printed) }

pub returns-in_err-write_escape : goal.returns-in_err-write_escape
returns-in_err-write_escape g c =
    let text = c.args.text.now in
    let so_far = c.loop-byte.invariant in
    let split = c.split_plain.ensures in
    let first = c.in-Some.ensures.cases in
    let whole = printed-escape so_far.0 _ _ _ text c.in-Some.after.now c.in-Some.byte.now so_far.2 split.whole split.plain first.0 (split.stops (omega arith)) in
    let before = Wrote-append g.W.Sink so_far.1 c.in_ok-write_all.ensures.printed in
    let front : WroteFront g.W.Sink c.args.sink.now c.write_escape.new.sink (flat_map printed_byte text) =
    WroteFront-part g.W.Sink _ before c.in_err-write_escape.ensures.printed whole in
    search rules

pub loop-byte-preserved : goal.loop-byte-preserved
loop-byte-preserved g c =
    let text = c.args.text.now in
    let so_far = c.loop-byte.invariant in
    let split = c.split_plain.ensures in
    let first = c.in-Some.ensures.cases in
    let whole = printed-escape so_far.0 _ _ _ text c.in-Some.after.now c.in-Some.byte.now so_far.2 split.whole split.plain first.0 (split.stops (omega arith)) in
    let before = Wrote-append g.W.Sink so_far.1 c.in_ok-write_all.ensures.printed in (
      _,
      Wrote-append g.W.Sink before c.in_ok-write_escape.ensures.printed,
      append_assoc
          (so_far.0 ++ c.split_plain.result.0.now) (escape c.in-Some.byte.now) (flat_map printed_byte c.in-Some.after.now)
          ∙ whole,
    )
