use Rattle.std.proofs.Common.{length}
use Rattle.vt_line.proofs.TokenLemmas.{some-length}
use Rattle.vt_line.proofs.PrintLemmas.{printed_text-some}
use Rattle.vt_line.proofs.print.write_text.Goals as goal

pub returns : goal.returns
returns g c =
    let text = c.args.text.now in
    let some = some-length (length text) c.is_empty.ensures c.if-is_empty.false in
    record { printed = rw (printed_text-some text some) c.write_bytes.ensures.printed }
