use Rattle.std.proofs.Common.{◌≡◌, ◌++◌, ap, codes, decimal, subst, rules}
use Rattle.vt_io.specs.Sink.{WroteFront}
use Rattle.vt_io.proofs.Printing.{WroteFront-longer}
use Rattle.vt_line.specs.Printing.{printed_names}
use Rattle.vt_line.proofs.print.write_listed.Goals as goal

pub returns-in_err-write_parts : goal.returns-in_err-write_parts
returns-in_err-write_parts g c =
    let digits : c.as_bytes.result.now ≡ decimal c.args.number = search rules in
    let rest = printed_names c.args.names.now in
    let front : WroteFront g.W.Sink c.args.sink.now c.write_parts.new.sink
    (((decimal c.args.number ++ codes " ok") ++ rest) ++ codes "\n") =
    subst (WroteFront g.W.Sink c.args.sink.now c.write_parts.new.sink)
    (ap (λ digits. ((digits ++ codes " ok") ++ rest) ++ codes "\n") digits)
    (WroteFront-longer g.W.Sink (codes "\n") (WroteFront-longer g.W.Sink rest c.in_err-write_parts.ensures.printed)) in
    search rules
