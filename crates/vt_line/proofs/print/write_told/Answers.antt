use Rattle.std.proofs.Common.{◌∷◌, ◌++◌, codes, subst, rules}
use Rattle.vt_spec.proofs.Common.{printed_line, spaced}
use Rattle.vt_spec.specs.Language.Printed.{stat_words}
use Rattle.vt_io.specs.Sink.{Prints, WroteFront}
use Rattle.vt_io.proofs.Printing.{Prints-append, WroteFront-longer}
use Rattle.vt_request.specs.Answers.{stat_line_of}
use Rattle.vt_line.specs.Printing.{further_words}
use Rattle.vt_line.proofs.PrintLemmas.{told_line}
use Rattle.vt_line.proofs.print.write_told.Goals as goal

pub returns-in_err-write_owner : goal.returns-in_err-write_owner
returns-in_err-write_owner g c =
    let line = c.args.line.now in
    let rest = spaced (further_words line.kind (stat_line_of line)) ++ codes "\n" in
    let text = told_line c.args.number c.kind_text.result.now line.kind (stat_line_of line) c.kind_text.ensures in
    let front : WroteFront g.W.Sink c.args.sink.now c.write_owner.new.sink
    (printed_line c.args.number (codes "ok" ∷ stat_words line.kind (stat_line_of line))) =
    subst (WroteFront g.W.Sink c.args.sink.now c.write_owner.new.sink) text
    (WroteFront-longer g.W.Sink rest c.in_err-write_owner.ensures.printed) in
    search rules

pub returns : goal.returns
returns g c =
    let line = c.args.line.now in
    let rest = spaced (further_words line.kind (stat_line_of line)) ++ codes "\n" in
    let text = told_line c.args.number c.kind_text.result.now line.kind (stat_line_of line) c.kind_text.ensures in
    record {
      printed = subst (λ text. Prints g.W.Sink text c.write_further.result c.args.sink.now c.write_further.new.sink) text
          (Prints-append g.W.Sink c.write_further.new.sink rest c.write_further.result c.in_ok-write_owner.ensures.printed c.write_further.ensures.printed);
    }
