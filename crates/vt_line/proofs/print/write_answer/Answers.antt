use Rattle.std.proofs.Common.{◌∷◌, ◌++◌, ◌∙◌, ap, codes, decimal, subst, sym}
use Rattle.vt_spec.proofs.Common.{printed_line, printed_value}
use Rattle.vt_io.specs.Sink.{Prints}
use Rattle.vt_request.specs.Answers.{answer_of}
use Rattle.vt_line.specs.Printing.{printed_names}
use Rattle.vt_line.proofs.PrintLemmas.{child_line, listed_line}
use Rattle.vt_line.proofs.print.write_answer.Goals as goal

pub returns-in-Names : goal.returns-in-Names
returns-in-Names g c =
    let number = c.args.number in
    let text = ap (λ names. ((decimal number ++ codes " ok") ++ printed_names names) ++ codes "\n") c.deref-in-Names.ensures.value
    ∙ listed_line number c.in-Names.names.items
    ∙ ap (λ answer. printed_line number (codes "ok" ∷ printed_value (answer_of answer))) (sym c.in-Names.is) in
    record {
      printed = subst (λ text. Prints g.W.Sink text c.write_listed.result c.args.sink.now c.write_listed.new.sink) text
          c.write_listed.ensures.printed;
    }

pub returns-in-Child : goal.returns-in-Child
returns-in-Child g c =
    let text = child_line c.args.number c.in-Child.name
    ∙ ap (λ answer. printed_line c.args.number (codes "ok" ∷ printed_value (answer_of answer))) (sym c.in-Child.is) in
    record {
      printed = subst (λ text. Prints g.W.Sink text c.write_child.result c.args.sink.now c.write_child.new.sink) text
          c.write_child.ensures.printed;
    }
