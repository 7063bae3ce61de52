use Rattle.std.proofs.Common.{◌≡◌, ap, subst, sym, ◌∙◌, flat_map}
use Rattle.vt_spec.proofs.Common.{printed_line}
use Rattle.vt_spec.specs.Language.Printed.{printed_rows}
use Rattle.vt_io.specs.Sink.{Prints}
use Rattle.vt_request.specs.Answers.{answer_of}
use Rattle.vt_line.specs.Printing.{printed_peers}
use Rattle.vt_line.proofs.PeerLemmas.{peer_rows}
use Rattle.vt_line.proofs.print.write_rows.Goals as goal

pub returns-in-PeerList : goal.returns-in-PeerList
returns-in-PeerList g c =
    let number = c.args.number in
    let text : printed_peers number c.deref-in-PeerList.result.now
    ≡ flat_map (printed_line number) (printed_rows (answer_of c.args.answer.now)) =
    ap (printed_peers number) c.deref-in-PeerList.ensures.value ∙ sym (peer_rows number c.in-PeerList.lines.items)
    ∙ ap (λ answer. flat_map (printed_line number) (printed_rows (answer_of answer))) (sym c.in-PeerList.is) in
    record {
      printed = subst (λ text. Prints g.W.Sink text c.write_peers.result c.args.sink.now c.write_peers.new.sink) text
          c.write_peers.ensures.printed;
    }
