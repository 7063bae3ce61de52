use Rattle.std.proofs.Common.{ap, rules}
use Rattle.vt_spec.proofs.Common.{peer_line_words, printed_line}
use Rattle.vt_io.specs.Sink.{WroteFront}
use Rattle.vt_io.proofs.Printing.{WroteFront-item}
use Rattle.vt_request.specs.Answers.{peer_line_of}
use Rattle.vt_request.specs.declared.answer.PeerLine.{PeerLine}
use Rattle.vt_line.specs.Printing.{printed_peers}
use Rattle.vt_line.proofs.peers.write_peers.Goals as goal

pub returns-in_err-write_peer_line : goal.returns-in_err-write_peer_line
returns-in_err-write_peer_line g c =
    let number = c.args.number in
    let lines = c.args.lines.now in
    let front : WroteFront g.W.Sink c.args.sink.now c.write_peer_line.new.sink (printed_peers number lines) =
    WroteFront-item g.W.Sink (λ (line : PeerLine). printed_line number (peer_line_words (peer_line_of line))) lines
    c.loop-line.line-index c.line-item.result c.loop-line.invariant c.loop-line-test.true
    c.in_err-write_peer_line.ensures.printed
    (ap (λ (line : PeerLine). printed_line number (peer_line_words (peer_line_of line))) c.line-item.is) in
    search rules
