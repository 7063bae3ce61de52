use Rattle.std.proofs.Common.{◌≡◌, ◌+◌, ◌++◌, ◌∙◌, ap, append_assoc, drop, rules, sym}
use Rattle.vt_io.specs.Sink.{WroteFront}
use Rattle.vt_io.proofs.Printing.{Wrote-append, WroteFront-part}
use Rattle.vt_line.specs.Printing.{printed_mounts}
use Rattle.vt_line.proofs.ListingLemmas.{printed_from, printed_from-more, printed_mount}
use Rattle.vt_line.proofs.listing.write_mounts.Goals as goal

pub returns-in_err-write_mount : goal.returns-in_err-write_mount
returns-in_err-write_mount g c =
    let inv = c.loop-line.invariant in
    let lines = c.args.lines.now in
    let at = c.loop-line.line-index in
    let place = c.loop-line.place + 1 in
    let line = c.line-item.result in
    let number = c.args.number in
    let after = printed_from number (place + 1) (drop (at + 1) lines) in
    let more : printed_mount number place line ++ after ≡ printed_from number place (drop at lines) =
    ap (λ line. printed_mount number place line ++ after) c.line-item.is
    ∙ sym (printed_from-more number place lines at line c.loop-line-test.true) in
    let front : WroteFront g.W.Sink c.args.sink.now c.write_mount.new.sink (printed_mounts number lines) =
    WroteFront-part g.W.Sink after inv.wrote c.in_err-write_mount.ensures.printed
    (ap (λ rest. inv.done ++ rest) more ∙ inv.split) in
    search rules

pub loop-line-preserved : goal.loop-line-preserved
loop-line-preserved g c =
    let inv = c.loop-line.invariant in
    let lines = c.args.lines.now in
    let at = c.loop-line.line-index in
    let place = c.loop-line.place + 1 in
    let line = c.line-item.result in
    let number = c.args.number in
    let after = printed_from number (place + 1) (drop (at + 1) lines) in
    let more : printed_mount number place line ++ after ≡ printed_from number place (drop at lines) =
    ap (λ line. printed_mount number place line ++ after) c.line-item.is
    ∙ sym (printed_from-more number place lines at line c.loop-line-test.true) in
    record {
      counted = ap (λ n. n + 1) inv.counted;
      done = inv.done ++ printed_mount number place line;
      wrote = Wrote-append g.W.Sink inv.wrote c.in_ok-write_mount.ensures.printed;
      split = append_assoc inv.done (printed_mount number place line) after ∙ ap (λ rest. inv.done ++ rest) more
          ∙ inv.split;
    }
