use Rattle.std.proofs.Common.{take, drop, arith, length-take, length-drop}
use Rattle.std.proofs.lemmas.List.{take_rest}
use Rattle.std.proofs.Math.Seq.{take-add}
use Rattle.vt_io.specs.Sink.{Wrote}
use Rattle.vt_io.proofs.Printing.{Wrote-append}
use Rattle.vt_io.proofs.writing.write_all.Goals as goal

pub loop-done-preserved : goal.loop-done-preserved
loop-done-preserved g c =
    let h = c.in_ok-done.ensures in
    let bytes = c.args.bytes.now in
    let at = c.loop-done.done in
    let n = c.in_ok-done.field-0 in
    let seen = take_rest bytes at in
    let part : Wrote g.W.Sink c.loop-done.sink c.write.new.self (take n (drop at bytes)) = record {
      still_tells = h.still_tells;
      appended = λ t. rw seen at (h.bytes t);
      failures_kept = h.failures_kept;
    } in
    record {
      within = omega (arith, simp (length-take, length-drop) at h.count);
      wrote = rw (take-add at n bytes) (Wrote-append g.W.Sink c.loop-done.invariant.wrote part);
    }
