use Rattle.std.proofs.Common.{◌≡◌, ℕ, ◌+◌, List, [], ◌++◌, Bor, take, get_or, sym, ap, ◌∙◌, subst, rules, append_assoc}
use Rattle.std.proofs.lemmas.List.{append-nil}
use Rattle.std.specs.List.{flat_map}
use Rattle.vt_io.specs.Sink.{Wrote, WroteFront}
use Rattle.vt_io.proofs.Printing.{Wrote-nothing, Wrote-append, WroteFront-held, flat_map_more, printing_items}
use Rattle.vt_io.proofs.writing.write_parts.Goals as goal
use Rattle.vt_io.proofs.writing.write_parts.Goals.{then-is_err+in_ok-write_all+in_ok-write_all-2, else-is_err}

abbrev text_of : Bor (List ℕ) → List ℕ
text_of part = part.now

pub loop-part-init : goal.loop-part-init
loop-part-init g c = record { written = []; wrote = Wrote-nothing g.W.Sink c.args.sink.now; all = c.new-held.ensures }

pub returns-in_err-write_all : goal.returns-in_err-write_all
returns-in_err-write_all g c =
    let kept : c.try_extend_from_slice.new.self ≡ c.loop-part.held = search rules in
    let held : c.as_slice.result.now ≡ c.loop-part.held.items = let value = c.as_slice.ensures.value in cc in
    let inv = c.loop-part.invariant in
    let front : WroteFront g.W.Sink c.args.sink.now c.write_all.new.sink (flat_map text_of c.args.parts.now) =
    WroteFront-held g.W.Sink text_of c.args.parts.now c.loop-part.part-index inv.wrote c.in_err-write_all.ensures.printed
    (ap (λ last. inv.written ++ last) held ∙ inv.all) in
    search rules

pub returns-in_err-write_all-2 : goal.returns-in_err-write_all-2
returns-in_err-write_all-2 g c =
    let kept : c.try_extend_from_slice.new.self ≡ c.loop-part.held = search rules in
    let held : c.as_slice.result.now ≡ c.loop-part.held.items = let value = c.as_slice.ensures.value in cc in
    let inv = c.loop-part.invariant in
    let before : Wrote g.W.Sink c.args.sink.now c.write_all.new.sink
    (flat_map text_of (take c.loop-part.part-index c.args.parts.now)) =
    subst (Wrote g.W.Sink c.args.sink.now c.write_all.new.sink) (ap (λ last. inv.written ++ last) held ∙ inv.all)
    (Wrote-append g.W.Sink inv.wrote c.in_ok-write_all.ensures.printed) in
    search (rules, printing_items)

pub loop-part-preserved : goal.loop-part-preserved
loop-part-preserved g c =
    let inv = c.loop-part.invariant in
    let parts = c.args.parts.now in
    let i = c.loop-part.part-index in
    let part = get_or parts i (record { ref_ptr = (0, 0); now = [] }) in
    let more = flat_map_more text_of parts i (record { ref_ptr = (0, 0); now = [] }) c.loop-part-test.true in
    elim c.if-is_err.branch [
      | then-is_err+in_ok-write_all+in_ok-write_all-2 w ↦
          let kept : c.try_extend_from_slice.new.self ≡ c.loop-part.held = search rules in
          let held : w.as_slice.result.now ≡ c.loop-part.held.items = let value = w.as_slice.ensures.value in cc in
          let before : Wrote g.W.Sink c.args.sink.now w.write_all.new.sink (flat_map text_of (take i parts)) =
          subst (Wrote g.W.Sink c.args.sink.now w.write_all.new.sink) (ap (λ last. inv.written ++ last) held ∙ inv.all)
          (Wrote-append g.W.Sink inv.wrote w.in_ok-write_all.ensures.printed) in
          let now : Wrote g.W.Sink c.args.sink.now w.write_all-then-is_err.new.sink (flat_map text_of (take (i + 1) parts)) =
          subst (Wrote g.W.Sink c.args.sink.now w.write_all-then-is_err.new.sink) (sym more)
          (Wrote-append g.W.Sink before w.in_ok-write_all-2.ensures.printed) in
          let none : c.if-is_err.held.items ≡ [] = let is = w.held-is in let empty = w.clear.ensures in cc in
          record {
            written = flat_map text_of (take (i + 1) parts);
            wrote = subst (λ sink. Wrote g.W.Sink c.args.sink.now sink (flat_map text_of (take (i + 1) parts))) (sym w.sink-is) now;
            all = ap (λ last. flat_map text_of (take (i + 1) parts) ++ last) none
                ∙ append-nil (flat_map text_of (take (i + 1) parts));
          }
      | else-is_err w ↦
          let longer : c.try_extend_from_slice.new.self.items ≡ c.loop-part.held.items ++ part.now = search rules in
          let held : c.if-is_err.held.items ≡ c.loop-part.held.items ++ part.now = let is = w.held-is in cc in
          record {
            written = inv.written;
            wrote = subst (λ sink. Wrote g.W.Sink c.args.sink.now sink inv.written) (sym w.sink-is) inv.wrote;
            all = ap (λ last. inv.written ++ last) held ∙ sym (append_assoc inv.written c.loop-part.held.items part.now)
                ∙ ap (λ before. before ++ part.now) inv.all ∙ sym more;
          }
    ]
