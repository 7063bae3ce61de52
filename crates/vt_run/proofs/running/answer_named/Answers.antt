use Rattle.std.proofs.Common.{◌≡◌, [], ap, ◌∙◌}
use Rattle.std.specs.Io.KnownBytes.{append_known}
use Rattle.vt_line.specs.Versions.{version_of}
use Rattle.vt_run.proofs.HandedOn.{handed_on, known_mapped}
use Rattle.vt_run.proofs.running.answer_named.Goals as goal

pub returns-in-Ok-Ok-clause-answers : goal.returns-in-Ok-Ok-clause-answers
returns-in-Ok-Ok-clause-answers g c =
    let remaining = g.R.Read.remaining in
    let contents = g.W.Write.contents in
    let inner = known_mapped _ c.with_capacity-buffered.result c.map_err.result c.in_ok-map_err.field-0
    (λ w. w.inner ≡ c.args.output) c.map_err.ensures.cases c.map_err.ensures.variant c.in_ok-map_err.was
    c.with_capacity-buffered.ensures.inner in
    let empty = known_mapped _ c.with_capacity-buffered.result c.map_err.result c.in_ok-map_err.field-0
    (λ w. w.buf.items ≡ []) c.map_err.ensures.cases c.map_err.ensures.variant c.in_ok-map_err.was
    c.with_capacity-buffered.ensures.empty in
    handed_on (version_of c.args.script.version) (remaining c.args.script.reader) (contents c.args.output) (contents c.in-Ok-Ok.writer)
    (rw c.in-Ok-Ok.is-0 at c.answer-outcome.ensures.ok)
    (ap remaining ((λ i. (c.new-source.ensures i).reader.now.device) ∙ c.new-reader.ensures))
    ((λ i. append_known (contents (c.new-sink.ensures i).writer.inner) (c.new-sink.ensures i).writer.buf.items)
    ∙ (λ i. append_known (contents (inner i)) (empty i)))
    (λ i. append_known (contents (c.into_inner.ensures i).inner) (c.into_inner.ensures i).buf.items)
    (rw c.in-Ok-Ok.is-1 at c.into_inner-handed_on.ensures.ok)
