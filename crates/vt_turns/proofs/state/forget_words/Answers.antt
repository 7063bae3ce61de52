use Rattle.std.proofs.Common.{◌<◌, ◌∙◌, ap, arith, length}
use Rattle.std.specs.Prelude.{slice_set}
use Rattle.vt_queues.proofs.Shortening.{next_changed}
use Rattle.vt_turns.specs.Kept.{without_words}
use Rattle.vt_turns.proofs.state.forget_words.Goals as goal

pub loop-held-preserved : goal.loop-held-preserved
loop-held-preserved c =
    let within : c.loop-held.held-index < length c.args.under_way.now.items =
    omega (arith, c.deref_mut-held-items.ensures.len) in
    ap (slice_set c.loop-held.held-items c.loop-held.held-index) c.forget_words.ensures
    ∙ next_changed without_words c.args.under_way.now.items c.loop-held.held-items c.loop-held.held-index
    c.held-item.result within c.loop-held.invariant
