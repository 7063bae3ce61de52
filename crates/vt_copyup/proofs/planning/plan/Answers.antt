use Rattle.std.proofs.Common.{arith, ◌≡◌, ◌∷◌, ◌∙◌, ◌<◌, ◌+◌, ap, length, List, reverse, slice_get, subst, sym, take}
use Rattle.vt_spec.proofs.Common.{length-reverse, same_Some}
use Rattle.vt_spec.specs.Machine.Layers.{at_path}
use Rattle.vt_overlay.specs.declared.merge.layers.LayerRef.{LayerRef}
use Rattle.vt_overlay.specs.Merge.LayerValue.{opened}
use Rattle.vt_copyup.specs.Planned.{AreCopiesFrom, ArePlannedBy}
use Rattle.vt_copyup.specs.declared.plans.Piece.{Piece}
use Rattle.vt_copyup.proofs.PlansReady.{are_planned_so, is_ready, nowhere_next_name}
use Rattle.vt_copyup.proofs.planning.plan.Goals as goal

pub pieces_from-requires-clause-nowhere : goal.pieces_from-requires-clause-nowhere
pieces_from-requires-clause-nowhere g c = λ upper top less.
    let names = g.W.Way.names c.args.path.now in
    let led = c.led_above-led in
    let own : LayerRef = c.upper_of-upper.result in
    let same : own ≡ upper = same_Some own upper (sym c.upper_of-upper.ensures ∙ top) in
    ap (λ (l : LayerRef). at_path (opened c.args.source.trees.now l.directory) (take (led.result.names + 1) names)) (sym same)
    ∙ nowhere_next_name c.args.source.trees.now c.args.source.layers.now c.requires.layers own c.upper_of-upper.ensures
    c.args.source.overlay led.result.inode led.ensures.filesystem names led.result.names led.ensures.many led.ensures.leads
    led.ensures.end less

pub returns-clause-planned : goal.returns-clause-planned
returns-clause-planned g c = λ upper lowers is.
    let trees = c.args.source.trees.now in
    let names = g.W.Way.names c.args.path.now in
    let led = c.led_above-led in
    let front = take led.result.names names in
    let pieces : List Piece = reverse c.in_ok-pieces.pieces.items in
    let own : LayerRef = c.upper_of-upper.result in
    let same : own ≡ upper =
    same_Some own upper (sym c.upper_of-upper.ensures ∙ ap (λ l. slice_get l 0) is) in
    record {
      front = front;
      whole = c.in_ok-pieces.ensures.whole;
      leads = ap (λ (l : LayerRef). at_path (opened trees l.directory) front) (sym same) ∙ led.ensures.leads;
      filesystem = led.ensures.filesystem ∙ ap (λ (l : LayerRef). l.directory.filesystem) same;
      planned = λ fresh mounter. subst (λ l. ArePlannedBy c.args.source.with_bytes fresh mounter trees l lowers front pieces) same
          (are_planned_so trees c.args.source.layers.now c.requires.layers own c.upper_of-upper.ensures c.args.source.overlay
          led.result.inode led.ensures.filesystem names led.result.names led.ensures.many led.ensures.leads
          led.ensures.end c.args.source.with_bytes pieces c.in_ok-pieces.ensures.copies c.in_ok-pieces.ensures.whole fresh mounter lowers
          (is ∙ ap (λ l. l ∷ lowers) (sym same)));
      copies = subst (λ l. AreCopiesFrom c.args.source.with_bytes trees l c.args.source.overlay front pieces) is c.in_ok-pieces.ensures.copies;
    }

pub returns-clause-ready : goal.returns-clause-ready
returns-clause-ready g c = λ births inodes more of many_inodes many_births.
    let trees = c.args.source.trees.now in
    let names = g.W.Way.names c.args.path.now in
    let led = c.led_above-led in
    let pieces : List Piece = reverse c.in_ok-pieces.pieces.items in
    let turned = length-reverse c.in_ok-pieces.pieces.items in
    let counted : c.len.result ≡ length pieces =
    c.len.ensures ∙ c.in_ok-pieces.pieces.ok.0 ∙ sym turned in
    let ready = is_ready trees c.args.source.layers.now c.requires.layers c.upper_of-upper.result c.upper_of-upper.ensures
    c.args.source.overlay led.result.inode led.ensures.filesystem names led.result.names led.ensures.many led.ensures.leads
    led.ensures.end c.args.source.with_bytes pieces c.in_ok-pieces.ensures.copies c.in_ok-pieces.ensures.whole c.in_ok-pieces.ensures.nested
    births of c.room_for_first.new.room
    (λ some. c.in_ok-room_for_first.ensures.ok (subst (λ n. 0 < n) (sym counted) some)) inodes more
    (omega (arith, many_inodes, turned)) (omega (arith, many_births, turned)) in
    record { first = ready.0; all = ready.1 }
