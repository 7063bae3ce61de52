use Rattle.std.proofs.Common.{ap, arith, length, subst, sym, take, ◌+◌, ◌++◌, ◌-◌, ◌∙◌, ◌∷◌, ◌≡◌, [], append-nil, append_assoc, get_or, take_all}
use Rattle.vt_spec.proofs.Common.{take_more}
use Rattle.vt_store.specs.LayersAt.{AreCounted, HasRoomForLayers}
use Rattle.vt_store.specs.LayerTests.{layer_at}
use Rattle.vt_store.proofs.LayersTallied.{room_for_fewer}
use Rattle.vt_store.proofs.layer_counts.LayerCounts.add.Goals as goal

pub add_one-requires : goal.add_one-requires
add_one-requires c = record {
  known = (
    c.requires.known.0 ++ take c.loop-layer.layer-index c.args.layers.now,
    c.loop-layer.invariant.counted c.requires.known.0 c.requires.known.1,
  );
  room = room_for_fewer 1 (length c.args.layers.now - c.loop-layer.layer-index) c.loop-layer.self (omega arith)
      c.loop-layer.invariant.room;
}

pub loop-layer-init : goal.loop-layer-init
loop-layer-init c = record {
  counted = λ before is. subst (λ layers. AreCounted layers c.args.self.now) (sym (append-nil before)) is;
  room = room_for_fewer (length c.args.layers.now - 0) (length c.args.layers.now) c.args.self.now (omega arith)
      c.requires.room;
}

pub loop-layer-preserved : goal.loop-layer-preserved
loop-layer-preserved c =
    let layers = c.args.layers.now in
    let index = c.loop-layer.layer-index in
    let none = layer_at (record { count = 0 }) 0 in
    let layer = get_or layers index none in
    let one_more : length layers - index ≡ length layers - (index + 1) + 1 = omega arith in
    record {
      counted = λ before is. subst (λ all. AreCounted all c.add_one.new.self)
          (append_assoc before (take index layers) (layer ∷ [])
          ∙ ap (λ all. before ++ all) (sym (take_more layers index none (omega arith))))
          (subst (λ node. AreCounted ((before ++ take index layers) ++ layer_at layer.directory.filesystem node ∷ [])
          c.add_one.new.self) c.node.ensures
          (c.add_one.ensures.counted (before ++ take index layers) (c.loop-layer.invariant.counted before is)));
      room = c.add_one.ensures.room (length layers - (index + 1))
          (subst (λ more. HasRoomForLayers more c.loop-layer.self) one_more c.loop-layer.invariant.room);
    }

pub returns : goal.returns
returns c = λ before is. subst (λ layers. AreCounted (before ++ layers) c.loop-layer.self)
    (take_all c.loop-layer.layer-index c.args.layers.now (omega arith)) (c.loop-layer.invariant.counted before is)
