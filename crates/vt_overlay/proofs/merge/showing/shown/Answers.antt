use Rattle.std.proofs.Common.{rules, ◌≡◌, ◌∙◌, None, option_map, sym}
use Rattle.vt_overlay.specs.Merge.LayerValue.{seen_of}
use Rattle.vt_overlay.proofs.merge.LayersLeft.{goes_lower, in_tree, shows_here, stops_here}
use Rattle.vt_overlay.proofs.merge.showing.shown.Goals as goal

pub returns-in-Some-clause-value : goal.returns-in-Some-clause-value
returns-in-Some-clause-value g c =
    shows_here c.args.trees.now c.args.layers.now c.loop-place.place _ (g.W.Way.names c.args.path.now)
    c.loop-place-test.true c.follow-found.result.object c.follow-found.result.cut c.follow-found.ensures.object
    c.follow-found.ensures.cut c.in-Some.inode c.in-Some.is c.follow-found.ensures.filesystem
    (option_map seen_of c.visible.result) c.visible.ensures.value ∙ sym c.loop-place.invariant

pub returns-in-Some-clause-tree : goal.returns-in-Some-clause-tree
returns-in-Some-clause-tree g c =
    in_tree c.args.trees.now c.args.layers.now c.loop-place.place _ (g.W.Way.names c.args.path.now)
    c.loop-place-test.true c.follow-found.result.object c.follow-found.result.cut c.follow-found.ensures.object
    c.follow-found.ensures.cut c.in-Some.inode c.in-Some.is c.follow-found.ensures.filesystem
    c.visible.result c.visible.ensures.is

pub returns-then-found-clause-value : goal.returns-then-found-clause-value
returns-then-found-clause-value g c =
    let none : c.follow-found.result.object ≡ None = search rules in
    stops_here c.args.trees.now c.args.layers.now c.loop-place.place _ (g.W.Way.names c.args.path.now)
    c.loop-place-test.true c.follow-found.result.object c.follow-found.result.cut c.follow-found.ensures.object
    c.follow-found.ensures.cut none c.if-found.true ∙ sym c.loop-place.invariant

pub loop-place-preserved : goal.loop-place-preserved
loop-place-preserved g c =
    let none : c.follow-found.result.object ≡ None = search rules in
    c.loop-place.invariant
    ∙ goes_lower c.args.trees.now c.args.layers.now c.loop-place.place _ (g.W.Way.names c.args.path.now)
    c.loop-place-test.true c.follow-found.result.object c.follow-found.result.cut c.follow-found.ensures.object
    c.follow-found.ensures.cut none c.if-found.false
