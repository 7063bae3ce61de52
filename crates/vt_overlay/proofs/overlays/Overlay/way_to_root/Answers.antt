use Rattle.std.proofs.Common.{Some, arith, rules, sym, ◌<◌, ◌≡◌, ◌≢◌, ◌∙◌, slice_get}
use Rattle.vt_overlay.proofs.RootFound.{no_top, other_slot, way_result}
use Rattle.vt_overlay.proofs.overlays.Overlay.way_to_root.Goals as goal

pub returns-in_err-top : goal.returns-in_err-top
returns-in_err-top c =
    let slot_small : c.args.slot < 18446744073709551616 = let h = c.ranges.slot.fits in omega (arith, h) in
    c.from_residual.ensures
    ∙ no_top c.args.trees.now c.args.self.now c.requires.layers c.requires.few c.args.slot slot_small
    (sym c.layer_at.ensures ∙ c.in_err-top.was)

pub returns-then-top-slot : goal.returns-then-top-slot
returns-then-top-slot c =
    let slot_small : c.args.slot < 18446744073709551616 = let h = c.ranges.slot.fits in omega (arith, h) in
    let top = c.in_ok-top.top in
    let layer : slice_get c.args.self.now.lowers 0 ≡ Some top = sym c.layer_at.ensures ∙ c.in_ok-top.was in
    let other : top.directory.slot ≢ c.args.slot = search rules in
    other_slot c.args.trees.now c.args.self.now c.requires.layers c.requires.few c.args.slot slot_small top layer other

pub way_down-requires-clause-tree : goal.way_down-requires-clause-tree
way_down-requires-clause-tree c = (c.requires.layers 0 c.in_ok-top.top (sym c.layer_at.ensures ∙ c.in_ok-top.was)).tree

pub returns : goal.returns
returns c =
    let slot_small : c.args.slot < 18446744073709551616 = let h = c.ranges.slot.fits in omega (arith, h) in
    let top = c.in_ok-top.top in
    let layer : slice_get c.args.self.now.lowers 0 ≡ Some top = sym c.layer_at.ensures ∙ c.in_ok-top.was in
    let same : top.directory.slot ≡ c.args.slot = search rules in
    way_result c.args.trees.now c.args.self.now c.requires.layers c.requires.few c.args.slot slot_small top layer same
    c.way_down.result c.way_down.ensures.leads c.way_down.ensures.nowhere
