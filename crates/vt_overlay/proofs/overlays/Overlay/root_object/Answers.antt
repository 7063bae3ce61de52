use Rattle.std.proofs.Common.{Some, ap, arith, rules, option_map, sym, ◌<◌, ◌≡◌, ◌≢◌, ◌∙◌, slice_get}
use Rattle.vt_overlay.specs.Merge.LayerValue.{seen_of}
use Rattle.vt_overlay.proofs.RootFound.{no_top_object, other_object, root_object}
use Rattle.vt_overlay.proofs.overlays.Overlay.root_object.Goals as goal

pub returns-in_err-top-clause-value : goal.returns-in_err-top-clause-value
returns-in_err-top-clause-value c =
    let slot_small : c.args.slot < 18446744073709551616 = let h = c.ranges.slot.fits in omega (arith, h) in
    ap (option_map seen_of) c.from_residual.ensures
    ∙ no_top_object c.args.trees.now c.args.self.now c.requires.layers c.requires.few c.args.slot slot_small
    (sym c.layer_at.ensures ∙ c.in_err-top.was)

pub returns-then-top-slot-clause-value : goal.returns-then-top-slot-clause-value
returns-then-top-slot-clause-value c =
    let slot_small : c.args.slot < 18446744073709551616 = let h = c.ranges.slot.fits in omega (arith, h) in
    let top = c.in_ok-top.top in
    let layer : slice_get c.args.self.now.lowers 0 ≡ Some top = sym c.layer_at.ensures ∙ c.in_ok-top.was in
    let other : top.directory.slot ≢ c.args.slot = search rules in
    other_object c.args.trees.now c.args.self.now c.requires.layers c.requires.few c.args.slot slot_small top layer
    other

pub returns-clause-value : goal.returns-clause-value
returns-clause-value c =
    let slot_small : c.args.slot < 18446744073709551616 = let h = c.ranges.slot.fits in omega (arith, h) in
    let top = c.in_ok-top.top in
    let layer : slice_get c.args.self.now.lowers 0 ≡ Some top = sym c.layer_at.ensures ∙ c.in_ok-top.was in
    let same : top.directory.slot ≡ c.args.slot = search rules in
    root_object c.args.trees.now c.args.self.now c.requires.layers c.requires.few c.args.slot slot_small top layer same
