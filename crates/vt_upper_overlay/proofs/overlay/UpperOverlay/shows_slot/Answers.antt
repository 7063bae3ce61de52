use Rattle.std.proofs.Common.{arith, sym, ◌<◌, ◌∙◌}
use Rattle.vt_location.proofs.NodeLemmas.{small_parts}
use Rattle.vt_upper_overlay.proofs.Shown.{looked_by}
use Rattle.vt_upper_overlay.proofs.ThereAbove.{others_slot}
use Rattle.vt_upper_overlay.proofs.overlay.UpperOverlay.shows_slot.Goals as goal

pub returns-else-is_node_above : goal.returns-else-is_node_above
returns-else-is_node_above c =
    let small = c.is_node_above.ensures.small in
    let slot_small : c.args.slot < 18446744073709551616 = let h = c.ranges.slot.fits in omega (arith, h) in
    c.if-is_node_above.false
    ∙ others_slot c.args.trees.now c.args.self.now
    (looked_by c.args.trees.now c.args.self.now c.args.node c.requires.standing small c.requires.own) c.args.node
    (small_parts c.args.node small) c.requires.own c.args.slot slot_small c.requires.slot
    (sym c.is_node_above.ensures.value ∙ c.if-is_node_above.false)
