use Rattle.std.proofs.Common.{ap, option_map, sym, ◌∙◌}
use Rattle.vt_spec.proofs.Common.{then_some}
use Rattle.vt_location.specs.Locations.{number_of}
use Rattle.vt_location.proofs.NodeLemmas.{small_parts}
use Rattle.vt_overlay.specs.MergedTree as through
use Rattle.vt_upper_overlay.proofs.Shown.{looked_by}
use Rattle.vt_upper_overlay.proofs.Through.{way_below}
use Rattle.vt_upper_overlay.proofs.overlay.UpperOverlay.through.Goals as goal

pub returns-in-None-clause-ways : goal.returns-in-None-clause-ways
returns-in-None-clause-ways c =
    let trees = c.args.trees.now in
    let overlay = c.args.self.now in
    let small = c.below_upper.ensures.small in
    ap (λ o. then_some (option_map number_of o) (through.directory_path trees overlay.layers)) c.below_upper.ensures.value
    ∙ way_below trees overlay (looked_by trees overlay c.args.node c.requires.standing small c.requires.own) c.args.node
    (small_parts c.args.node small) c.requires.own (sym c.slot_above.ensures ∙ c.in-None.is)
