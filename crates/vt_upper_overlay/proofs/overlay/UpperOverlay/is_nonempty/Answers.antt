use Rattle.std.proofs.Common.{ap, not, option_map, sym, ◌≡◌, ◌∙◌}
use Rattle.vt_spec.proofs.Common.{then_some}
use Rattle.vt_location.specs.Locations.{number_of}
use Rattle.vt_overlay.specs.MergedTree as through
use Rattle.vt_upper_overlay.specs.MergedAbove.{directory_path}
use Rattle.vt_upper_overlay.proofs.Entries.{same_emptiness}
use Rattle.vt_upper_overlay.proofs.Shown.{looked_by}
use Rattle.vt_upper_overlay.proofs.overlay.UpperOverlay.is_nonempty.Goals as goal

pub returns-in-Some : goal.returns-in-Some
returns-in-Some c =
    let trees = c.args.trees.now in
    let overlay = c.args.self.now in
    let ways : through.directory_path trees overlay.layers (number_of c.in-Some.through)
    ≡ directory_path trees overlay (number_of c.args.node) = sym (ap (λ o. then_some (option_map number_of o)
    (through.directory_path trees overlay.layers)) c.in-Some.is) ∙ c.through.ensures.ways in
    c.is_nonempty.ensures ∙ ap not (same_emptiness trees overlay
    (looked_by trees overlay c.args.node c.requires.standing c.through.ensures.small c.requires.own)
    (number_of c.args.node) (number_of c.in-Some.through) ways)
