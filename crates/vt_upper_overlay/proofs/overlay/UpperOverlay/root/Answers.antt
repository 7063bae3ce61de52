use Rattle.std.proofs.Common.{ap, ◌∙◌}
use Rattle.vt_location.specs.Locations.{number_of}
use Rattle.vt_location.proofs.NodeLemmas.{small_parts}
use Rattle.vt_upper_overlay.proofs.Entries.{root_too}
use Rattle.vt_upper_overlay.proofs.Shown.{looked_by}
use Rattle.vt_upper_overlay.proofs.overlay.UpperOverlay.root.Goals as goal

pub returns-clause-root : goal.returns-clause-root
returns-clause-root c = λ trees stands.
    let root = c.in_ok-root.root in
    ap number_of c.node_for.ensures.value
    ∙ root_too trees c.args.self.now
    (looked_by trees c.args.self.now root stands c.node_for.ensures.small c.in_ok-root.ensures.own) root
    (small_parts root c.node_for.ensures.small) (c.in_ok-root.ensures.root trees stands.layers)
