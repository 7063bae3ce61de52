use Rattle.std.proofs.Common.{ap, sym, ◌∙◌}
use Rattle.vt_location.specs.Locations.{number_of}
use Rattle.vt_overlay.specs.MergedTree.{OverlayValue, born_here}
use Rattle.vt_overlay.proofs.RootFound.{root_number_is}
use Rattle.vt_overlay.proofs.overlays.Overlay.root.Goals as goal

pub returns-clause-root : goal.returns-clause-root
returns-clause-root c = λ trees are. ap number_of c.node_of.ensures.is
    ∙ ap (λ (overlay : OverlayValue). number_of (born_here overlay.number c.in_ok-top.top.directory.slot))
    c.self.view_is
    ∙ root_number_is trees c.args.self.now are c.in_ok-top.top (sym c.layer_at.ensures ∙ c.in_ok-top.was)
    c.node_of.ensures.slot
