use Rattle.std.proofs.Common.{ap, map, sym, ◌≡◌, ◌∙◌}
use Rattle.vt_spec.proofs.Common.{IfOk-weaker, names_shown}
use Rattle.vt_overlay.specs.Merge.LayerValue.{layers_of}
use Rattle.vt_location.specs.Locations.{number_of}
use Rattle.vt_overlay.specs.MergedTree.{OverlayValue}
use Rattle.vt_overlay.proofs.NamesFound.{names_of_none, names_of_way}
use Rattle.vt_overlay.proofs.overlays.Overlay.names.Goals as goal

pub returns-in-Some-clause-ok : goal.returns-in-Some-clause-ok
returns-in-Some-clause-ok c =
    let layers : c.as_slice.result.now ≡ c.args.self.now.lowers =
    c.as_slice.ensures.value ∙ ap (λ (overlay : OverlayValue). overlay.lowers) c.self.view_is in
    let shows = ap (λ l. names_shown (layers_of c.args.trees.now l) c.in-Some.way) layers
    ∙ names_of_way c.args.trees.now c.args.self.now c.requires.layers (number_of c.args.node) c.in-Some.way
    (sym c.in-Some.is ∙ c.way.ensures) in
    IfOk-weaker c.merged_names.result _ _ (λ names is. is ∙ shows) c.merged_names.ensures

pub returns-in-None-clause-ok : goal.returns-in-None-clause-ok
returns-in-None-clause-ok c = ap (map (λ name. name.items)) c.new-in-None.ensures.items
    ∙ names_of_none c.args.trees.now c.args.self.now c.requires.layers (number_of c.args.node)
    (sym c.in-None.is ∙ c.way.ensures)
