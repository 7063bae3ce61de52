use Rattle.std.proofs.Common.{ap, not, sym, ◌≡◌, ◌∙◌}
use Rattle.vt_spec.proofs.Common.{is_empty_list, names_shown}
use Rattle.vt_overlay.specs.Merge.LayerValue.{layers_of}
use Rattle.vt_location.specs.Locations.{number_of}
use Rattle.vt_overlay.specs.MergedTree.{OverlayValue, merged_tree}
use Rattle.vt_overlay.proofs.DirectoriesUnder.{no_entries}
use Rattle.vt_overlay.proofs.NamesFound.{names_of_none, names_of_way}
use Rattle.vt_overlay.proofs.overlays.Overlay.is_nonempty.Goals as goal

pub returns-in-Some : goal.returns-in-Some
returns-in-Some c =
    let layers : c.as_slice.result.now ≡ c.args.self.now.lowers =
    c.as_slice.ensures.value ∙ ap (λ (overlay : OverlayValue). overlay.lowers) c.self.view_is in
    c.has_names.ensures ∙ ap (λ names. not (is_empty_list names))
    (ap (λ l. names_shown (layers_of c.args.trees.now l) c.in-Some.way) layers
    ∙ names_of_way c.args.trees.now c.args.self.now c.requires.layers (number_of c.args.node) c.in-Some.way
    (sym c.in-Some.is ∙ c.way.ensures))
    ∙ ap not (no_entries ((merged_tree c.args.trees.now c.args.self.now).node (number_of c.args.node)))

pub returns-in-None : goal.returns-in-None
returns-in-None c = ap (λ names. not (is_empty_list names))
    (names_of_none c.args.trees.now c.args.self.now c.requires.layers (number_of c.args.node)
    (sym c.in-None.is ∙ c.way.ensures))
    ∙ ap not (no_entries ((merged_tree c.args.trees.now c.args.self.now).node (number_of c.args.node)))
