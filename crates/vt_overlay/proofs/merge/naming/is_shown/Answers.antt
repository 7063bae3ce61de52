use Rattle.std.proofs.Common.{◌∙◌, ◌∷◌, [], is_some}
use Rattle.vt_laws_trees.specs.Layers.Layers.Directories.{shown_in}
use Rattle.vt_overlay.specs.Merge.LayerValue.{placed_views}
use Rattle.vt_overlay.proofs.merge.NamesShown.{among_whites, looked_white, not_white}
use Rattle.vt_overlay.proofs.merge.naming.is_shown.Goals as goal

pub returns-then-not-contains : goal.returns-then-not-contains
returns-then-not-contains c =
    not_white _ _ (is_some (shown_in (placed_views c.args.trees.now c.args.merged.now) (c.args.name.now ∷ [])))
    (c.contains.ensures ∙ among_whites c.args.name.now c.args.whiteouts.now.keys) c.if-not-contains.true

pub returns-else-not-contains : goal.returns-else-not-contains
returns-else-not-contains c =
    looked_white _ _ _ _ (c.contains.ensures ∙ among_whites c.args.name.now c.args.whiteouts.now.keys)
    c.if-not-contains.false c.shows.ensures
