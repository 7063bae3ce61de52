use Rattle.std.proofs.Common.{◌∙◌, ap, sym, take_all}
use Rattle.vt_spec.proofs.Common.{list_any, list_any_at}
use Rattle.vt_laws_trees.specs.Layers.Layers.Directories.{shown_in}
use Rattle.vt_overlay.specs.Merge.LayerValue.{layers_of, placed_views}
use Rattle.vt_overlay.proofs.merge.NamesThere.{has_names_if, has_none_if, shows_own}
use Rattle.vt_overlay.proofs.merge.naming.has_names.Goals as goal

pub returns-then-shows_any_of : goal.returns-then-shows_any_of
returns-then-shows_any_of g c =
    let trees = c.args.trees.now in
    let directories = c.as_slice-directories.result.now in
    let layers = layers_of trees c.args.layers.now in
    let path = g.W.Way.names c.args.path.now in
    sym (has_names_if trees directories layers path (λ rest some.
    ap (λ items. shown_in (placed_views trees items) rest) c.as_slice-directories.ensures.value
    ∙ c.merge_at.ensures.shows rest some)
    (list_any_at (shows_own trees directories) directories c.loop-top.top-index _ c.loop-top-test.true
    (sym (c.if-shows_any_of.ensures {u = tt}))))

pub returns : goal.returns
returns g c =
    let trees = c.args.trees.now in
    let directories = c.as_slice-directories.result.now in
    let layers = layers_of trees c.args.layers.now in
    let path = g.W.Way.names c.args.path.now in
    sym (has_none_if trees directories layers path (λ rest some.
    ap (λ items. shown_in (placed_views trees items) rest) c.as_slice-directories.ensures.value
    ∙ c.merge_at.ensures.shows rest some) (ap (list_any (shows_own trees directories))
    (sym (take_all c.loop-top.top-index directories c.loop-top-test.false)) ∙ c.loop-top.invariant))
