use Rattle.std.proofs.Common.{◌∙◌, ap}
use Rattle.std.proofs.lemmas.List.Filters.{dedup_is}
use Rattle.vt_laws_trees.specs.Layers.Layers.Directories.{shown_in}
use Rattle.vt_overlay.specs.Merge.LayerValue.{layers_of, placed_views}
use Rattle.vt_overlay.proofs.merge.NamesSorted.{names_are}
use Rattle.vt_overlay.proofs.merge.naming.merged_names.Goals as goal

pub returns : goal.returns
returns g c =
    let trees = c.args.trees.now in
    let merged = c.as_slice-directories.result.now in
    names_are trees merged (layers_of trees c.args.layers.now) (g.W.Way.names c.args.path.now)
    c.in_ok-names.names.items c.sort_unstable.new.self.items c.dedup.new.self.items c.in_ok-names.ensures
    c.sort_unstable.ensures.permutation c.sort_unstable.ensures.sorted (dedup_is _ _ _ c.dedup.ensures.filtered)
    (λ rest some.
    ap (λ items. shown_in (placed_views trees items) rest) c.as_slice-directories.ensures.value
    ∙ c.merge_at.ensures.shows rest some)
