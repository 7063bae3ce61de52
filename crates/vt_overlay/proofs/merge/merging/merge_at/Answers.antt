use Rattle.std.proofs.Common.{◌∙◌, ◌∷◌, ◌≤◌, [], All, ap, map, subst, sym, take, append-nil, take_all}
use Rattle.vt_spec.proofs.Common.{shown, view_of}
use Rattle.vt_laws_trees.specs.Layers.Layers.Directories.{shown_in}
use Rattle.vt_laws_trees.proofs.layers.directories.Under.{placed_show_the_same}
use Rattle.vt_overlay.specs.Merge.EntryValue.{IsMergedAt}
use Rattle.vt_overlay.specs.Merge.LayerValue.{layers_of}
use Rattle.vt_overlay.proofs.merge.NamesTaken.{take_named}
use Rattle.vt_overlay.proofs.merge.merging.merge_at.Goals as goal

pub loop-index-init : goal.loop-index-init
loop-index-init g c = record {
  shows = λ rest some. ap (λ views. shown_in views rest) (c.push_directories.ensures.placed c.args.trees.now)
      ∙ sym (placed_show_the_same (map view_of (layers_of c.args.trees.now c.args.layers.now)) rest);
  led = c.push_directories.ensures.led c.args.trees.now;
}

pub loop-index-preserved : goal.loop-index-preserved
loop-index-preserved g c =
    let trees = c.args.trees.now in
    let layers = c.args.layers.now in
    let names = g.W.Way.names c.args.path.now in
    let at = c.loop-index in
    let name = c.name.result.now in
    record {
      shows = λ rest some. c.narrow.ensures.shows rest some ∙ at.invariant.shows (name ∷ rest) (λ empty. cc)
          ∙ ap (shown (layers_of trees layers)) (take_named names at.index name c.name.ensures rest);
      led = subst (λ path. All (IsMergedAt trees layers path) c.narrow.new.merged.items)
          (take_named names at.index name c.name.ensures [] ∙ append-nil _)
          (c.narrow.ensures.led layers (take at.index names) at.invariant.led);
    }

pub returns-clause-led : goal.returns-clause-led
returns-clause-led g c =
    subst (λ path. All (IsMergedAt c.args.trees.now c.args.layers.now path) c.loop-index.merged.items)
    (take_all c.loop-index.index (g.W.Way.names c.args.path.now)
    (subst (λ n. n ≤ c.loop-index.index) c.len-index-end.ensures c.loop-index-test.false)) c.loop-index.invariant.led
