use Rattle.std.proofs.Common.{◌≡◌, ◌≢◌, ◌++◌, [], All, List, take, ℕ}
use Rattle.vt_spec.proofs.Common.{shown}
use Rattle.vt_laws_trees.specs.Layers.Layers.Directories.{shown_in}
use Rattle.vt_overlay.specs.Merge.EntryValue.{IsMergedAt}
use Rattle.vt_overlay.specs.Merge.LayerValue.{layers_of, placed_views}
use Rattle.vt_overlay.proofs.merge.merging.merge_at.Given as goal

abbrev pub invariant-loop-index : goal.invariant-loop-index
invariant-loop-index g l = record {
  shows : (rest : List (List ℕ)) → rest ≢ [] → shown_in (placed_views l.trees l.merged.items) rest
      ≡ shown (layers_of l.trees l.layers) (take l.index (g.W.Way.names l.path) ++ rest);
  led : All (IsMergedAt l.trees l.layers (take l.index (g.W.Way.names l.path))) l.merged.items;
}
