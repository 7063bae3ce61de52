use Rattle.std.proofs.Common.{◌≡◌, ◌≤◌, ◌++◌, [], All, drop, map}
use Rattle.vt_spec.proofs.Common.{view_of}
use Rattle.arrayvec.specs.ArrayVec.{array_vec_len}
use Rattle.vt_fs.specs.FilesystemsValue.{Filesystems}
use Rattle.vt_laws_trees.specs.Layers.Layers.Directories.{placed, placed_from}
use Rattle.vt_overlay.specs.Merge.EntryValue.{IsMergedAt}
use Rattle.vt_overlay.specs.Merge.LayerValue.{layers_of, placed_views}
use Rattle.vt_overlay.proofs.merge.merging.push_directories.Given as goal

abbrev pub invariant-loop-place : goal.invariant-loop-place
invariant-loop-place g l = record {
  value : (trees : Filesystems) → placed_views trees l.merged.items
      ++ placed_from l.place (map view_of (layers_of trees (drop l.place l.layers)))
      ≡ placed (map view_of (layers_of trees l.layers));
  led : (trees : Filesystems) → All (IsMergedAt trees l.layers []) l.merged.items;
  room : array_vec_len l.merged ≤ l.place;
}
