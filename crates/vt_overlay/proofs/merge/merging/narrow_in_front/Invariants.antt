use Rattle.std.proofs.Common.{◌≡◌, ◌≤◌, ◌++◌, ◌∷◌, [], ℕ, All, List, drop, take}
use Rattle.vt_laws_trees.specs.Layers.Layers.Directories.{directories_under}
use Rattle.vt_overlay.specs.Merge.EntryValue.{IsMergedAt}
use Rattle.vt_overlay.specs.Merge.LayerValue.{placed_layers}
use Rattle.vt_overlay.specs.declared.merge.layers.LayerRef.{LayerRef}
use Rattle.vt_overlay.proofs.merge.merging.narrow_in_front.Given as goal

-- what is kept so far, and then what is merged of those that are left
abbrev pub invariant-loop-index : goal.invariant-loop-index
invariant-loop-index l = record {
  value : placed_layers l.trees (take l.kept l.merged)
      ++ directories_under (placed_layers l.trees (drop l.index l.initial.merged)) l.name
      ≡ directories_under (placed_layers l.trees l.initial.merged) l.name;
  left : (place : ℕ) → l.index ≤ place → drop place l.merged ≡ drop place l.initial.merged;
  room : l.kept ≤ l.index;
  led : (layers : List LayerRef) (path : List (List ℕ)) → All (IsMergedAt l.trees layers path) l.initial.merged
      → All (IsMergedAt l.trees layers (path ++ l.name ∷ [])) (take l.kept l.merged);
}
