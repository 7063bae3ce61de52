use Rattle.std.proofs.Common.{◌≡◌, ◌∷◌, [], drop}
use Rattle.vt_laws_trees.specs.Layers.Layers.Directories.{shown_in}
use Rattle.vt_overlay.specs.Merge.LayerValue.{placed_views}
use Rattle.vt_overlay.proofs.merge.merging.first_of.Given as goal

abbrev pub invariant-loop-top : goal.invariant-loop-top
invariant-loop-top l = shown_in (placed_views l.trees l.merged) (l.name ∷ [])
    ≡ shown_in (placed_views l.trees (drop l.top-index l.merged)) (l.name ∷ [])
