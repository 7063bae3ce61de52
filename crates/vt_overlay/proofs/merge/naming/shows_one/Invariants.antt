use Rattle.std.proofs.Common.{◌≡◌, ◌∷◌, [], false, is_some, take}
use Rattle.vt_spec.proofs.Common.{list_any}
use Rattle.vt_laws_trees.specs.Layers.Layers.Directories.{shown_in}
use Rattle.vt_overlay.specs.Merge.LayerValue.{placed_views}
use Rattle.vt_overlay.proofs.merge.naming.shows_one.Given as goal

abbrev pub invariant-loop-name : goal.invariant-loop-name
invariant-loop-name l =
    list_any (λ name. is_some (shown_in (placed_views l.trees l.merged) (name.items ∷ []))) (take l.name-index l.names)
    ≡ false
