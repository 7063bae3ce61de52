use Rattle.std.proofs.Common.{Bool, Global, List, Vec, ◌∙◌, ◌∷◌, [], is_some, sym, ℕ}
use Rattle.vt_spec.proofs.Common.{list_any-IsPermutation}
use Rattle.vt_laws_trees.specs.Layers.Layers.Directories.{shown_in}
use Rattle.vt_laws_trees.proofs.layers.layers.ShownFronts.{list_any_of_map}
use Rattle.vt_overlay.specs.Merge.LayerValue.{placed_views}
use Rattle.vt_overlay.proofs.merge.naming.shows_any_of.Goals as goal

pub returns : goal.returns
returns c =
    let test : List ℕ → Bool =
    λ name. is_some (shown_in (placed_views c.args.trees.now c.args.merged.now) (name ∷ [])) in
    c.shows_one.ensures ∙ sym (list_any_of_map test (λ (name : Vec ℕ Global). name.items) c.kept_names.result.now)
    ∙ list_any-IsPermutation test _ _ c.kept_names.ensures
