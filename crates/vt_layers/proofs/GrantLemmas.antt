-- Layers as they are granted.
use Rattle.std.proofs.Common.{◌≡◌, ℕ, [], ◌∷◌, List, None, Option, map, refl, ap, ◌∙◌, option_map}
use Rattle.vt_spec.proofs.Common.{Layer, Looks, Task, layer_at, overlay_at}
use Rattle.vt_location.specs.Locations.{location_of}
use Rattle.vt_layers.specs.LayersValue.{layers_of, lowers_of}
use Rattle.vt_layers.specs.declared.walks.LayerLocations.{LayerLocations}
use Rattle.vt_layers.specs.declared.walks.Lower.{Lower}

module _ (looks : Looks ℕ) (task : Task ℕ) where
  layers_of_lowers : (lowers : List Lower)
      → map (λ lower. layer_at looks (location_of lower.at)) lowers ≡ map (layer_at looks) (lowers_of lowers)
  layers_of_lowers [] = refl
  layers_of_lowers (lower ∷ rest) = ap (λ more. layer_at looks (location_of lower.at) ∷ more) (layers_of_lowers rest)

  -- the overlay that is granted
  pub granted_overlay : (layers : LayerLocations) (lowers : List (Layer ℕ)) (upper work : Option (Layer ℕ))
      → lowers ≡ map (λ lower. layer_at looks (location_of lower.at)) layers.lowers.items
      → upper ≡ option_map (layer_at looks) (option_map location_of layers.upper)
      → work ≡ option_map (layer_at looks) (option_map location_of layers.work)
      → record { upper = upper; work = work; lowers = lowers; mounter = task.credentials; real = λ number. None }
      ≡ overlay_at looks task (layers_of layers)
  granted_overlay layers lowers upper work e f h =
      let all = e ∙ layers_of_lowers layers.lowers.items in λ i. record {
        upper = f i;
        work = h i;
        lowers = all i;
        mounter = task.credentials;
        real = λ number. None;
      }
