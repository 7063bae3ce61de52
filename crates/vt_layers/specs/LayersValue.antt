-- What the definitions see of the layers that code has walked to, of which it keeps so many that a list too long is
-- seen to be too long.
use Rattle.std.specs.Prelude.{Err, List, Ok, Option, Result, map, option_map, take, ℕ}
use Rattle.vt_spec.specs.declared.errors.Deny.{Deny}
use Rattle.vt_spec.specs.Machine.Mounts as meant
use Rattle.vt_spec.specs.Machine.Rules.Mounting.{LayerLocations as LayersMeant}
use Rattle.vt_location.specs.declared.locations.Location.{Location}
use Rattle.vt_location.specs.Locations.{location_of}
use Rattle.vt_layers.specs.declared.walks.LayerLocations.{LayerLocations}
use Rattle.vt_layers.specs.declared.walks.Lower.{Lower}
use Rattle.vt_layers.specs.declared.walks.TheConstants.{KEPT_LOWERS}

-- the locations of lower layers
abbrev pub lowers_of : List Lower → List (meant.Location ℕ)
lowers_of lowers = map (λ lower. location_of lower.at) lowers

abbrev pub given_result : Result (Option Location) Deny → Result (Option (meant.Location ℕ)) Deny
given_result (Ok at) = Ok (option_map location_of at)
given_result (Err deny) = Err deny

-- the locations of all layers
abbrev pub layers_of : LayerLocations → LayersMeant ℕ
layers_of layers = record {
  lowers = lowers_of layers.lowers.items;
  upper = option_map location_of layers.upper;
  work = option_map location_of layers.work;
}

abbrev pub layers_result : Result LayerLocations Deny → Result (LayersMeant ℕ) Deny
layers_result (Ok layers) = Ok (layers_of layers)
layers_result (Err deny) = Err deny

-- the first lower layers, as many as are kept
abbrev pub first_lowers : Result (List (meant.Location ℕ)) Deny → Result (List (meant.Location ℕ)) Deny
first_lowers (Ok lowers) = Ok (take KEPT_LOWERS lowers)
first_lowers (Err deny) = Err deny

abbrev pub with_first_lowers : LayersMeant ℕ → LayersMeant ℕ
with_first_lowers layers = record layers { lowers = take KEPT_LOWERS layers.lowers }

abbrev pub first_layers : Result (LayersMeant ℕ) Deny → Result (LayersMeant ℕ) Deny
first_layers (Ok layers) = Ok (with_first_lowers layers)
first_layers (Err deny) = Err deny
