-- What callers make of where walks end.
use Rattle.std.proofs.Common.{◌≡◌, ℕ, Result, Ok, Err, refl, ap, ◌∙◌}
use Rattle.vt_spec.proofs.Common.{Here, Location, Place, Stop, and_then, then_walk, walk_end}
use Rattle.vt_spec.specs.declared.errors.Deny.{Deny}
use Rattle.vt_location.specs.declared.locations.Location.{Location as CodeLocation}
use Rattle.vt_location.specs.Locations.{location_of}
use Rattle.vt_looks.specs.declared.places.Place.{Place as CodePlace}
use Rattle.vt_walk.specs.WalkValue.{location_end, place_end, place_of, without_steps}

-- A walk to an object, and what comes after it, which looks at the location alone
module _ {A : Type 0} (walk : Result (Here ℕ) (Stop ℕ)) (after : Location ℕ → Result A Deny) where
  pub location-next : and_then (location_end (walk_end walk)) after
      ≡ and_then (walk_end walk) (λ here. after here.location)
  location-next = by walk
    where
      by : (walk : Result (Here ℕ) (Stop ℕ))
          → and_then (location_end (walk_end walk)) after ≡ and_then (walk_end walk) (λ here. after here.location)
      by (Ok here) = refl
      by (Err stop) = refl

  pub location-ok : (location : CodeLocation) → Ok (location_of location) ≡ location_end (walk_end walk)
      → after (location_of location) ≡ and_then (walk_end walk) (λ here. after here.location)
  location-ok location e = ap (λ r. and_then r after) e ∙ location-next

  pub location-err : (deny : Deny) → Err deny ≡ location_end (walk_end walk)
      → Err deny ≡ and_then (walk_end walk) (λ here. after here.location)
  location-err deny e = ap (λ r. and_then r after) e ∙ location-next

-- a walk that is refused stays refused, whatever comes after it
pub location-refused : (walk : Result (Here ℕ) (Stop ℕ)) (after : Here ℕ → Result (Here ℕ) (Stop ℕ)) (deny : Deny)
    → Err deny ≡ location_end (walk_end walk) → Err deny ≡ location_end (walk_end (then_walk walk after))
location-refused (Ok here) after deny e = absurd cc
location-refused (Err stop) after deny e = e

-- A walk to a place, and what comes after it, which does not look at the steps
module _ {A : Type 0} (walk : Result (Place ℕ) (Stop ℕ)) (after : Place ℕ → Result A Deny)
    (alike : (place : Place ℕ) → after (without_steps place) ≡ after place) where
  pub place-next : and_then (place_end (walk_end walk)) after ≡ and_then (walk_end walk) after
  place-next = by walk
    where
      by : (walk : Result (Place ℕ) (Stop ℕ))
          → and_then (place_end (walk_end walk)) after ≡ and_then (walk_end walk) after
      by (Ok place) = alike place
      by (Err stop) = refl

  pub place-ok : (place : CodePlace) → Ok (place_of place) ≡ place_end (walk_end walk)
      → after (place_of place) ≡ and_then (walk_end walk) after
  place-ok place e = ap (λ r. and_then r after) e ∙ place-next

  pub place-err : (deny : Deny) → Err deny ≡ place_end (walk_end walk) → Err deny ≡ and_then (walk_end walk) after
  place-err deny e = ap (λ r. and_then r after) e ∙ place-next
