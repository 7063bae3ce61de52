-- Where walks end, and what comes after them.
use Rattle.std.proofs.Common.{◌≡◌, ℕ, Option, None, Some, Result, Ok, Err, IfErr, IfOk, ap, is_some, option_map, refl, sym, ◌∙◌}
use Rattle.vt_spec.proofs.Common.{and_then}
use Rattle.vt_spec.specs.declared.errors.Deny.{Deny}
use Rattle.vt_spec.specs.Machine.Mounts as meant
use Rattle.vt_spec.specs.Machine.Walking as walked
use Rattle.vt_location.specs.declared.locations.Location.{Location}
use Rattle.vt_location.specs.Locations.{location_of}
use Rattle.vt_looks.specs.declared.places.Place.{Place}
use Rattle.vt_walk.specs.WalkValue.{location_end, location_result, place_end, place_of, place_result, without_steps}
use Rattle.vt_later.specs.Past.{EndsAt, EndsAtPlace}

abbrev okay : {A : Type 0} → A → Result A Deny
okay a = Ok a

same-ok : {A : Type 0} (a b : A) → okay a ≡ okay b → a ≡ b
same-ok a b e = cc

pub ends_at : (result : Result Location Deny) (end : Result (walked.Here ℕ) Deny)
    → location_result result ≡ location_end end → IfOk result (λ at. EndsAt end at)
ends_at (Ok at) (Ok here) e = (here, refl, same-ok here.location (location_of at) (sym e))
ends_at (Ok at) (Err deny) e = absurd cc
ends_at (Err deny) end e = tt

pub refused_by : (result : Result Location Deny) (end : Result (walked.Here ℕ) Deny)
    → location_result result ≡ location_end end → IfErr result (λ deny. end ≡ Err deny)
refused_by (Ok at) end e = tt
refused_by (Err deny) (Ok here) e = absurd cc
refused_by (Err deny) (Err other) e = cc

pub ends_at_place : (result : Result Place Deny) (end : Result (walked.Place ℕ) Deny)
    → place_result result ≡ place_end end → IfOk result (λ place. EndsAtPlace end place)
ends_at_place (Ok place) (Ok seen) e = (seen, refl, same-ok (without_steps seen) (place_of place) (sym e))
ends_at_place (Ok place) (Err deny) e = absurd cc
ends_at_place (Err deny) end e = tt

pub refused_place : (result : Result Place Deny) (end : Result (walked.Place ℕ) Deny)
    → place_result result ≡ place_end end → IfErr result (λ deny. end ≡ Err deny)
refused_place (Ok place) end e = tt
refused_place (Err deny) (Ok seen) e = absurd cc
refused_place (Err deny) (Err other) e = cc

-- what comes after a walk is asked of where it ends
pub reached : {A : Type 0} (end : Result (walked.Here ℕ) Deny) (at : Location)
    (next : meant.Location ℕ → Result A Deny) → EndsAt end at
    → and_then end (λ here. next here.location) ≡ next (location_of at)
reached end at next ends = ap (λ e. and_then e (λ here. next here.location)) ends.1 ∙ ap next ends.2

-- the same of a walk to a place; the filesystems that were met do not count
pub arrived : {A : Type 0} (end : Result (walked.Place ℕ) Deny) (place : Place)
    (next : walked.Place ℕ → Result A Deny) → ((seen : walked.Place ℕ) → next (without_steps seen) ≡ next seen)
    → EndsAtPlace end place → and_then end next ≡ next (place_of place)
arrived end place next steps ends =
    ap (λ reached. and_then reached next) ends.1 ∙ sym (steps ends.0) ∙ ap next ends.2

pub is_some_mapped : (object : Option Location) → is_some (option_map location_of object) ≡ is_some object
is_some_mapped None = refl
is_some_mapped (Some object) = refl
