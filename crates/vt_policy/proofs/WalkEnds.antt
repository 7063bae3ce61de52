-- Where walks end.
use Rattle.std.proofs.Common.{◌≡◌, ℕ, Result, Ok, Err, IfOk, IfErr, ap, refl, sym}
use Rattle.vt_spec.specs.declared.errors.Deny.{Deny}
use Rattle.vt_spec.specs.Machine.Walking as walked
use Rattle.vt_location.specs.declared.locations.Location.{Location}
use Rattle.vt_location.specs.Locations.{location_of}
use Rattle.vt_looks.specs.declared.places.OldPlace.{OldPlace}
use Rattle.vt_looks.specs.declared.places.Place.{Place}
use Rattle.vt_looks.specs.Places.{as_place}
use Rattle.vt_walk.specs.declared.walks.ObjectFound.{ObjectFound}
use Rattle.vt_walk.specs.WalkValue.{location_end, location_result, object_found_result, old_place_result, place_end, place_of, place_result, without_steps}
use Rattle.vt_policy.specs.Ends.{EndsAt, EndsAtPlace}

abbrev okay : {A : Type 0} → A → Result A Deny
okay a = Ok a

same-ok : {A : Type 0} (a b : A) → okay a ≡ okay b → a ≡ b
same-ok a b e = cc

pub ends_at : (result : Result Location Deny) (end : Result (walked.Here ℕ) Deny)
    → location_result result ≡ location_end end → IfOk result (λ at. EndsAt end at)
ends_at (Ok at) (Ok here) e = (here, refl, same-ok here.location (location_of at) (sym e))
ends_at (Ok at) (Err deny) e = absurd cc
ends_at (Err deny) end e = tt

pub refused_by : (result : Result Location Deny) (end : Result (walked.Here ℕ) Deny)
    → location_result result ≡ location_end end → IfErr result (λ deny. end ≡ Err deny)
refused_by (Ok at) end e = tt
refused_by (Err deny) (Ok here) e = absurd cc
refused_by (Err deny) (Err other) e = cc

-- the same, with the object that was found
pub found_ends_at : (result : Result ObjectFound Deny) (end : Result (walked.Here ℕ) Deny)
    → object_found_result result ≡ location_end end → IfOk result (λ found. EndsAt end found.location)
found_ends_at (Ok found) (Ok here) e = (here, refl, same-ok here.location (location_of found.location) (sym e))
found_ends_at (Ok found) (Err deny) e = absurd cc
found_ends_at (Err deny) end e = tt

pub found_refused_by : (result : Result ObjectFound Deny) (end : Result (walked.Here ℕ) Deny)
    → object_found_result result ≡ location_end end → IfErr result (λ deny. end ≡ Err deny)
found_refused_by (Ok found) end e = tt
found_refused_by (Err deny) (Ok here) e = absurd cc
found_refused_by (Err deny) (Err other) e = cc

pub ends_at_place : (result : Result Place Deny) (end : Result (walked.Place ℕ) Deny)
    → place_result result ≡ place_end end → IfOk result (λ place. EndsAtPlace end place)
ends_at_place (Ok place) (Ok seen) e =
    let same = same-ok (without_steps seen) (place_of place) (sym e) in (
      seen,
      refl,
      record {
        parent = ap (λ (p : walked.Place ℕ). p.parent) same;
        last = ap (λ (p : walked.Place ℕ). p.last) same;
        object = ap (λ (p : walked.Place ℕ). p.object) same;
        slash = ap (λ (p : walked.Place ℕ). p.slash) same;
      },
    )
ends_at_place (Ok place) (Err deny) e = absurd cc
ends_at_place (Err deny) end e = tt

pub refused_place : (result : Result Place Deny) (end : Result (walked.Place ℕ) Deny)
    → place_result result ≡ place_end end → IfErr result (λ deny. end ≡ Err deny)
refused_place (Ok place) end e = tt
refused_place (Err deny) (Ok seen) e = absurd cc
refused_place (Err deny) (Err other) e = cc

-- the same of a name that exists
pub ends_at_old_place : (result : Result OldPlace Deny) (end : Result (walked.Place ℕ) Deny)
    → old_place_result result ≡ place_end end → IfOk result (λ place. EndsAtPlace end (as_place place))
ends_at_old_place (Ok place) end e = ends_at_place (Ok (as_place place)) end e
ends_at_old_place (Err deny) end e = tt

pub refused_old_place : (result : Result OldPlace Deny) (end : Result (walked.Place ℕ) Deny)
    → old_place_result result ≡ place_end end → IfErr result (λ deny. end ≡ Err deny)
refused_old_place (Ok place) end e = tt
refused_old_place (Err deny) end e = refused_place (Err deny) end e
