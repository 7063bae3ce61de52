-- A walk of code is refused just where that of the definitions is.
use Rattle.std.proofs.Common.{◌≡◌, ℕ, nat_eq, Ok, Err, Result, refl, is_err}
use Rattle.vt_spec.proofs.Common.{Here, Looks, Place, Stop, Task, is_directory_there, walk_end}
use Rattle.vt_spec.specs.Machine.Looks.{is_directory_at}
use Rattle.vt_spec.specs.Machine.Turns.{place_or_root}
use Rattle.vt_spec.specs.declared.errors.Deny.{Deny}
use Rattle.vt_location.specs.declared.locations.Location.{Location}
use Rattle.vt_looks.specs.declared.places.OldPlace.{OldPlace}
use Rattle.vt_looks.specs.declared.places.Place.{Place as CodePlace}
use Rattle.vt_walk.specs.WalkValue.{location_end, location_result, old_place_result, place_end, place_result}

pub located_refused : (result : Result Location Deny) (walk : Result (Here ℕ) (Stop ℕ))
    → location_result result ≡ location_end (walk_end walk) → is_err result ≡ is_err walk
located_refused (Ok at) (Ok here) e = refl
located_refused (Ok at) (Err stop) e = absurd cc
located_refused (Err deny) (Ok here) e = absurd cc
located_refused (Err deny) (Err stop) e = refl

pub named_refused : (result : Result CodePlace Deny) (walk : Result (Place ℕ) (Stop ℕ))
    → place_result result ≡ place_end (walk_end walk) → is_err result ≡ is_err walk
named_refused (Ok at) (Ok here) e = refl
named_refused (Ok at) (Err stop) e = absurd cc
named_refused (Err deny) (Ok here) e = absurd cc
named_refused (Err deny) (Err stop) e = refl

pub old_refused : (result : Result OldPlace Deny) (walk : Result (Place ℕ) (Stop ℕ))
    → old_place_result result ≡ place_end (walk_end walk) → is_err result ≡ is_err walk
old_refused (Ok at) (Ok here) e = refl
old_refused (Ok at) (Err stop) e = absurd cc
old_refused (Err deny) (Ok here) e = absurd cc
old_refused (Err deny) (Err stop) e = refl

-- behind a path that is refused, `/` is looked at
pub root-instead : (looks : Looks ℕ) (task : Task ℕ) (walk : Result (Place ℕ) (Stop ℕ)) (deny : Deny)
    → Err deny ≡ place_end (walk_end walk)
    → is_directory_there nat_eq looks (place_or_root nat_eq looks task walk) ≡ is_directory_at looks task.root
root-instead looks task (Ok place) deny e = absurd cc
root-instead looks task (Err stop) deny e = refl
