-- What the definitions see of the code's walks.
use Rattle.std.specs.Prelude.{Bool, Err, IfSome, Ok, Option, Result, Some, [], false, nat_eq, option_map, true, ℕ, ◌≡◌}
use Rattle.vt_spec.specs.declared.errors.Deny.{Deny}
use Rattle.vt_spec.specs.Errors.{and_then}
use Rattle.vt_spec.specs.Machine.Looks.{Looks, is_directory_at, topmost}
use Rattle.vt_spec.specs.Machine.Mounts.{Location as LocationMeant}
use Rattle.vt_spec.specs.Machine.Walking.{Here as HereMeant, Place as PlaceMeant, is_lost, is_special, object_named}
use Rattle.vt_spec.specs.Machine.World.{Task}
use Rattle.vt_spec.specs.Tree.{Node}
use Rattle.vt_location.specs.declared.locations.Location.{Location}
use Rattle.vt_location.specs.Locations.{location_of}
use Rattle.vt_looks.specs.declared.places.OldPlace.{OldPlace}
use Rattle.vt_looks.specs.declared.places.Place.{Place}
use Rattle.vt_looks.specs.Places.{as_place, last_of}
use Rattle.vt_walk.specs.declared.here.Here.{Here}
use Rattle.vt_walk.specs.declared.upward.Step.{Step}
use Rattle.vt_walk.specs.declared.walks.ObjectFound.{ObjectFound}
use Rattle.vt_walk.specs.PlainWalks.{standing}

-- Code keeps no record of the filesystems that a walk meets.

abbrev pub here_of : Here → HereMeant ℕ
here_of here = standing (location_of here.location) here.left

abbrev pub here_result : Result Here Deny → Result (HereMeant ℕ) Deny
here_result (Ok here) = Ok (here_of here)
here_result (Err deny) = Err deny

abbrev pub place_of : Place → PlaceMeant ℕ
place_of place = record {
  parent = location_of place.parent;
  last = last_of place.last;
  object = option_map location_of place.object;
  slash = place.slash;
  steps = [];
}

abbrev pub place_result : Result Place Deny → Result (PlaceMeant ℕ) Deny
place_result (Ok place) = Ok (place_of place)
place_result (Err deny) = Err deny

abbrev pub old_place_result : Result OldPlace Deny → Result (PlaceMeant ℕ) Deny
old_place_result (Ok place) = Ok (place_of (as_place place))
old_place_result (Err deny) = Err deny

abbrev pub location_result : Result Location Deny → Result (LocationMeant ℕ) Deny
location_result (Ok location) = Ok (location_of location)
location_result (Err deny) = Err deny

abbrev pub object_found_result : Result ObjectFound Deny → Result (LocationMeant ℕ) Deny
object_found_result (Ok found) = Ok (location_of found.location)
object_found_result (Err deny) = Err deny

abbrev pub named_result : Result (Option Location) Deny → Result (Option (LocationMeant ℕ)) Deny
named_result (Ok object) = Ok (option_map location_of object)
named_result (Err deny) = Err deny

abbrev pub step_result : Result Step Deny → Result (LocationMeant ℕ) Deny
step_result (Ok step) = Ok (location_of step.location)
step_result (Err deny) = Err deny

-- where a directory is known to be found, `..` of it leads somewhere
abbrev pub IsFound : Looks ℕ → Location → Bool → Type 0
IsFound looks at is_found =
    is_found ≡ true → is_directory_at looks (location_of at) ≡ true → is_lost nat_eq looks (location_of at) ≡ false

-- Callers see the location at the end of a walk to an object,
abbrev pub location_end : Result (HereMeant ℕ) Deny → Result (LocationMeant ℕ) Deny
location_end (Ok here) = Ok here.location
location_end (Err deny) = Err deny

-- and the place at the end of a parent walk.
abbrev pub without_steps : PlaceMeant ℕ → PlaceMeant ℕ
without_steps place = record place { steps = [] }

abbrev pub place_end : Result (PlaceMeant ℕ) Deny → Result (PlaceMeant ℕ) Deny
place_end (Ok place) = Ok (without_steps place)
place_end (Err deny) = Err deny

-- this is what is lent for a location
abbrev pub IsNodeAt : (LocationMeant ℕ → Option (Node ℕ)) → Location → Option (Node ℕ) → Type 0
IsNodeAt real location node = node ≡ real (location_of location)

-- if something is lent for a location, it is this
abbrev pub IsLent : (LocationMeant ℕ → Option (Node ℕ)) → Location → Option (Node ℕ) → Type 0
IsLent real location lent = IfSome lent (λ node. IsNodeAt real location (Some node))

-- What a place always is: its object is what the last word names in its parent, which is a directory where the last
-- word is a name.
pub record IsPlace (looks : Looks ℕ) (task : Task ℕ) (place : Place) : Type 0 where
  pub object : Ok (option_map location_of place.object)
      ≡ object_named nat_eq looks task (location_of place.parent) (last_of place.last)
  pub directory : is_special (last_of place.last) ≡ false → is_directory_at looks (location_of place.parent) ≡ true

-- The place of a file: its object is that, through the mounts over it.
pub record IsFilePlace (looks : Looks ℕ) (task : Task ℕ) (place : Place) : Type 0 where
  pub object : Ok (option_map location_of place.object)
      ≡ and_then (object_named nat_eq looks task (location_of place.parent) (last_of place.last))
      (λ object. Ok (option_map (topmost looks) object))
  pub directory : is_special (last_of place.last) ≡ false → is_directory_at looks (location_of place.parent) ≡ true
