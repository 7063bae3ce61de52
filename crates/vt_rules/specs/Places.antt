-- What the definitions see of places and of the files of descriptors: filesystems that a walk has met aside.
use Rattle.std.specs.Prelude.{Err, Ok, Result, option_map, ℕ, ◌≡◌}
use Rattle.vt_spec.specs.declared.errors.Deny.{Deny}
use Rattle.vt_spec.specs.Machine.Mounts as meant
use Rattle.vt_spec.specs.Machine.Walking as walked
use Rattle.vt_spec.specs.Machine.World.{Descriptor}
use Rattle.vt_location.specs.declared.locations.Location.{Location}
use Rattle.vt_location.specs.Locations.{location_of}
use Rattle.vt_looks.specs.declared.places.Place.{Place}
use Rattle.vt_looks.specs.Places.{last_of}

-- a place, as the definitions have it
pub record IsPlaceOf (place : Place) (seen : walked.Place ℕ) : Type 0 where
  pub parent : seen.parent ≡ location_of place.parent
  pub last : seen.last ≡ last_of place.last
  pub object : seen.object ≡ option_map location_of place.object
  pub slash : seen.slash ≡ place.slash

abbrev pub location_result : Result Location Deny → Result (meant.Location ℕ) Deny
location_result (Ok location) = Ok (location_of location)
location_result (Err deny) = Err deny

-- the file that a descriptor is on
abbrev pub file_of : Result (Descriptor ℕ) Deny → Result (meant.Location ℕ) Deny
file_of (Ok descriptor) = Ok descriptor.location
file_of (Err deny) = Err deny
