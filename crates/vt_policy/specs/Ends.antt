-- Where walks of code end, as the definitions see it: links that are left, and filesystems met on the way, aside.
use Rattle.std.specs.Prelude.{List, Ok, Result, nat_eq, ◌∷◌, [], ℕ, ◌≡◌}
use Rattle.vt_spec.specs.declared.errors.Deny.{Deny}
use Rattle.vt_spec.specs.declared.errors.Rule.TheVariants.{M2, M7}
use Rattle.vt_spec.specs.Errors.{Rules, and_then, unless}
use Rattle.vt_spec.specs.Machine.Looks.{Looks}
use Rattle.vt_spec.specs.Machine.Mounts as meant
use Rattle.vt_spec.specs.Machine.Rules.Conditions.{is_elsewhere, is_no_root}
use Rattle.vt_spec.specs.Machine.Rules.Mounting.{admin_rules}
use Rattle.vt_spec.specs.Machine.Walking.{Here, Place as PlaceMeant, directory_walk, walk_end}
use Rattle.vt_spec.specs.Machine.World.{Task}
use Rattle.vt_location.specs.declared.locations.Location.{Location}
use Rattle.vt_location.specs.Locations.{location_of}
use Rattle.vt_looks.specs.declared.places.Place.{Place}
use Rattle.vt_rules.specs.Places.{IsPlaceOf}

-- a walk ends at a location
abbrev pub EndsAt : Result (Here ℕ) Deny → Location → Type 0
EndsAt end at = (here : Here ℕ) × (end ≡ Ok here) × (here.location ≡ location_of at)

-- a walk ends at a place
abbrev pub EndsAtPlace : Result (PlaceMeant ℕ) Deny → Place → Type 0
EndsAtPlace end place = (seen : PlaceMeant ℕ) × (end ≡ Ok seen) × IsPlaceOf place seen

-- the walk to the root of a mount that a call names: umount(2), EPERM and EINVAL
abbrev pub root_rules : Looks ℕ → Task ℕ → meant.Location ℕ → Rules
root_rules looks task here =
    (is_elsewhere nat_eq looks task here, M2) ∷ (is_no_root nat_eq looks here, M7) ∷ []

abbrev pub root_walk : Looks ℕ → Task ℕ → List ℕ → Result (Here ℕ) Deny
root_walk looks task path =
    unless (admin_rules task)
    (and_then (walk_end (directory_walk nat_eq looks task path))
    (λ here. unless (root_rules looks task here.location) (Ok here)))

abbrev pub IsRootAt : Looks ℕ → Task ℕ → List ℕ → Location → Type 0
IsRootAt looks task path at = EndsAt (root_walk looks task path) at
