-- What the definitions see of walks that keep the filesystems that they meet.
use Rattle.std.specs.Global.{Vec}
use Rattle.std.specs.Prelude.{Err, List, Ok, Result, map, option_map, reverse, ⊤, ℕ, ◌≡◌}
use Rattle.vt_spec.specs.Machine.Walking.{Here as HereMeant, Place as PlaceMeant, Stop as StopMeant}
use Rattle.vt_location.specs.declared.numbers.FilesystemId.{FilesystemId}
use Rattle.vt_location.specs.Locations.{location_of}
use Rattle.vt_location.specs.Numbers.{filesystem_number}
use Rattle.vt_looks.specs.Places.{last_of}
use Rattle.vt_steps.specs.declared.here.Halt.{Halt}
use Rattle.vt_steps.specs.declared.here.Halt.TheVariants.{NoMemory, Refused}
use Rattle.vt_steps.specs.declared.here.Here.{Here}
use Rattle.vt_steps.specs.declared.here.Named.{Named}
use Rattle.vt_steps.specs.declared.here.Stop.{Stop}

-- the filesystems that a word met
abbrev pub met_of : Vec FilesystemId → List ℕ
met_of met = map filesystem_number met.items

-- for each word walked, the last one first, the filesystems that it met
abbrev pub steps_of : Vec (Vec FilesystemId) → List (List ℕ)
steps_of steps = reverse (map met_of steps.items)

abbrev pub here_of : Here → HereMeant ℕ
here_of here = record { location = location_of here.location; left = here.left; steps = steps_of here.steps }

abbrev pub stop_of : Stop → StopMeant ℕ
stop_of stop = record { deny = stop.deny; steps = steps_of stop.steps }

abbrev pub place_of : Named → PlaceMeant ℕ
place_of named = record {
  parent = location_of named.place.parent;
  last = last_of named.place.last;
  object = option_map location_of named.place.object;
  slash = named.place.slash;
  steps = steps_of named.steps;
}

-- an allocation failed
abbrev pub IsNoMemory : Halt → Type 0
IsNoMemory (Refused stop) = ⊥
IsNoMemory (NoMemory fault) = ⊤

-- so a walk ends, unless an allocation fails
abbrev pub EndsBy : {A B : Type 0} → (A → B) → Result B (StopMeant ℕ) → Result A Halt → Type 0
EndsBy meaning end (Ok a) = end ≡ Ok (meaning a)
EndsBy meaning end (Err (Refused stop)) = end ≡ Err (stop_of stop)
EndsBy meaning end (Err (NoMemory fault)) = ⊤

-- at a location, or at a place
abbrev pub Ends : Result (HereMeant ℕ) (StopMeant ℕ) → Result Here Halt → Type 0
Ends end result = EndsBy here_of end result

abbrev pub EndsAtPlace : Result (PlaceMeant ℕ) (StopMeant ℕ) → Result Named Halt → Type 0
EndsAtPlace end result = EndsBy place_of end result
