-- What contracts see of a task's open files.
use Rattle.std.specs.Prelude.{Bool, List, [], ℕ, true, ◌&&◌, ◌∷◌, ◌+◌, nat_le}
use Rattle.vt_spec.specs.Language.Calls.{opens_for_reading, opens_for_writing}
use Rattle.vt_spec.specs.Machine.World.{Descriptor}
use Rattle.vt_location.specs.Locations.{location_of}
use Rattle.vt_request.specs.Requests.{access_of}
use Rattle.vt_tasks.specs.declared.descriptors.OpenFile.{OpenFile}

-- an open file under its number
abbrev pub numbered : ℕ → OpenFile → Descriptor ℕ
numbered number held = record {
  number = number;
  location = location_of held.location;
  reads = opens_for_reading (access_of held.access);
  writes = opens_for_writing (access_of held.access);
}

abbrev pub descriptor_of : ℕ × OpenFile → Descriptor ℕ
descriptor_of entry = numbered entry.0 entry.1

-- the numbers rise, from a number on
abbrev pub are_ascending : ℕ → List (ℕ × OpenFile) → Bool
are_ascending least [] = true
are_ascending least (entry ∷ rest) = nat_le least entry.0 && are_ascending (entry.0 + 1) rest
