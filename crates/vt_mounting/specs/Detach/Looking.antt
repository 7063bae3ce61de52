-- What the code's world shows.
use Rattle.std.specs.Prelude.{Bool, nat_eq, ℕ}
use Rattle.vt_spec.specs.Machine.Apply.{apply}
use Rattle.vt_spec.specs.Machine.Attach.{has_too_many}
use Rattle.vt_spec.specs.Machine.Looks.{Looks, looks_of}
use Rattle.vt_spec.specs.Machine.Permits.{Permit}
use Rattle.vt_spec.specs.Machine.World.{first_task, mount_at}
use Rattle.vt_location.specs.declared.locations.Location.{Location}
use Rattle.vt_location.specs.Locations.{location_of}
use Rattle.vt_location.specs.Numbers.{counted}
use Rattle.vt_laws_trees.specs.Runs.Handed.{counts_from}
use Rattle.vt_world.specs.WorldValue.{WorldValue, world_of}

abbrev pub looks_of_value : WorldValue → Looks ℕ
looks_of_value value = looks_of nat_eq (world_of value)

-- the mount of a location shows the filesystem that the location's inode is in; a number that no mount has stands for a
-- mount of the filesystem with that number
abbrev pub is_seen : WorldValue → Location → Bool
is_seen value at =
    nat_eq (mount_at nat_eq (world_of value) (location_of at)).filesystem (counted at.node.filesystem.count)

-- M9: a namespace has too many mounts once this permit is applied, whichever task it is given
abbrev pub overfills_of : WorldValue → Permit ℕ → Bool
overfills_of value permit =
    has_too_many nat_eq (apply nat_eq (counts_from value.next) (world_of value)
    (first_task nat_eq (λ place. place)) permit).world
