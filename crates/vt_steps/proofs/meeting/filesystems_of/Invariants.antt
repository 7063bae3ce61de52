use Rattle.std.proofs.Common.{◌≡◌, map, nat_eq, take}
use Rattle.vt_spec.specs.Machine.Walking.{filesystems_of}
use Rattle.vt_location.specs.Locations.{location_of}
use Rattle.vt_steps.specs.StepsValue.{met_of}
use Rattle.vt_steps.proofs.meeting.filesystems_of.Given as goal

abbrev pub invariant-loop-location : goal.invariant-loop-location
invariant-loop-location g l =
    met_of l.met ≡ filesystems_of nat_eq (g.L.Look.looks l.world) (map location_of (take l.location-index l.locations))
