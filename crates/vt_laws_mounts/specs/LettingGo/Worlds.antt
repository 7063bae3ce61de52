-- What a world has by its invariants.
use Rattle.std.specs.Prelude.{nat_eq, ℕ}
use Rattle.vt_spec.specs.Machine.World.{World}
use Rattle.vt_spec.specs.Machine.Invariants.{IsWorld}
use Rattle.vt_laws_mounts.specs.LettingGo.InUse.{HasTrees, UppersArePlain}
use Rattle.vt_laws_mounts.specs.LettingGo.Keeping.{LocationsStand}
use Rattle.vt_laws_mounts.specs.LettingGo.Leaving.{IsSettledPlain, MountsStand}
use Rattle.vt_laws_mounts.specs.LettingGo.LeavingOverlays.{IsSettled}
use Rattle.vt_laws_mounts.specs.LettingGo.OneByOne.{IsPlain}
use Rattle.vt_laws_mounts.specs.LettingGo.Overlays.{RealsAreThere}

-- The invariants of a world have what the laws of the sweep ask of its trees, its mounts and its overlays.
abbrev pub WorldsHaveTrees : Type 0
WorldsHaveTrees = (world : World ℕ) → IsWorld nat_eq world → HasTrees world

abbrev pub MountsOfWorldsStand : Type 0
MountsOfWorldsStand = (world : World ℕ) → IsWorld nat_eq world → MountsStand world

abbrev pub RealsOfWorldsAreThere : Type 0
RealsOfWorldsAreThere = (world : World ℕ) → IsWorld nat_eq world → RealsAreThere world

abbrev pub UppersOfWorldsArePlain : Type 0
UppersOfWorldsArePlain = (world : World ℕ) → IsWorld nat_eq world → UppersArePlain world

abbrev pub LocationsOfWorldsStand : Type 0
LocationsOfWorldsStand = (world : World ℕ) → IsWorld nat_eq world → LocationsStand world

-- So a world is settled,
abbrev pub WorldsAreSettled : Type 0
WorldsAreSettled = (world : World ℕ) → IsWorld nat_eq world → IsSettled world

-- and one of plain filesystems is a settled plain world.
abbrev pub PlainWorldsAreSettled : Type 0
PlainWorldsAreSettled = (world : World ℕ) → IsWorld nat_eq world → IsPlain world → IsSettledPlain world
