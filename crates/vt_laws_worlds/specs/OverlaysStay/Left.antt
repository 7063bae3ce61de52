-- The world that a permit leaves where no overlay has an upper layer.
use Rattle.std.specs.Prelude.{Some, nat_eq, nat_lt, true, ℕ, ◌≡◌}
use Rattle.std.specs.List.{list_all}
use Rattle.vt_spec.specs.Language.Calls.{MountFlags}
use Rattle.vt_spec.specs.Lists.{Fresh}
use Rattle.vt_spec.specs.Machine.Apply.{apply}
use Rattle.vt_spec.specs.Machine.Invariants.{IsWorld, OverlayInvariants}
use Rattle.vt_spec.specs.Machine.Mounts.{Location}
use Rattle.vt_spec.specs.Machine.NewMounts.{plain_filesystem}
use Rattle.vt_spec.specs.Machine.Permits.{Permit}
use Rattle.vt_spec.specs.Machine.Permits.Permit.{ToMountPlain}
use Rattle.vt_spec.specs.Machine.SameWorlds.{SameWorlds}
use Rattle.vt_spec.specs.Machine.World.{Overlay, Task, World, filesystem_numbered, is_overlay}
use Rattle.vt_laws_worlds.specs.Worlds.Kept.{IsUnderWay}
use Rattle.vt_laws_mounts.specs.Counts.BesideOverlays.{OverlaysHaveNoUpper}
use Rattle.vt_laws_mounts.specs.Counts.OverlaysStay.{OverlaysAreNamed}
use Rattle.vt_laws_worlds.specs.Permits.Left.{IsGiven, left_by}
use Rattle.vt_laws_worlds.specs.OverlayPermits.LockedOverScripts.{LowersStay}

-- the permit makes no filesystem, or one with a greater number than all
abbrev pub MakesTheGreatest : Fresh ℕ → World ℕ → Permit ℕ → Type 0
MakesTheGreatest fresh world permit =
    (place : Location ℕ) (flags : MountFlags) → permit ≡ ToMountPlain place flags
    → list_all (λ filesystem. nat_lt filesystem.number (plain_filesystem nat_eq fresh).number) world.filesystems ≡ true

-- The permit that a call other than the mount of an overlay is given leaves a world in which none has one,
abbrev pub GivenPermitsGiveNoUpper : Type 0
GivenPermitsGiveNoUpper =
    (world : World ℕ) (fresh : Fresh ℕ) (task : Task ℕ) (permit : Permit ℕ) → IsWorld nat_eq world
    → OverlaysHaveNoUpper world → IsGiven fresh world task permit
    → IsWorld nat_eq (left_by fresh world task permit) × OverlaysHaveNoUpper (left_by fresh world task permit)

-- before what nothing uses is gone, too,
abbrev pub GivenPermitsAreUnderWayWithoutUpper : Type 0
GivenPermitsAreUnderWayWithoutUpper =
    (world : World ℕ) (fresh : Fresh ℕ) (task : Task ℕ) (permit : Permit ℕ) → IsWorld nat_eq world
    → OverlaysHaveNoUpper world → IsGiven fresh world task permit
    → IsUnderWay (apply nat_eq fresh world task permit).world
    × OverlayInvariants nat_eq (apply nat_eq fresh world task permit).world
    × OverlaysHaveNoUpper (apply nat_eq fresh world task permit).world

-- and where all inodes of overlays have names, they have names then.
abbrev pub GivenPermitsKeepNames : Type 0
GivenPermitsKeepNames =
    (world : World ℕ) (fresh : Fresh ℕ) (task : Task ℕ) (permit : Permit ℕ) → IsWorld nat_eq world
    → OverlaysHaveNoUpper world → OverlaysAreNamed world → IsGiven fresh world task permit
    → OverlaysAreNamed (apply nat_eq fresh world task permit).world
    × OverlaysAreNamed (left_by fresh world task permit)

-- Each world that is the same but for change numbers and the order of numbers beside trees is one such, too.
abbrev pub SameGivesNoUpper : Type 0
SameGivesNoUpper =
    (world : World ℕ) (fresh : Fresh ℕ) (task : Task ℕ) (permit : Permit ℕ) (other : World ℕ)
    → IsWorld nat_eq world → OverlaysHaveNoUpper world → IsGiven fresh world task permit
    → SameWorlds (left_by fresh world task permit) other → IsWorld nat_eq other × OverlaysHaveNoUpper other

-- An overlay that is left, with an upper layer or without, has the layers that it had. Every path leads from each lower
-- layer's directory where it led, to what is as it was.
abbrev pub GivenPermitsLeaveLowers : Type 0
GivenPermitsLeaveLowers =
    (world : World ℕ) (fresh : Fresh ℕ) (task : Task ℕ) (permit : Permit ℕ) (number : ℕ) (overlay : Overlay ℕ)
    → IsWorld nat_eq world → IsGiven fresh world task permit
    → (filesystem_numbered nat_eq world number).overlay ≡ Some overlay
    → is_overlay (filesystem_numbered nat_eq (left_by fresh world task permit) number) ≡ true
    → LowersStay world (left_by fresh world task permit) number overlay
