-- A permit leaves overlays without an upper layer as they are: such an overlay is read-only (the kernel's overlayfs
-- document, "multiple lower layers").
use Rattle.std.specs.Prelude.{Option, Some, filter, nat_eq, true, ℕ, ◌≡◌}
use Rattle.vt_spec.specs.Lists.{Fresh}
use Rattle.vt_spec.specs.Machine.Apply.{apply}
use Rattle.vt_spec.specs.Machine.Invariants.{IsWorld}
use Rattle.vt_spec.specs.Machine.Permits.{Permit}
use Rattle.vt_spec.specs.Machine.SameWorlds.{SameWorlds}
use Rattle.vt_spec.specs.Machine.Settled.{is_mounted, settled}
use Rattle.vt_spec.specs.Machine.World.{Overlay, Real, Task, World, filesystem_numbered, is_overlay}
use Rattle.vt_laws_rules.specs.Plain.{IsPlain}
use Rattle.vt_laws_mounts.specs.Counts.BesideOverlays.{OverlaysHaveNoUpper}
use Rattle.vt_laws_mounts.specs.Counts.OverlaysStay.{OverlaysAreNamed}
use Rattle.vt_laws_trees.specs.Overlays.MergedTrees.{IsNamedBy}
use Rattle.vt_laws_worlds.specs.Permits.Left.{IsGiven, left_by}
use Rattle.vt_laws_worlds.specs.OverlaysStay.Left.{MakesTheGreatest}
use Rattle.vt_laws_worlds.specs.OverlaysStay.Woven.{are_rising}
use Rattle.vt_laws_trees.specs.Overlays.TreesSeen.{AreNoLarger, real_seen, tree_seen}

-- Before the sweep all overlays are there, in their order, as they were.
abbrev pub PermitsLeaveOverlays : Type 0
PermitsLeaveOverlays =
    (world : World ℕ) (fresh : Fresh ℕ) (task : Task ℕ) (permit : Permit ℕ) → IsWorld nat_eq world
    → OverlaysHaveNoUpper world → IsGiven fresh world task permit
    → filter is_overlay (apply nat_eq fresh world task permit).world.filesystems ≡ filter is_overlay world.filesystems

-- After it those are there that are mounted, as they were, where all their inodes have names.
abbrev pub MountedOverlaysStay : Type 0
MountedOverlaysStay =
    (world : World ℕ) (fresh : Fresh ℕ) (task : Task ℕ) (permit : Permit ℕ) → IsWorld nat_eq world
    → OverlaysHaveNoUpper world → OverlaysAreNamed world → IsGiven fresh world task permit
    → filter is_overlay (left_by fresh world task permit).filesystems
    ≡ filter (λ merged. is_mounted nat_eq (left_by fresh world task permit) merged.number)
    (filter is_overlay world.filesystems)

-- So each that is left is as it was,
abbrev pub MountedOverlayStays : Type 0
MountedOverlayStays =
    (world : World ℕ) (fresh : Fresh ℕ) (task : Task ℕ) (permit : Permit ℕ) (number : ℕ) → IsWorld nat_eq world
    → OverlaysHaveNoUpper world → OverlaysAreNamed world → IsGiven fresh world task permit
    → is_overlay (filesystem_numbered nat_eq (left_by fresh world task permit) number) ≡ true
    → filesystem_numbered nat_eq (left_by fresh world task permit) number ≡ filesystem_numbered nat_eq world number

-- and its tree and real objects are found along the paths of its layers as they were, by whatever numbers they are
-- named then and were named before.
abbrev pub SeenTreesStay : Type 0
SeenTreesStay =
    (world : World ℕ) (fresh : Fresh ℕ) (task : Task ℕ) (permit : Permit ℕ) (number : ℕ) (overlay : Overlay ℕ)
    (number_of another : Real ℕ → ℕ) (held other : ℕ → Option (Real ℕ)) (longest longer : ℕ) → IsWorld nat_eq world
    → OverlaysHaveNoUpper world → OverlaysAreNamed world → IsGiven fresh world task permit
    → (filesystem_numbered nat_eq world number).overlay ≡ Some overlay
    → is_overlay (filesystem_numbered nat_eq (left_by fresh world task permit) number) ≡ true
    → IsNamedBy number_of held (filesystem_numbered nat_eq world number) overlay
    → IsNamedBy another other (filesystem_numbered nat_eq world number) overlay
    → AreNoLarger longest world overlay → AreNoLarger longer (left_by fresh world task permit) overlay
    → (tree_seen another other longer (left_by fresh world task permit) overlay
    ≡ tree_seen number_of held longest world overlay)
    × (real_seen another other longer (left_by fresh world task permit) overlay
    ≡ real_seen number_of held longest world overlay)

-- Where the numbers of filesystems rise, whatever overlays there are, they rise before the sweep and after it.
abbrev pub NumbersRiseStill : Type 0
NumbersRiseStill =
    (world : World ℕ) (fresh : Fresh ℕ) (task : Task ℕ) (permit : Permit ℕ) → IsWorld nat_eq world
    → IsGiven fresh world task permit → are_rising world.filesystems ≡ true → MakesTheGreatest fresh world permit
    → (are_rising (apply nat_eq fresh world task permit).world.filesystems ≡ true)
    × (are_rising (left_by fresh world task permit).filesystems ≡ true)

-- The sweep gives no overlay an upper layer,
abbrev pub SweepsGiveNoUpper : Type 0
SweepsGiveNoUpper = (world : World ℕ) → OverlaysHaveNoUpper world → OverlaysHaveNoUpper (settled nat_eq world)

-- and takes no name.
abbrev pub SweepsKeepNames : Type 0
SweepsKeepNames = (world : World ℕ) → OverlaysAreNamed world → OverlaysAreNamed (settled nat_eq world)

-- In a world of plain filesystems no overlay has an upper layer, and all have names,
abbrev pub PlainWorldsHaveNoOverlays : Type 0
PlainWorldsHaveNoOverlays = (world : World ℕ) → IsPlain world → OverlaysHaveNoUpper world × OverlaysAreNamed world

-- and where none has an upper layer in one world, none has in the same world but for change numbers and the order of
-- the numbers beside trees.
abbrev pub SameWorldsHaveNoUpperAlike : Type 0
SameWorldsHaveNoUpperAlike =
    (one other : World ℕ) → SameWorlds one other → OverlaysHaveNoUpper one → OverlaysHaveNoUpper other
