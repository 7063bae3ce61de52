-- Plain changes of an upper layer's tree are counted in the lowered world: mkdir(2), write(2), chmod(2), and the copies
-- of the kernel's overlayfs document, "upper and lower" (copy_up).
use Rattle.std.specs.Prelude.{All, List, [], false, nat_eq, ℕ, ⊤, ◌∷◌, ◌≡◌}
use Rattle.vt_spec.specs.FileTree.{FileTree}
use Rattle.vt_spec.specs.Fits.{Fits}
use Rattle.vt_spec.specs.Inodes as Counted
use Rattle.vt_spec.specs.Inodes.{Inodes}
use Rattle.vt_spec.specs.Language.Changes.{Change, changed}
use Rattle.vt_spec.specs.Lists.{any_pair, folded}
use Rattle.vt_spec.specs.Machine.Invariants.{IsWorld, OverlayInvariants}
use Rattle.vt_spec.specs.Machine.Mounts.{Location}
use Rattle.vt_spec.specs.Machine.Settled.{settled}
use Rattle.vt_spec.specs.Machine.World.{Filesystem, World, filesystem_at, filesystem_numbered, is_overlay}
use Rattle.vt_laws_mounts.specs.Counts.BesideOverlays.{IsChangeInUse, OverlaysHaveNoUpper}
use Rattle.vt_laws_mounts.specs.Counts.Changing.{LinksWhatIsThere, TakesNoName, filesystem_of}
use Rattle.vt_laws_mounts.specs.Counts.Counted.{IsCounted}
use Rattle.vt_laws_mounts.specs.Counts.Rows as Swept
use Rattle.vt_laws_mounts.specs.Counts.Using.{AreThere, Exchanges, exchanged}
use Rattle.vt_laws_mounts.specs.LettingGo.InUse.{AllInUse, HasTrees}
use Rattle.vt_laws_mounts.specs.LettingGo.OneByOne.{Inode}
use Rattle.vt_laws_mounts.specs.LettingGo.TreeChanges.{with_tree}
use Rattle.vt_laws_mounts.specs.LettingGo.TreesOverlays.{in_use_of}
use Rattle.vt_laws_worlds.specs.Worlds.Kept.{IsUnderWay}
use Rattle.vt_laws_trees.specs.Trees.{IsProper}
use Rattle.vt_laws_upper_layers.specs.Lowered.{ArePinned, Pins, PinsInLayers, lowered}
use Rattle.vt_laws_upper_layers.specs.Rows.{after_row}
use Rattle.vt_laws_upper_layers.specs.UnnamedPins.{unnamed_pins}

-- A change that fits the counted inodes of a plain filesystem is counted in the lowered world: what
-- `changes_in_use_are_counted` says holds of it.
abbrev pub UpperChangesAreCounted : Type 0
UpperChangesAreCounted =
    (world : World ℕ) (location : Location ℕ) (inodes : Inodes ℕ) (change : Change ℕ) → IsWorld nat_eq world
    → is_overlay (filesystem_at nat_eq world location) ≡ false
    → IsCounted (lowered (unnamed_pins world) world) (filesystem_at nat_eq world location) inodes
    → Fits inodes change → LinksWhatIsThere inodes change
    → IsChangeInUse (lowered (unnamed_pins world) world) location inodes change

-- So is a row of changes that fit, each in its turn, whatever else of their upper objects overlays pin: what
-- `rows_are_counted` says holds of it. What loses its last name in the row, and is in use, is pinned before it.
abbrev pub UpperRowsAreCounted : Type 0
UpperRowsAreCounted =
    (pins : Pins) (world : World ℕ) (number : ℕ) (inodes : Inodes ℕ) (row : List (Change ℕ)) → IsWorld nat_eq world
    → All (ArePinned pins world) world.filesystems → All (PinsInLayers pins) world.filesystems
    → is_overlay (filesystem_numbered nat_eq world number) ≡ false
    → IsCounted (lowered pins world) (filesystem_numbered nat_eq world number) inodes
    → Swept.FitInTurn (filesystem_numbered nat_eq world number).files inodes row
    → Swept.IsRowInUse (lowered pins world) number inodes row

-- a row of changes that take no name, each proper in the tree, and fit for the counted inodes, when its turn comes
abbrev pub FitInTurn : FileTree ℕ → Inodes ℕ → List (Change ℕ) → Type 0
FitInTurn files inodes [] = ⊤
FitInTurn files inodes (change ∷ rest) =
    TakesNoName change × IsProper files.tree change × Fits inodes change × LinksWhatIsThere inodes change
    × FitInTurn (changed nat_eq files change) (Counted.changed nat_eq inodes change) rest

-- a world in which all is in use, without upper layers, and the counted inodes of a plain filesystem in it
pub record IsCountedInUse (world : World ℕ) (location : Location ℕ) (inodes : Inodes ℕ) : Type 0 where
  pub in_use : AllInUse world
  pub trees : HasTrees world
  pub one_filesystem : any_pair (λ (a b : Filesystem ℕ). nat_eq a.number b.number) world.filesystems ≡ false
  pub no_upper : OverlaysHaveNoUpper world
  pub plain : is_overlay (filesystem_at nat_eq world location) ≡ false
  pub counted : IsCounted world (filesystem_at nat_eq world location) inodes

-- Then all is in use after the row, so the sweep frees nothing, and the changed inodes are counted.
abbrev pub RowsAreCounted : Type 0
RowsAreCounted =
    (world : World ℕ) (location : Location ℕ) (inodes : Inodes ℕ) (row : List (Change ℕ))
    → IsCountedInUse world location inodes → FitInTurn (filesystem_at nat_eq world location).files inodes row
    → IsCountedInUse
    (with_tree world (filesystem_of world location) (after_row (filesystem_at nat_eq world location).files row))
    location (folded (Counted.changed nat_eq) inodes row)

-- Uses that come and go with tasks and mounts

-- Where mounts and tasks change alone, what they exchange they exchange in the lowered worlds.
abbrev pub ExchangesAreLowered : Type 0
ExchangesAreLowered =
    (pins : Pins) (world after : World ℕ) (gained lost : List Inode) (filesystem : ℕ)
    → after.filesystems ≡ world.filesystems → Exchanges gained lost filesystem world after
    → Exchanges gained lost filesystem (lowered pins world) (lowered pins after)

-- Where uses come and go in the lowered world, in which overlays pin what has no name, before an event and after the
-- sweep, the inodes that are left are counted there: what `uses_are_swept_beside_overlays` says.
abbrev pub UsesAboveAreSwept : Type 0
UsesAboveAreSwept =
    (world after : World ℕ) (gained lost : List Inode) (filesystem : ℕ) (inodes : Inodes ℕ) → IsWorld nat_eq world
    → IsUnderWay after → OverlayInvariants nat_eq after
    → Exchanges gained lost filesystem (lowered (unnamed_pins world) world)
    (in_use_of (lowered (unnamed_pins (settled nat_eq after)) after))
    → IsCounted (lowered (unnamed_pins world) world)
    (filesystem_numbered nat_eq (lowered (unnamed_pins world) world) filesystem) inodes
    → AreThere filesystem inodes gained
    → IsCounted (lowered (unnamed_pins (settled nat_eq after)) (settled nat_eq after))
    (filesystem_numbered nat_eq (lowered (unnamed_pins (settled nat_eq after)) (settled nat_eq after)) filesystem)
    (exchanged filesystem gained lost inodes)
