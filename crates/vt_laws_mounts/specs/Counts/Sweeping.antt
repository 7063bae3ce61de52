-- Counted inodes after the sweep at the end of a call, and in worlds that differ in change numbers and the order of
-- numbers.
use Rattle.std.specs.Prelude.{List, nat_eq, ℕ}
use Rattle.vt_spec.specs.Machine.SameWorlds.{SameWorlds}
use Rattle.vt_spec.specs.Machine.Settled.{settled}
use Rattle.vt_spec.specs.Machine.World.{World, filesystem_numbered}
use Rattle.vt_spec.specs.Inodes.{Inodes}
use Rattle.vt_laws_mounts.specs.LettingGo.InUse.{HasTrees, InodesInUse}
use Rattle.vt_laws_mounts.specs.LettingGo.OneByOne.{Inode}
use Rattle.vt_laws_mounts.specs.Counts.Counted.{IsCounted, IsPlain}
use Rattle.vt_laws_mounts.specs.Counts.Using.{AreThere, Exchanges, exchanged}
use Rattle.vt_laws_mounts.specs.LettingGo.TreesOverlays.{in_use_of}

-- Where all inodes were in use, the sweep takes those that the exchange left without a use.
abbrev pub UsesAreSwept : Type 0
UsesAreSwept =
    (world after : World ℕ) (gained lost : List Inode) (filesystem : ℕ) (inodes : Inodes ℕ)
    → HasTrees world → InodesInUse world → IsPlain after → Exchanges gained lost filesystem world (in_use_of after)
    → IsCounted world (filesystem_numbered nat_eq world filesystem) inodes → AreThere filesystem inodes gained
    → IsCounted (settled nat_eq after) (filesystem_numbered nat_eq (settled nat_eq after) filesystem)
    (exchanged filesystem gained lost inodes)

-- Counts depend neither on change numbers nor on the order of the numbers beside trees.
abbrev pub SameWorldsCountAlike : Type 0
SameWorldsCountAlike =
    (one other : World ℕ) (filesystem : ℕ) (inodes : Inodes ℕ) → SameWorlds one other → IsPlain one
    → IsCounted one (filesystem_numbered nat_eq one filesystem) inodes
    → IsCounted other (filesystem_numbered nat_eq other filesystem) inodes
