use Rattle.std.proofs.Common.{false, ℕ, ◌<◌, ◌≡◌}
use Rattle.vt_location.specs.Locations.{inode_of}
use Rattle.vt_location.specs.Numbers.{inode_number}
use Rattle.vt_overlaps.specs.Overlaps.{is_in_both}
use Rattle.vt_overlaps.proofs.overlaps.overlaps_live.Given as goal

-- no inode in a slot so far lies in both
abbrev pub invariant-loop-slot : goal.invariant-loop-slot
invariant-loop-slot l = (k : ℕ) → k < l.slot
    → is_in_both l.store l.directory.filesystem.count (inode_of l.directory) (inode_number l.directory.filesystem.count k) ≡ false
