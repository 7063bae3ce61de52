-- Several uses of a location that come or go at once: pivot_root(2).
use Rattle.std.specs.Prelude.{false, suc, zero, ℕ}
use Rattle.vt_location.specs.declared.locations.Location.{Location}
use Rattle.vt_location.specs.Numbers.{counted}
use Rattle.vt_mounting.specs.Detach.Uses.{Kept, inode_of, released_use, with_location}

-- so many uses more of a location, none of them a file that is open for writing
abbrev pub with_uses : ℕ → Location → Kept → Kept
with_uses zero at k = k
with_uses (suc n) at k = with_location at false (with_uses n at k)

-- and so many less, after which what was used is used still
abbrev pub without_uses : ℕ → Location → Kept → Kept
without_uses zero at k = k
without_uses (suc n) at k = released_use (counted at.mount.count) (inode_of at.node) false (without_uses n at k)
