-- The inode of a plain tree that a location leads to.
use Rattle.std.specs.Prelude.{None, Option, if◌then◌else◌}
use Rattle.vt_location.specs.Locations.{plain_at}
use Rattle.vt_location.specs.declared.locations.InodeRef.{InodeRef}
use Rattle.vt_location.specs.declared.locations.Location.{Location}
use Rattle.vt_mounting.specs.Detach.Looking.{is_seen}
use Rattle.vt_world.specs.WorldValue.{WorldValue}

-- where its mount shows that tree
abbrev pub plain_seen : WorldValue → Location → Option InodeRef
plain_seen value at = if is_seen value at then plain_at at.node at.node.birth else None
