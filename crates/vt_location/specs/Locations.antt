-- What the definitions see of nodes and locations.
use Rattle.std.specs.Prelude.{Bool, None, Option, Some, nat_lt, ℕ, ◌&&◌}
use Rattle.vt_spec.specs.Machine.Mounts as meant
use Rattle.vt_location.specs.declared.births.Birth.{Birth}
use Rattle.vt_location.specs.declared.births.Birth.TheVariants.{Below, Here}
use Rattle.vt_location.specs.declared.locations.InodeRef.{InodeRef}
use Rattle.vt_location.specs.declared.locations.Location.{Location}
use Rattle.vt_location.specs.declared.locations.NodeRef.{NodeRef}
use Rattle.vt_location.specs.Births.{born_in, is_small_birth}
use Rattle.vt_location.specs.Numbers.{counted, inode_number}

-- the number of an inode of a plain filesystem
abbrev pub inode_of : InodeRef → ℕ
inode_of inode = inode_number inode.filesystem.count inode.slot

-- the number of a node: of one that was born here, that of an inode in its slot
abbrev pub number_of : NodeRef → ℕ
number_of node = inode_number (born_in node.filesystem.count node.birth) node.slot

abbrev pub location_of : Location → meant.Location ℕ
location_of location = record { mount = counted location.mount.count; node = number_of location.node }

-- the inode of a plain filesystem that a node is, if it was born here
abbrev pub plain_at : NodeRef → Birth → Option InodeRef
plain_at node Here = Some (record { filesystem = node.filesystem; slot = node.slot })
plain_at node (Below layer directory rank) = None

abbrev pub plain_of : NodeRef → Option InodeRef
plain_of node = plain_at node node.birth

-- what code has in 64 bits is below 2^64
abbrev pub is_small_node : NodeRef → Bool
is_small_node node =
    nat_lt node.filesystem.count 18446744073709551616
    && (nat_lt node.slot 18446744073709551616 && is_small_birth node.birth)
