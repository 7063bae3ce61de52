-- The code's world is one that propagation sees.
use Rattle.std.proofs.Common.{sym}
use Rattle.vt_propagate.specs.Going.{CountsUses}
use Rattle.vt_ns.proofs.Common.{IsHeld, WorldValue, world_of}
use Rattle.vt_ns.proofs.MountLooks.{uses_tested}

-- code counts the uses of each mount
pub uses_seen : (value : WorldValue) → IsHeld value → CountsUses (world_of value) value.mounts
uses_seen value held number = sym (uses_tested value held number)
