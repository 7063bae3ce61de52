-- What an attachment asks of the world to which it attaches, beside its plain filesystems: an overlay of it may have no
-- mount yet.
use Rattle.std.proofs.Common.{◌≡◌, ℕ, false, true, is_some, All}
use Rattle.vt_spec.proofs.Common.{Filesystem, is_overlay, of_overlay}
use Rattle.vt_laws_mounts.proofs.counts.using.MountRoots as Roots
use Rattle.vt_mounting.proofs.Common.{CountsItsUses, CountsWhatIsInIt, Has, HasOwnNodes, IsHeld, IsMountedSoOften, LocationsStand, MountsStand, WorldValue, all_from_among, among_from_all, are_rising, mounts_of_worlds_stand, overlays_seen, world_of}
use Rattle.vt_mounting.proofs.detach.PlainFound.{overlay_among}

-- an overlay without an upper layer
abbrev pub IsReadOnly : Filesystem ℕ → Type 0
IsReadOnly filesystem = of_overlay false (λ overlay. is_some overlay.upper) filesystem ≡ false

pub record IsBeside (value : WorldValue) : Type 0 where
  pub mounts_stand : MountsStand (world_of value)
  pub locations_stand : LocationsStand (world_of value)
  pub merged : All (λ filesystem. is_overlay filesystem ≡ true) (overlays_seen value.overlays)
  pub read_only : All IsReadOnly (overlays_seen value.overlays)
  pub overlays_rise : are_rising (overlays_seen value.overlays) ≡ true
  pub own_nodes : All HasOwnNodes (overlays_seen value.overlays)
  pub overlays : All (IsMountedSoOften (world_of value)) value.overlays
  pub groups : Has (world_of value) value.groups
  pub uses : All (CountsItsUses (world_of value)) value.mounts
  pub namespaces : All (CountsWhatIsInIt (world_of value)) value.namespaces

-- the code's world is such a one
pub is_beside : (value : WorldValue) → IsHeld value → IsBeside value
is_beside value whole = record {
  mounts_stand = mounts_of_worlds_stand (world_of value) whole.in_world;
  locations_stand = Roots.locations_of_worlds_stand (world_of value) whole.in_world;
  merged = whole.overlays.merged;
  read_only = all_from_among IsReadOnly (overlays_seen value.overlays) (λ overlay m.
      among_from_all IsReadOnly (world_of value).filesystems whole.overlays.read_only overlay
      (overlay_among value whole.overlays overlay m).0);
  overlays_rise = whole.overlays.overlays_rise;
  own_nodes = whole.overlays.own_nodes;
  overlays = whole.overlays.mounts;
  groups = whole.groups;
  uses = whole.mounts;
  namespaces = whole.namespaces;
}
