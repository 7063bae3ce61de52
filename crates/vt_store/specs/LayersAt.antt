-- How many layers are in each filesystem, and at each directory.
use Rattle.std.specs.Prelude.{All, Bool, List, count_by, length, nat_lt, ℕ, ◌+◌, ◌<◌, ◌^◌, ◌≡◌, ◌≤◌}
use Rattle.vt_location.specs.declared.locations.InodeRef.{InodeRef}
use Rattle.vt_location.specs.declared.numbers.FilesystemId.{FilesystemId}
use Rattle.vt_overlay.specs.declared.merge.layers.LayerRef.{LayerRef}
use Rattle.vt_store.specs.declared.layer_counts.LayerCounts.{LayerCounts}
use Rattle.vt_store.specs.LayerTests.{same_filesystem, same_inode, stands_at, stands_in}
use Rattle.vt_store.specs.Tallies.{room, times}

-- these layers are counted, and no others
pub record AreCounted (layers : List LayerRef) (counts : LayerCounts) : Type 0 where
  pub filesystems : (filesystem : FilesystemId)
      → times same_filesystem filesystem counts.in_filesystem ≡ count_by (stands_in filesystem.count) layers
  pub directories : (directory : InodeRef)
      → times same_inode directory counts.at_directory ≡ count_by (stands_at directory) layers
  pub small : All (λ layer. layer.directory.slot < 2 ^ 64) layers
  pub total : counts.total ≡ length layers

-- some layers are
abbrev pub AreOfLayers : LayerCounts → Type 0
AreOfLayers counts = (layers : List LayerRef) × AreCounted layers counts

-- so many layers more can be counted
pub record HasRoomForLayers (more : ℕ) (counts : LayerCounts) : Type 0 where
  pub filesystems : more ≤ room counts.in_filesystem
  pub directories : more ≤ room counts.at_directory
  pub few : counts.total + more < 2 ^ 64

-- a layer is in a filesystem, and at a directory
abbrev pub has_layer_in : LayerCounts → FilesystemId → Bool
has_layer_in counts filesystem = nat_lt 0 (times same_filesystem filesystem counts.in_filesystem)

abbrev pub has_layer_at : LayerCounts → InodeRef → Bool
has_layer_at counts directory = nat_lt 0 (times same_inode directory counts.at_directory)
