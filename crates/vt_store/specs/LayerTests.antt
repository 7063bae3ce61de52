-- Where a layer is.
use Rattle.std.specs.Prelude.{Bool, nat_eq, ℕ, ◌&&◌}
use Rattle.vt_location.specs.declared.locations.InodeRef.{InodeRef}
use Rattle.vt_location.specs.declared.numbers.FilesystemId.{FilesystemId}
use Rattle.vt_overlay.specs.declared.merge.layers.LayerRef.{LayerRef}

abbrev pub same_filesystem : FilesystemId → FilesystemId → Bool
same_filesystem one other = nat_eq one.count other.count

abbrev pub same_inode : InodeRef → InodeRef → Bool
same_inode one other = same_filesystem one.filesystem other.filesystem && nat_eq one.slot other.slot

-- the layer of a directory
abbrev pub layer_at : FilesystemId → ℕ → LayerRef
layer_at filesystem slot = record { directory = record { filesystem = filesystem; slot = slot } }

-- the directory of a layer is in a filesystem
abbrev pub stands_in : ℕ → LayerRef → Bool
stands_in count layer = nat_eq count layer.directory.filesystem.count

-- and is this one
abbrev pub stands_at : InodeRef → LayerRef → Bool
stands_at directory layer = same_inode directory layer.directory
