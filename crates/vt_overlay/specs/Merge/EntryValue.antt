-- Directories that are merged at a path, and the entry of them that decides what layers show under a name.
use Rattle.std.specs.Prelude.{List, Option, Some, [], slice_get, ℕ, ◌++◌, ◌∷◌, ◌≡◌}
use Rattle.vt_spec.specs.Machine.Layers.{Shown, at_path, shown, view_of}
use Rattle.vt_spec.specs.Machine.Views.{visible}
use Rattle.vt_spec.specs.TreeInvariant.{entry_at}
use Rattle.vt_location.specs.Locations.{inode_of}
use Rattle.vt_fs.specs.FilesystemsValue.{Filesystems}
use Rattle.vt_overlay.specs.Merge.LayerValue.{layer_of, layers_of, opened}
use Rattle.vt_overlay.specs.declared.merge.layers.LayerEntry.{LayerEntry}
use Rattle.vt_overlay.specs.declared.merge.layers.LayerRef.{LayerRef}
use Rattle.vt_overlay.specs.declared.merge.layers.MergedDirectory.{MergedDirectory}

-- a directory of a layer to which the path leads there
pub record IsMergedAt (trees : Filesystems) (layers : List LayerRef) (path : List (List ℕ)) (merged : MergedDirectory)
    : Type 0 where
  pub lower : LayerRef
  pub layer : slice_get layers merged.layer ≡ Some lower
  pub filesystem : merged.directory.filesystem ≡ lower.directory.filesystem
  pub leads : at_path (layer_of trees lower) path ≡ Some (inode_of merged.directory)

-- its directory has this entry
pub record IsEntry (trees : Filesystems) (name : List ℕ) (found : LayerEntry) : Type 0 where
  pub filesystem : found.object.filesystem ≡ found.above.directory.filesystem
  pub leads : entry_at (opened trees found.above.directory).tree (inode_of found.above.directory) name
      ≡ Some (inode_of found.object)

-- what is shown of it, which is nothing of a whiteout
abbrev pub entry_shown : Filesystems → LayerEntry → Option (Shown ℕ)
entry_shown trees found =
    visible (view_of (opened trees found.above.directory)) found.above.layer (inode_of found.object)

-- the entry that decides what layers show under a name of the directory at a path
pub record IsFirstEntry (trees : Filesystems) (layers : List LayerRef) (path : List (List ℕ)) (name : List ℕ)
    (found : LayerEntry) : Type 0 where
  pub above : IsMergedAt trees layers path found.above
  pub entry : IsEntry trees name found
  pub shows : shown (layers_of trees layers) (path ++ name ∷ []) ≡ entry_shown trees found
