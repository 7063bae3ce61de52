-- Entries along a path of one tree.
use Rattle.std.proofs.Common.{◌≡◌, ◌∙◌, None, Some, ap, sym, ℕ, List}
use Rattle.vt_spec.proofs.Common.{entry_at}
use Rattle.vt_fs.specs.FilesystemsValue.{Filesystems, files_at}
use Rattle.vt_location.specs.declared.locations.InodeRef.{InodeRef}
use Rattle.vt_location.specs.declared.numbers.FilesystemId.{FilesystemId}
use Rattle.vt_location.specs.Locations.{inode_of}
use Rattle.vt_overlay.specs.declared.merge.layers.LayerEntry.{LayerEntry}
use Rattle.vt_overlay.specs.declared.merge.layers.MergedDirectory.{MergedDirectory}
use Rattle.vt_overlay.specs.Merge.EntryValue.{IsEntry}
use Rattle.vt_overlay.specs.Merge.LayerValue.{opened}

module _ (trees : Filesystems) (directory here : InodeRef) (beside : here.filesystem ≡ directory.filesystem)
    (name : List ℕ) where
  abbrev f : ℕ
  f = directory.filesystem.count

  pub nothing_at : entry_at (opened trees here).tree (inode_of here) name ≡ None
      → entry_at (files_at trees f).tree (inode_of here) name ≡ None
  nothing_at none = ap (λ (id : FilesystemId). entry_at (files_at trees id.count).tree (inode_of here) name) (sym beside)
      ∙ none

  module _ (found : LayerEntry) (above : found.above ≡ record { layer = 0; directory = here })
      (entry : IsEntry trees name found) where
    pub is_beside : found.object.filesystem ≡ directory.filesystem
    is_beside = entry.filesystem ∙ ap (λ (m : MergedDirectory). m.directory.filesystem) above ∙ beside

    pub found_at : entry_at (files_at trees f).tree (inode_of here) name ≡ Some (inode_of found.object)
    found_at = ap (λ (id : FilesystemId). entry_at (files_at trees id.count).tree (inode_of here) name) (sym beside)
        ∙ ap (λ (m : MergedDirectory). entry_at (opened trees m.directory).tree (inode_of m.directory) name) (sym above)
        ∙ entry.leads
