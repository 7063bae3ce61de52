use Rattle.std.proofs.Common.{false, is_some, ℕ, ◌&&◌, ◌<◌, ◌≡◌}
use Rattle.vt_fs.specs.FilesystemsValue.{files_at}
use Rattle.vt_location.specs.Numbers.{inode_number}
use Rattle.vt_overlaps.specs.Overlaps.{all_written, counts_under_both}
use Rattle.vt_overlaps.proofs.directories.overlaps_written.Given as goal

-- no inode in a slot so far is in both
abbrev pub invariant-loop-slot : goal.invariant-loop-slot
invariant-loop-slot l = (k : ℕ) → k < l.slot → (is_some ((files_at l.store.plain l.directory.filesystem.count).tree.node
    (inode_number l.directory.filesystem.count k))
    && counts_under_both l.store (all_written l.store.overlays) l.directory (inode_number l.directory.filesystem.count k)) ≡ false
