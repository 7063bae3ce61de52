use Rattle.std.proofs.Common.{false, nat_eq, slice_index_or, ℕ, ◌<◌, ◌≡◌}
use Rattle.vt_spec.proofs.Common.{has_entry_to}
use Rattle.vt_fs.specs.FilesystemsValue.{files_at}
use Rattle.vt_location.specs.Locations.{inode_of}
use Rattle.vt_location.specs.Numbers.{exchanged}
use Rattle.vt_store.proofs.naming.is_named.Given as goal

-- no directory so far has a name for the inode
abbrev pub invariant-loop-directory : goal.invariant-loop-directory
invariant-loop-directory l = (k : ℕ) → k < l.directory-index
    → has_entry_to nat_eq (files_at l.plain l.inode.filesystem.count).tree
    (exchanged l.inode.filesystem.count (slice_index_or l.directories k 0)) (inode_of l.inode) ≡ false
