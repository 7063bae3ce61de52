use Rattle.std.proofs.Common.{false, slice_index_or, ℕ, ◌<◌, ◌≡◌}
use Rattle.vt_location.specs.Locations.{inode_of}
use Rattle.vt_location.specs.Numbers.{exchanged}
use Rattle.vt_store.proofs.locks.has_name_in_layer.Given as goal
use Rattle.vt_store.specs.Locks.{names_in_layer}

-- no directory so far has a name for the file and lies in a layer
abbrev pub invariant-loop-directory : goal.invariant-loop-directory
invariant-loop-directory l = (k : ℕ) → k < l.directory-index
    → names_in_layer l.plain l.overlays l.file.filesystem.count (inode_of l.file)
    (exchanged l.file.filesystem.count (slice_index_or l.directories k 0)) ≡ false
