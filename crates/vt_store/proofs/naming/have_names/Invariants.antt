use Rattle.std.proofs.Common.{true, ℕ, ◌<◌, ◌≡◌}
use Rattle.vt_fs.specs.FilesystemsValue.{files_at}
use Rattle.vt_location.specs.Numbers.{inode_number}
use Rattle.vt_store.specs.Naming.{lacks_no_name}
use Rattle.vt_store.proofs.naming.have_names.Given as goal

-- no slot so far has an inode without a name
abbrev pub invariant-loop-slot : goal.invariant-loop-slot
invariant-loop-slot l = (k : ℕ) → k < l.slot
    → lacks_no_name (files_at l.plain l.filesystem.count) (inode_number l.filesystem.count k) ≡ true
