-- A file that is made before it is opened: open(2) with O_CREAT.
use Rattle.std.specs.Prelude.{List, nat_eq, ℕ}
use Rattle.vt_fs.specs.FilesystemsValue.{ChangesInodes, Filesystems, entry_at, next_seen, node_seen}
use Rattle.vt_location.specs.Locations.{number_of}
use Rattle.vt_location.specs.declared.locations.NodeRef.{NodeRef}
use Rattle.vt_spec.specs.Inodes.{changed}
use Rattle.vt_spec.specs.Language.Changes.Change.{Make}
use Rattle.vt_spec.specs.Tree.{Node}

-- a filesystem has its next inode under this name of a directory
pub record MakesNext (directory : NodeRef) (name : List ℕ) (node : Node ℕ) (old new : Filesystems) : Type 0 where
  pub made : ChangesInodes directory.filesystem.count
      (λ inodes. changed nat_eq inodes (Make (number_of directory) name
      (next_seen (entry_at old directory.filesystem.count)) (node_seen directory.filesystem.count node))) old new
