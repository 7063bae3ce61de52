use Rattle.std.proofs.Common.{◌≡◌, take}
use Rattle.vt_spec.proofs.Common.{entries_in}
use Rattle.vt_spec.specs.Lists.{folded}
use Rattle.vt_fs.specs.FilesystemsValue.{ChangesInodes, files_at, inodes_promised}
use Rattle.vt_location.specs.Locations.{inode_of}
use Rattle.vt_upper.specs.Leaving.{freed_once}
use Rattle.vt_upper.proofs.leaving.Leaving.empty.Given as goal

-- so many names are gone
abbrev pub invariant-loop-index : goal.invariant-loop-index
invariant-loop-index l =
    let f = l.self.object.filesystem.count in
    let listed = entries_in ((files_at l.fn.trees f).tree.node (inode_of l.self.object)) in
    record {
      changes : ChangesInodes f (λ inodes. folded (freed_once (inode_of l.self.object)) inodes (take l.index listed))
          l.fn.trees l.trees;
      promised : inodes_promised l.trees f ≡ inodes_promised l.fn.trees f;
    }
