use Rattle.std.proofs.Common.{map, take}
use Rattle.vt_fs.specs.FilesystemsValue.{ChangesInodes}
use Rattle.vt_location.specs.Locations.{inode_of}
use Rattle.vt_upper.specs.Leaving.{let_go}
use Rattle.vt_upper.proofs.leaving.Leaving.let_go.Given as goal

-- so many are let go
abbrev pub invariant-loop-index : goal.invariant-loop-index
invariant-loop-index l = ChangesInodes l.self.object.filesystem.count
    (let_go (take l.index (map inode_of l.self.inodes.items))) l.fn.trees l.trees
