use Rattle.std.proofs.Common.{◌≡◌, ◌<◌, All, map, take}
use Rattle.vt_spec.proofs.Common.{uses_in}
use Rattle.vt_spec.specs.FileTree.{targets_in}
use Rattle.vt_fs.specs.FilesystemsValue.{files_at, inodes_at}
use Rattle.vt_location.specs.declared.locations.InodeRef.{InodeRef}
use Rattle.vt_location.specs.Locations.{inode_of}
use Rattle.vt_location.specs.Numbers.{most_counted}
use Rattle.vt_upper.proofs.leaving.Leaving.of.Given as goal

-- so many are found, and each may be held
abbrev pub invariant-loop-index : goal.invariant-loop-index
invariant-loop-index l =
    let f = l.fn.object.filesystem.count in
    record {
      inodes : map inode_of l.inodes.items
          ≡ take l.index (targets_in ((files_at l.trees f).tree.node (inode_of l.fn.object)));
      own : All (λ (inode : InodeRef). inode.filesystem ≡ l.fn.object.filesystem) l.inodes.items;
      few : All (λ number. uses_in ((inodes_at l.trees f).inode number) < most_counted)
          (map inode_of l.inodes.items);
    }
