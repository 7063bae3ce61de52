use Rattle.std.proofs.Common.{◌≡◌, drop}
use Rattle.vt_fs.specs.FilesystemsValue.{files_at}
use Rattle.vt_location.specs.Locations.{inode_of}
use Rattle.vt_overlay.specs.Merge.LayerValue.{cut_on}
use Rattle.vt_upper.proofs.lowers.is_cut.Given as goal

-- nothing hides so far
abbrev pub invariant-loop-index : goal.invariant-loop-index
invariant-loop-index g l =
    let tree = (files_at l.trees l.fn.directory.filesystem.count).tree in
    let names = g.W.Way.names l.path in
    record {
      cut : cut_on tree names (inode_of l.fn.directory) ≡ cut_on tree (drop l.index names) (inode_of l.here);
      beside : l.here.filesystem ≡ l.fn.directory.filesystem;
    }
