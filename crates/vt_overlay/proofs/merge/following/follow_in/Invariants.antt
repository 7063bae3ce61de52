use Rattle.std.proofs.Common.{◌≡◌, ◌||◌, drop, option_copied}
use Rattle.vt_spec.proofs.Common.{led}
use Rattle.vt_location.specs.Locations.{inode_of}
use Rattle.vt_overlay.specs.Merge.LayerValue.{cut_on, tree_seen}
use Rattle.vt_overlay.proofs.merge.following.follow_in.Given as goal

-- the names that are left lead on from here
abbrev pub invariant-loop-index : goal.invariant-loop-index
invariant-loop-index g l =
    let tree = tree_seen l.fn.directory.filesystem.count (option_copied l.tree) in
    let names = g.W.Way.names l.path in
    record {
      leads : led tree (inode_of l.fn.directory) names ≡ led tree (inode_of l.here) (drop l.index names);
      cuts : cut_on tree names (inode_of l.fn.directory) ≡
          (l.cut || cut_on tree (drop l.index names) (inode_of l.here));
      filesystem : l.here.filesystem ≡ l.fn.directory.filesystem;
    }
