use Rattle.std.proofs.Common.{◌≡◌, Some, take}
use Rattle.vt_spec.specs.Machine.Layers.{at_path}
use Rattle.vt_location.specs.Locations.{inode_of}
use Rattle.vt_overlay.specs.Merge.LayerValue.{opened}
use Rattle.vt_copyup.proofs.planning.led_above.Given as goal

-- the names so far lead here
abbrev pub invariant-loop-index : goal.invariant-loop-index
invariant-loop-index g l = record {
  leads : at_path (opened l.trees l.fn.directory) (take l.index (g.W.Way.names l.path)) ≡ Some (inode_of l.here);
  beside : l.here.filesystem ≡ l.fn.directory.filesystem;
}
