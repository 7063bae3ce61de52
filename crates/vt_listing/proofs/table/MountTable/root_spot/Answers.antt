use Rattle.std.proofs.Common.{ap, ◌∙◌}
use Rattle.vt_spec.proofs.Common.{spot_of}
use Rattle.vt_listing.proofs.MountPaths.{root_there}
use Rattle.vt_listing.proofs.table.MountTable.root_spot.Goals as goal

pub path_from_root-requires : goal.path_from_root-requires
path_from_root-requires c = record {
  standing = c.requires.standing;
  once = c.requires.once c.args.mount.now.root.filesystem.count;
}

pub returns : goal.returns
returns c = record {
  ok = λ world shows. c.reached.ensures ∙ ap spot_of c.in_ok-path_from_root.ensures.ok
      ∙ root_there c.args.self.now world shows c.args.mount.now;
}
