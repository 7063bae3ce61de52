use Rattle.std.proofs.Common.{ap, ◌∙◌}
use Rattle.vt_spec.proofs.Common.{spot_of}
use Rattle.vt_listing.proofs.table.MountTable.spot_under.Goals as goal

pub path_down-requires : goal.path_down-requires
path_down-requires c = record {
  standing = c.requires.standing;
  once = c.requires.once c.args.top.filesystem.count;
}

pub returns : goal.returns
returns c = record {
  ok = c.reached.ensures ∙ ap spot_of c.in_ok-path_down.ensures.ok;
}
