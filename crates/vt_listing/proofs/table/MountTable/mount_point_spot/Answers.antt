use Rattle.std.proofs.Common.{◌∙◌}
use Rattle.vt_spec.proofs.Common.{IfOk-weaker}
use Rattle.vt_listing.proofs.MountPaths.{place_missing, place_there}
use Rattle.vt_listing.proofs.table.MountTable.mount_point_spot.Goals as goal

pub returns-in-Some : goal.returns-in-Some
returns-in-Some c = record {
  ok = IfOk-weaker c.spot_under.result _ _ (λ spot told world shows. told
      ∙ place_there c.args.self.now world shows c.args.place c.get.result c.get.ensures c.in-Some.mount c.in-Some.is)
      c.spot_under.ensures.ok;
}

pub returns-in-None : goal.returns-in-None
returns-in-None c = record {
  ok = λ world shows. place_missing c.args.self.now world shows c.args.place c.get.result c.get.ensures c.in-None.is;
}
