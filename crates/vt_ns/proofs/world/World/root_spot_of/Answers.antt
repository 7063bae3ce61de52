use Rattle.vt_spec.proofs.Common.{IfOk-weaker}
use Rattle.vt_ns.proofs.Common.{world_of}
use Rattle.vt_ns.proofs.world.World.root_spot_of.Goals as goal

pub root_spot-requires : goal.root_spot-requires
root_spot-requires c = record { standing = c.table.ensures.standing; once = c.table.ensures.once }

pub returns : goal.returns
returns c = record {
  ok = IfOk-weaker c.root_spot.result _ _ (λ spot told. told (world_of c.args.self.now) c.table.ensures.shown)
      c.root_spot.ensures.ok;
}
