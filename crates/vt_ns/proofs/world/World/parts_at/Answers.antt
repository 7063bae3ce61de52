use Rattle.std.proofs.Common.{refl, subst}
use Rattle.vt_spec.proofs.Common.{IfOk-weaker}
use Rattle.vt_ns.proofs.Common.{IsSeen, is_seen, world_of}
use Rattle.vt_ns.specs.contracts.world.World.{the_view}
use Rattle.vt_ns.proofs.world.World.parts_at.Goals as goal

pub returns : goal.returns
returns c = record {
  ok = IfOk-weaker c.parts.result _ _ (λ parts tells.
      tells (world_of c.args.self.now)
      (subst (λ value. IsSeen (world_of value) c.self.inside.mounts c.self.inside.groups) c.self.view_is
      (is_seen (the_view c.self.inside) c.self.invariant)) (λ filesystem top directory. refl)) c.parts.ensures.ok;
}
