use Rattle.vt_spec.proofs.Common.{IfOk-weaker}
use Rattle.vt_ns.proofs.Common.{location_of}
use Rattle.vt_ns.proofs.Overfilling.{overlay_overfills}
use Rattle.vt_ns.proofs.world.World.has_too_many_with_overlay.Goals as goal

pub returns : goal.returns
returns c = record {
  ok = λ overlay flags. IfOk-weaker c.has_too_many_with.result _ _ (λ too_many tells.
      overlay_overfills c.args.self.now c.has_too_many_with.ensures.held (location_of c.args.destination) too_many overlay flags tells)
      c.has_too_many_with.ensures.ok;
}
