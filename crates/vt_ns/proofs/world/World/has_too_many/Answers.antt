use Rattle.std.proofs.Common.{ap, sym, ◌∙◌}
use Rattle.vt_spec.proofs.Common.{IfOk-weaker}
use Rattle.vt_ns.proofs.Common.{flags_of, location_of}
use Rattle.vt_permits.specs.GrantValue.{attachment_permit}
use Rattle.vt_mounting.specs.Detach.Looking.{overfills_of}
use Rattle.vt_ns.proofs.Overfilling.{bind_overfills, plain_overfills}
use Rattle.vt_ns.proofs.world.World.has_too_many.Goals as goal

pub returns-in-Plain : goal.returns-in-Plain
returns-in-Plain c = record {
  ok = IfOk-weaker c.has_too_many_with.result _ _ (λ too_many tells.
      plain_overfills c.args.self.now c.has_too_many_with.ensures.held (location_of c.in-Plain.destination) too_many
      (flags_of c.in-Plain.flags) tells
      ∙ ap (λ attachment. overfills_of c.args.self.now (attachment_permit attachment)) (sym c.in-Plain.is))
      c.has_too_many_with.ensures.ok;
}

pub returns-in_ok-count-in-Bind : goal.returns-in_ok-count-in-Bind
returns-in_ok-count-in-Bind c = record {
  ok = let value = c.args.self.now in
      let source = location_of c.in-Bind.bind.source in
      let destination = location_of c.in-Bind.bind.destination in
      IfOk-weaker c.has_too_many_with-in-Bind.result _ _ (λ too_many tells.
      bind_overfills value c.has_too_many_with-in-Bind.ensures.held destination too_many source c.in-Bind.bind.recursive
      (λ one copies added same invariants parts size.
      tells one copies added same invariants parts (size ∙ sym c.in_ok-count-in-Bind.ensures.ok))
      ∙ ap (λ attachment. overfills_of value (attachment_permit attachment)) (sym c.in-Bind.is))
      c.has_too_many_with-in-Bind.ensures.ok;
}
