use Rattle.std.proofs.Common.{sym, subst, ap, ◌∙◌}
use Rattle.vt_spec.proofs.Common.{ToSetCredentials, with_dropped}
use Rattle.vt_cred.specs.Caps.{capability_bits}
use Rattle.vt_ns.proofs.Common.{Becomes, Permits, WorldValue, after}
use Rattle.vt_mounting.specs.Detach.Events.{credentials_called}
use Rattle.vt_mounting.proofs.detach.Staying.{caps_are_dropped}
use Rattle.vt_ns.specs.contracts.world.World.{the_view}
use Rattle.vt_ns.proofs.world.Births.{births_are, held_with, tasks_are}
use Rattle.vt_ns.proofs.world.World.drop_caps.Goals as goal

pub invariant_of-self : goal.invariant_of-self
invariant_of-self c =
    held_with (caps_are_dropped (the_view c.self.inside) c.args.name.now
    (capability_bits c.args.dropped) c.drop_caps.new.self.tasks c.self.invariant
    (subst (λ value. Permits value c.args.name.now
    (ToSetCredentials (with_dropped (credentials_called value c.args.name.now) (capability_bits c.args.dropped))))
    (sym c.self.view_is) c.requires) (tasks_are c.drop_caps.ensures)).held c.drop_caps.new.self.births

pub returns-clause-ok : goal.returns-clause-ok
returns-clause-ok c = subst (λ value. Becomes value c.args.name.now
    (ToSetCredentials (with_dropped (credentials_called value c.args.name.now) (capability_bits c.args.dropped)))
    (after (the_view c.self.inside) c.drop_caps.new.self.tasks)) c.self.view_is
    (caps_are_dropped (the_view c.self.inside) c.args.name.now
    (capability_bits c.args.dropped) c.drop_caps.new.self.tasks c.self.invariant
    (subst (λ value. Permits value c.args.name.now
    (ToSetCredentials (with_dropped (credentials_called value c.args.name.now) (capability_bits c.args.dropped))))
    (sym c.self.view_is) c.requires) (tasks_are c.drop_caps.ensures)).becomes

pub returns-clause-counts : goal.returns-clause-counts
returns-clause-counts c = record {
  numbers = ap (λ (value : WorldValue). value.next) c.self.view_is;
  births = births_are c.drop_caps.ensures ∙ ap (λ (value : WorldValue). value.births) c.self.view_is;
}
