use Rattle.std.proofs.Common.{sym, subst, ap, ◌∙◌}
use Rattle.vt_spec.proofs.Common.{ToSetUmask}
use Rattle.vt_ns.proofs.Common.{Becomes, Permits, WorldValue, after}
use Rattle.vt_mounting.proofs.detach.Staying.{umask_is_set}
use Rattle.vt_ns.specs.contracts.world.World.{the_view}
use Rattle.vt_ns.proofs.world.Births.{births_are, held_with, tasks_are}
use Rattle.vt_ns.proofs.world.World.set_umask.Goals as goal

pub invariant_of-self : goal.invariant_of-self
invariant_of-self c =
    held_with (umask_is_set (the_view c.self.inside) c.args.name.now c.args.umask c.set_umask.new.self.tasks c.self.invariant
    (subst (λ value. Permits value c.args.name.now (ToSetUmask c.args.umask))
    (sym c.self.view_is) c.requires) (tasks_are c.set_umask.ensures)).held c.set_umask.new.self.births

pub returns-clause-ok : goal.returns-clause-ok
returns-clause-ok c = subst (λ value. Becomes value c.args.name.now (ToSetUmask c.args.umask)
    (after (the_view c.self.inside) c.set_umask.new.self.tasks)) c.self.view_is
    (umask_is_set (the_view c.self.inside) c.args.name.now c.args.umask c.set_umask.new.self.tasks c.self.invariant
    (subst (λ value. Permits value c.args.name.now (ToSetUmask c.args.umask))
    (sym c.self.view_is) c.requires) (tasks_are c.set_umask.ensures)).becomes

pub returns-clause-counts : goal.returns-clause-counts
returns-clause-counts c = record {
  numbers = ap (λ (value : WorldValue). value.next) c.self.view_is;
  births = births_are c.set_umask.ensures ∙ ap (λ (value : WorldValue). value.births) c.self.view_is;
}
