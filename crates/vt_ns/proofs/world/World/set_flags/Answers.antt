use Rattle.std.proofs.Common.{sym, subst}
use Rattle.vt_spec.proofs.Common.{ToSetFlags}
use Rattle.vt_ns.proofs.Common.{Becomes, IsDone, Permits, counted, flags_of, remade}
use Rattle.vt_ns.specs.contracts.world.World.{the_view}
use Rattle.vt_mounting.proofs.detach.TypesSet.{flags_are_set}
use Rattle.vt_ns.proofs.world.World.set_flags.Goals as goal

pub invariant_of-self : goal.invariant_of-self
invariant_of-self c = (subst (λ mounts. IsDone (the_view c.self.inside) c.args.name.now
    (ToSetFlags (counted c.args.mount.count) (flags_of c.args.flags))
    (remade (the_view c.self.inside) mounts c.self.inside.store.plain c.self.inside.tasks.tasks)) (sym c.set_flags.ensures)
    (flags_are_set (the_view c.self.inside) c.self.invariant c.args.name.now (counted c.args.mount.count)
    (flags_of c.args.flags)
    (subst (λ value. Permits value c.args.name.now (ToSetFlags (counted c.args.mount.count) (flags_of c.args.flags)))
    (sym c.self.view_is) c.requires))).held

pub returns-clause-ok : goal.returns-clause-ok
returns-clause-ok c =
    subst (λ value. Becomes value c.args.name.now (ToSetFlags (counted c.args.mount.count) (flags_of c.args.flags))
    (remade (the_view c.self.inside) c.set_flags.new.self c.self.inside.store.plain c.self.inside.tasks.tasks)) c.self.view_is
    (subst (λ mounts. IsDone (the_view c.self.inside) c.args.name.now
    (ToSetFlags (counted c.args.mount.count) (flags_of c.args.flags))
    (remade (the_view c.self.inside) mounts c.self.inside.store.plain c.self.inside.tasks.tasks)) (sym c.set_flags.ensures)
    (flags_are_set (the_view c.self.inside) c.self.invariant c.args.name.now (counted c.args.mount.count)
    (flags_of c.args.flags)
    (subst (λ value. Permits value c.args.name.now (ToSetFlags (counted c.args.mount.count) (flags_of c.args.flags)))
    (sym c.self.view_is) c.requires))).becomes
