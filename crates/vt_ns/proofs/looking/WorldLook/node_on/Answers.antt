use Rattle.std.proofs.Common.{rules, false, sym, true, ◌∙◌}
use Rattle.vt_ns.proofs.Common.{store_stands}
use Rattle.vt_ns.proofs.looking.LooksKept.{no_object, object_is, seen_on}
use Rattle.vt_ns.proofs.looking.WorldLook.node_on.Goals as goal
use Rattle.vt_ns.specs.contracts.world.World.{the_view}

pub object-requires : goal.object-requires
object-requires c = store_stands (the_view c.self.inside) c.self.inside.store c.self.invariant

pub returns-then-eq : goal.returns-then-eq
returns-then-eq c = c.object.ensures
    ∙ object_is (the_view c.self.inside) c.self.inside.store c.args.self.now c.self.view_is c.self.invariant c.args.at
    (search rules) (seen_on c.args.self.now c.args.at c.args.ground true c.requires (sym c.eq.ensures ∙ c.if-eq.true))

pub returns-else-eq : goal.returns-else-eq
returns-else-eq c =
    sym (no_object (the_view c.self.inside) c.self.inside.store c.args.self.now c.self.view_is c.self.invariant c.args.at
    (search rules) (seen_on c.args.self.now c.args.at c.args.ground false c.requires (sym c.eq.ensures ∙ c.if-eq.false)))
