use Rattle.std.proofs.Common.{ap, rules, subst, sym, ◌∙◌, ℕ, Option}
use Rattle.vt_spec.proofs.Common.{Node, parent_in}
use Rattle.vt_ns.proofs.Common.{IsHeld, location_of, number_of, store_stands}
use Rattle.vt_ns.proofs.looking.LooksKept.{no_node, node_is}
use Rattle.vt_ns.proofs.looking.LostKept.{parent_stays_found}
use Rattle.vt_ns.proofs.looking.WorldLook.parent.Goals as goal
use Rattle.vt_ns.specs.contracts.world.World.{the_view}

pub parent-requires : goal.parent-requires
parent-requires c = store_stands (the_view c.self.inside) c.self.inside.store c.self.invariant

pub returns-then-not-is_seen-clause-node : goal.returns-then-not-is_seen-clause-node
returns-then-not-is_seen-clause-node c = ap (λ (node : Option (Node ℕ)). parent_in (number_of c.args.at.node) node)
    (sym (no_node (the_view c.self.inside) c.self.inside.store c.args.self.now c.self.view_is c.self.invariant c.args.at
    (search rules) (sym c.is_seen.ensures ∙ c.if-not-is_seen.true)))

pub returns-else-not-is_seen-clause-node : goal.returns-else-not-is_seen-clause-node
returns-else-not-is_seen-clause-node c = c.parent.ensures
    ∙ ap (λ (node : Option (Node ℕ)). parent_in (number_of c.args.at.node) node)
    (node_is (the_view c.self.inside) c.self.inside.store c.args.self.now c.self.view_is c.self.invariant c.args.at
    (search rules) (sym c.is_seen.ensures ∙ c.if-not-is_seen.false))

pub returns-then-not-is_seen-clause-found : goal.returns-then-not-is_seen-clause-found
returns-then-not-is_seen-clause-found c other found directory = found

pub returns-else-not-is_seen-clause-found : goal.returns-else-not-is_seen-clause-found
returns-else-not-is_seen-clause-found c =
    parent_stays_found c.args.self.now (subst IsHeld c.self.view_is c.self.invariant) (location_of c.args.at)
    (number_of c.parent.result) (returns-else-not-is_seen-clause-node c)
