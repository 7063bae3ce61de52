use Rattle.std.proofs.Common.{ap, rules, not, sym, ◌∙◌, ℕ, Option}
use Rattle.vt_spec.proofs.Common.{Node, entries_in, is_empty_list}
use Rattle.vt_ns.proofs.Common.{store_stands}
use Rattle.vt_ns.proofs.looking.LooksKept.{no_node, node_is}
use Rattle.vt_ns.proofs.looking.WorldLook.is_nonempty.Goals as goal
use Rattle.vt_ns.specs.contracts.world.World.{the_view}

pub is_nonempty-requires : goal.is_nonempty-requires
is_nonempty-requires c = store_stands (the_view c.self.inside) c.self.inside.store c.self.invariant

pub returns-then-is_seen : goal.returns-then-is_seen
returns-then-is_seen c = c.is_nonempty.ensures ∙ ap (λ (node : Option (Node ℕ)). not (is_empty_list (entries_in node)))
    (node_is (the_view c.self.inside) c.self.inside.store c.args.self.now c.self.view_is c.self.invariant c.args.at
    (search rules) (sym c.is_seen.ensures ∙ c.if-is_seen.true))

pub returns-else-is_seen : goal.returns-else-is_seen
returns-else-is_seen c = c.if-is_seen.false ∙ ap (λ (node : Option (Node ℕ)). not (is_empty_list (entries_in node)))
    (sym (no_node (the_view c.self.inside) c.self.inside.store c.args.self.now c.self.view_is c.self.invariant c.args.at
    (search rules) (sym c.is_seen.ensures ∙ c.if-is_seen.false)))
