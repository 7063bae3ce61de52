use Rattle.std.proofs.Common.{ap, rules, not, sym, ◌∙◌}
use Rattle.vt_ns.proofs.Common.{parents_named_in, store_stands}
use Rattle.vt_ns.proofs.looking.LooksKept.{removed_is, removed_unseen}
use Rattle.vt_ns.proofs.looking.WorldLook.is_removed.Goals as goal
use Rattle.vt_ns.specs.contracts.world.World.{the_view}

pub is_removed-requires : goal.is_removed-requires
is_removed-requires c = record {
  standing = store_stands (the_view c.self.inside) c.self.inside.store c.self.invariant;
  named = parents_named_in (the_view c.self.inside) c.self.inside.store c.self.invariant
      c.args.at.node.filesystem.count;
}

pub returns-then-not-is_seen : goal.returns-then-not-is_seen
returns-then-not-is_seen c = ap not c.if-not-is_seen.true
    ∙ sym (removed_unseen (the_view c.self.inside) c.self.inside.store c.args.self.now c.self.view_is c.self.invariant
    c.args.at (search rules) (sym c.is_seen.ensures ∙ c.if-not-is_seen.true))

pub returns-else-not-is_seen : goal.returns-else-not-is_seen
returns-else-not-is_seen c = c.is_removed.ensures
    ∙ removed_is (the_view c.self.inside) c.self.inside.store c.args.self.now c.self.view_is c.self.invariant c.args.at
    (search rules) (sym c.is_seen.ensures ∙ c.if-not-is_seen.false)
