use Rattle.std.proofs.Common.{ap, eqb-true, rules, subst, sym, ◌∙◌}
use Rattle.vt_ns.proofs.Common.{IsHeld, counted, number_of, parents_named_in, store_stands}
use Rattle.vt_ns.specs.LyingUnder.{lies_under}
use Rattle.vt_ns.proofs.looking.StoreLooked.{under_shown}
use Rattle.vt_ns.proofs.reaching.LyingUnder.{lies_apart}
use Rattle.vt_ns.proofs.reaching.WorldReach.is_under.Goals as goal
use Rattle.vt_ns.specs.contracts.world.World.{the_view}

pub is_under-requires : goal.is_under-requires
is_under-requires c = record {
  standing = store_stands (the_view c.self.inside) c.self.inside.store c.self.invariant;
  named = parents_named_in (the_view c.self.inside) c.self.inside.store c.self.invariant c.args.top.filesystem.count;
  one_filesystem = λ i. record {
    count = eqb-true c.args.directory.filesystem.count c.args.top.filesystem.count (sym c.eq.ensures ∙ c.if-eq.true) i;
  };
}

pub returns-then-eq : goal.returns-then-eq
returns-then-eq c = c.is_under.ensures
    ∙ under_shown (the_view c.self.inside) c.self.inside.store c.self.invariant c.args.top.filesystem.count
    (number_of c.args.top) (number_of c.args.directory)
    ∙ ap (λ value. lies_under value (counted c.args.top.filesystem.count) (number_of c.args.top)
    (number_of c.args.directory)) c.self.view_is

pub returns-else-eq : goal.returns-else-eq
returns-else-eq c = c.if-eq.false
    ∙ sym (lies_apart c.args.self.now c.args.top c.args.directory (subst IsHeld c.self.view_is c.self.invariant)
    (search rules) (search rules) (sym c.eq.ensures ∙ c.if-eq.false))
