use Rattle.std.proofs.Common.{ap, rules, eqb-true, nat_eq, sym, ◌&&◌, ◌∙◌}
use Rattle.vt_ns.proofs.Common.{parents_named_in, store_stands}
use Rattle.vt_ns.proofs.looking.LooksKept.{under_apart, under_is}
use Rattle.vt_ns.proofs.looking.WorldLook.is_under.Goals as goal
use Rattle.vt_ns.proofs.looking.WorldLook.is_under.Goals.{else-is_seen-via-else-is_seen, else-is_seen-via-then-is_seen+else-eq}
use Rattle.vt_ns.specs.contracts.world.World.{the_view}

pub is_under-requires : goal.is_under-requires
is_under-requires c = record {
  standing = store_stands (the_view c.self.inside) c.self.inside.store c.self.invariant;
  named = parents_named_in (the_view c.self.inside) c.self.inside.store c.self.invariant
      c.args.top.node.filesystem.count;
  one_filesystem = λ i. record {
    count = eqb-true c.args.directory.filesystem.count c.args.top.node.filesystem.count
        (sym c.eq.ensures ∙ c.if-eq.true) i;
  };
}

pub returns-then-eq : goal.returns-then-eq
returns-then-eq c = c.is_under.ensures
    ∙ under_is (the_view c.self.inside) c.self.inside.store c.args.self.now c.self.view_is c.self.invariant c.args.top
    (search rules) c.args.directory (sym c.is_seen.ensures ∙ c.if-is_seen.true)

pub returns-else-is_seen : goal.returns-else-is_seen
returns-else-is_seen c = c.is_same.ensures
    ∙ under_apart (the_view c.self.inside) c.self.inside.store c.args.self.now c.self.view_is c.self.invariant c.args.top
    (search rules) c.args.directory (search rules) (elim c.else-is_seen.branch [
      | else-is_seen-via-then-is_seen+else-eq w ↦
          (λ i. (sym c.is_seen.ensures ∙ w.if-is_seen.true) i && (sym w.eq.ensures ∙ w.if-eq.false) i)
      | else-is_seen-via-else-is_seen w ↦
          ap (λ b. b && nat_eq c.args.directory.filesystem.count c.args.top.node.filesystem.count)
          (sym c.is_seen.ensures ∙ w.if-is_seen.false)
    ])
