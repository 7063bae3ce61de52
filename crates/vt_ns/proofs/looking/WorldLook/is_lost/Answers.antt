use Rattle.std.proofs.Common.{rules, eqb-true, sym, ◌∙◌}
use Rattle.vt_ns.proofs.Common.{parents_named_in, store_stands}
use Rattle.vt_ns.proofs.looking.LooksKept.{lost_apart, lost_is, lost_missing}
use Rattle.vt_ns.proofs.looking.StoreLooked.{store_rooted}
use Rattle.vt_ns.proofs.looking.WorldLook.is_lost.Goals as goal
use Rattle.vt_ns.specs.contracts.world.World.{the_view}

pub is_lost-requires : goal.is_lost-requires
is_lost-requires c = record {
  standing = store_stands (the_view c.self.inside) c.self.inside.store c.self.invariant;
  named = parents_named_in (the_view c.self.inside) c.self.inside.store c.self.invariant
      c.in-Some.mount.root.filesystem.count;
  rooted = store_rooted (the_view c.self.inside) c.self.inside.store c.self.invariant
      c.in-Some.mount.root.filesystem.count;
  one_filesystem = λ i. record {
    count = sym (eqb-true c.in-Some.mount.root.filesystem.count c.args.at.node.filesystem.count
        (sym c.eq.ensures ∙ c.if-eq.true)) i;
  };
}

pub returns-in-Some : goal.returns-in-Some
returns-in-Some c = c.is_lost.ensures
    ∙ lost_is (the_view c.self.inside) c.self.inside.store c.args.self.now c.self.view_is c.self.invariant c.args.at
    (search rules) c.get.result c.get.ensures c.in-Some.mount c.in-Some.is

pub returns-in_default : goal.returns-in_default
returns-in_default c =
    lost_apart (the_view c.self.inside) c.self.inside.store c.args.self.now c.self.view_is c.self.invariant c.args.at
    (search rules) c.get.result c.get.ensures c.in-Some.mount c.in-Some.is (sym c.eq.ensures ∙ c.if-eq.false)

pub returns-in_default-2 : goal.returns-in_default-2
returns-in_default-2 c =
    lost_missing (the_view c.self.inside) c.self.inside.store c.args.self.now c.self.view_is c.self.invariant c.args.at
    (search rules) c.get.result c.get.ensures c.in_default.is
