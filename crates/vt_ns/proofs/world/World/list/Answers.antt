use Rattle.std.proofs.Common.{map, rules, subst, ◌≡◌, IfOk}
use Rattle.vt_spec.proofs.Common.{names_in}
use Rattle.vt_ns.proofs.Common.{IsHeld, location_of, store_stands}
use Rattle.vt_ns.specs.contracts.world.World.{the_view}
use Rattle.vt_ns.proofs.looking.LooksKept.{node_is, seen_if_there}
use Rattle.vt_ns.proofs.world.ListedWorlds.{listed_there}
use Rattle.vt_ns.proofs.world.World.list.Goals as goal

pub names-requires : goal.names-requires
names-requires c = store_stands (the_view c.self.inside) c.self.inside.store c.self.invariant

pub returns : goal.returns
returns c = record {
  ok =
      let base = the_view c.self.inside in
      let store = c.self.inside.store in
      let there = listed_there c.args.self.now (subst IsHeld c.self.view_is c.self.invariant) c.args.name.now
      (location_of c.args.directory) c.requires in
      subst (λ node. IfOk c.names.result (λ names. map (λ name. name.items) names.items ≡ names_in node))
      (node_is base store c.args.self.now c.self.view_is c.self.invariant c.args.directory (search rules)
      (seen_if_there base store c.args.self.now c.self.view_is c.self.invariant c.args.directory (search rules) there))
      c.names.ensures.ok;
}
