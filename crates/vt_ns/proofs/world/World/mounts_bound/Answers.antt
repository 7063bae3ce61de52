use Rattle.std.proofs.Common.{ap, map, nat_eq, rules, subst, sym, true, ◌≡◌, ◌∙◌}
use Rattle.vt_spec.proofs.Common.{IfOk-weaker, bind_tree, is_located_well}
use Rattle.vt_ns.proofs.Common.{AreOf, WorldValue, counted, is_small_node, location_of, world_of}
use Rattle.vt_mounting.proofs.attach.TreeBinding.{tree_bound}
use Rattle.vt_ns.specs.contracts.world.World.{the_view}
use Rattle.vt_ns.proofs.world.World.mounts_bound.Goals as goal

pub returns : goal.returns
returns c = record {
  ok = let value = the_view c.self.inside in
      let small : is_small_node c.args.source.node ≡ true = search rules in
      let there : is_located_well nat_eq (world_of value) (location_of c.args.source) ≡ true =
      subst (λ (v : WorldValue). is_located_well nat_eq (world_of v) (location_of c.args.source) ≡ true)
      (sym c.self.view_is) c.requires in
      let are : AreOf c.deref.result.now
      (bind_tree nat_eq (world_of value) (location_of c.args.source) c.args.recursive) =
      ap (map (λ id. counted id.count)) c.deref.ensures.value ∙ c.in_ok-origins.ensures.ok
      ∙ ap (λ (v : WorldValue). map (λ mount. mount.number)
      (bind_tree nat_eq (world_of v) (location_of c.args.source) c.args.recursive)) (sym c.self.view_is) in
      IfOk-weaker c.bound_mounts.result _ _ (λ tree is. is
      ∙ tree_bound value c.self.invariant c.args.source c.args.recursive
      small there c.alloc.ensures.order c.deref.result.now are
      ∙ ap (λ (v : WorldValue). bind_tree nat_eq (world_of v) (location_of c.args.source) c.args.recursive)
      c.self.view_is) c.bound_mounts.ensures;
}
