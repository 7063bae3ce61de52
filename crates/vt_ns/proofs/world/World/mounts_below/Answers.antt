use Rattle.std.proofs.Common.{ap, is_some, map, nat_eq, sym, true, ◌≡◌, ◌∙◌, option_map, arith}
use Rattle.vt_spec.proofs.Common.{IfOk-weaker, mount_numbered, mount_tree, common_steps}
use Rattle.vt_ns.proofs.Common.{AreOf, WorldValue, counted, mount_of, mounts_in, world_of}
use Rattle.vt_ns.specs.contracts.world.World.{the_view}
use Rattle.vt_ns.proofs.world.MovedEvents.{tree_below}
use Rattle.vt_ns.proofs.world.World.mounts_below.Goals as goal

pub unwrap-top-requires : goal.unwrap-top-requires
unwrap-top-requires c = grind (arith, common_steps)

pub returns : goal.returns
returns c = record {
  ok = let value = the_view c.self.inside in
      let there : is_some (mount_numbered nat_eq (world_of value) (counted c.args.mount.count)).namespace ≡ true =
      ap (λ (v : WorldValue). is_some (mount_numbered nat_eq (world_of v) (counted c.args.mount.count)).namespace)
      c.self.view_is ∙ c.requires in
      let are : AreOf c.deref.result.now
      (mount_tree nat_eq (mounts_in value.mounts) (mount_numbered nat_eq (world_of value) (counted c.args.mount.count))) =
      ap (map (λ id. counted id.count)) c.deref.ensures.value ∙ c.in_ok-origins.ensures.ok in
      IfOk-weaker c.bound_mounts.result _ _ (λ tree is. is
      ∙ tree_below value (counted c.args.mount.count) there c.alloc.ensures.order c.unwrap-top.result
      (sym (ap (option_map mount_of) c.unwrap-top.ensures) ∙ c.get.ensures) c.deref.result.now are
      ∙ ap (λ (v : WorldValue). mount_tree nat_eq (mounts_in v.mounts)
      (mount_numbered nat_eq (world_of v) (counted c.args.mount.count))) c.self.view_is) c.bound_mounts.ensures;
}
