use Rattle.std.proofs.Common.{ap, filter, length, map, rules, subst, sym, nat_eq, ◌&&◌, ◌≡◌, ◌∙◌, ◌++◌, reverse}
use Rattle.vt_spec.proofs.Common.{OnOk_then, YieldsList-from_filter, YieldsList-from_map, YieldsList-from_rev_slice, bindable_children, children, items_from_extend, length-map, mount_in, stands_under}
use Rattle.vt_location.specs.declared.numbers.MountId.{MountId}
use Rattle.vt_ns.proofs.Common.{IsHeld, MountEntry, WorldValue, counted, location_of, mounts_in, numbers, world_of}
use Rattle.vt_ns.specs.Trees.{bindable_to_come}
use Rattle.vt_ns.proofs.world.BoundTrees.{bindable, bound_kids, branch_of, chosen-come}
use Rattle.vt_ns.proofs.world.World.push_bound.Goals as goal

pub returns : goal.returns
returns c =
    let mounts = mounts_in c.args.self.now.mounts in
    let under = stands_under nat_eq (world_of c.args.self.now) (location_of c.args.source) in
    let number = counted c.args.source.mount.count in
    let test = λ (id : MountId). bindable mounts id && under (mount_in nat_eq mounts (counted id.count)) in
    let held = subst IsHeld c.self.view_is c.self.invariant in
    let deep = c.len-depth.ensures ∙ ap (λ (value : WorldValue). length value.mounts) c.self.view_is
    ∙ sym (length-map c.args.self.now.mounts (λ (entry : MountEntry). entry.mount)) in
    let kids = bound_kids mounts held.in_world.mounts.one_number number c.children.result.now
    (c.children.ensures.children ∙ ap (λ (value : WorldValue). numbers
    (children nat_eq (mounts_in value.mounts) number)) c.self.view_is) under in
    OnOk_then c.extend.result (λ pushed.
    ap (bindable_to_come mounts) pushed.0 ∙ ap (λ depth. bindable_to_come mounts
    (c.args.waiting.now.items ++ map (branch_of depth) (filter test (reverse c.children.result.now)))) deep
    ∙ chosen-come mounts (length mounts) c.args.waiting.now.items test c.children.result.now
    (filter under (bindable_children nat_eq mounts number)) kids)
    (items_from_extend c.extend.result c.extend.ensures.ran (YieldsList-from_map _ (branch_of c.len-depth.result)
    (YieldsList-from_filter _ test (YieldsList-from_rev_slice c.children.result.now cc)
    (let same : c.map.result.iter.p ≡ c.filter.result.p = cc in same ∙ c.filter.ensures.closure)
    (λ x b q k. search rules)) c.map.ensures.closure (λ x r q k. search rules)))
