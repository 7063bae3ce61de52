use Rattle.std.proofs.Common.{map, refl, subst, sym, List, ℕ}
use Rattle.vt_spec.proofs.Common.{IsPermutation-map, ToUnmountLazily, World}
use Rattle.vt_location.specs.declared.numbers.MountId.{MountId}
use Rattle.vt_ns.proofs.Common.{Becomes, IsDone, IsSeen, Permits, Point, WorldValue, counted, done_in_store, kept, kept_of, merged_of, with_store, world_of}
use Rattle.vt_ns.specs.contracts.world.World.{the_view}
use Rattle.vt_ns.specs.Unmounting.{GoTogether}
use Rattle.vt_ns.proofs.world.UnmountedEverywhere.{unmounted_lazily}
use Rattle.vt_ns.proofs.world.StoresKept.{kept_is}
use Rattle.vt_ns.proofs.world.NodesUncounted.{counts_none}
use Rattle.vt_ns.proofs.world.World.unmount_lazily_everywhere.Goals as goal

pub take_away-requires : goal.take_away-requires
take_away-requires c = counts_none (the_view c.self.inside) c.self.inside.store c.self.invariant

abbrev after : (c : goal.After-drop-plan-3) → WorldValue
after c = with_store c.take_away.new.store
    (record (the_view c.self.inside) { mounts = c.take_away.new.mounts; groups = c.take_away.new.groups })

-- the world then is the one that the permit leaves
done : (c : goal.After-drop-plan-3)
    → IsDone (the_view c.self.inside) c.args.name.now (ToUnmountLazily (counted c.args.mount.count)) (after c)
done c =
    let value : WorldValue = the_view c.self.inside in
    let world : World ℕ = world_of value in
    let seen : IsSeen world c.self.inside.mounts c.self.inside.groups =
    record { mounts = refl; groups = c.self.invariant.groups; living = c.self.invariant.in_world.mounts.groups } in
    let planned : List ℕ = map (λ id. counted id.count) c.in_ok-plan.plan.gone.items in
    let gone : List ℕ = map (λ id. counted id.count) c.newest_first.new.plan.gone.items in
    let permits = subst (λ one. Permits one c.args.name.now (ToUnmountLazily (counted c.args.mount.count)))
    (sym c.self.view_is) c.requires in
    let go : GoTogether gone c.in_ok-plan.plan.points.items (kept_of value) c.self.inside.groups
    (kept c.take_away.new.mounts c.take_away.new.store) c.take_away.new.groups =
    subst (λ (points : List Point). GoTogether gone points (kept_of value)
    c.self.inside.groups (kept c.take_away.new.mounts c.take_away.new.store) c.take_away.new.groups)
    c.newest_first.ensures.points
    (subst (λ k. GoTogether gone c.newest_first.new.plan.points.items k c.self.inside.groups
    (kept c.take_away.new.mounts c.take_away.new.store) c.take_away.new.groups)
    (kept_is value c.self.inside.store c.self.invariant) c.in_ok-take_away.ensures.ok) in
    done_in_store value (record value { mounts = c.take_away.new.mounts; groups = c.take_away.new.groups })
    c.self.inside.store c.take_away.new.store c.self.invariant c.in_ok-take_away.ensures.overlays
    c.args.name.now (ToUnmountLazily (counted c.args.mount.count)) permits
    (unmounted_lazily value c.self.invariant c.args.name.now (counted c.args.mount.count) permits
    planned gone c.in_ok-plan.plan.points.items (IsPermutation-map (λ (id : MountId). counted id.count)
    c.in_ok-plan.plan.gone.items c.newest_first.new.plan.gone.items c.newest_first.ensures.gone)
    (c.in_ok-plan.ensures.gone world seen c.self.invariant.in_world.mounts) (c.in_ok-plan.ensures.left world refl)
    (c.in_ok-plan.ensures.each world refl) c.take_away.new.mounts c.take_away.new.groups c.take_away.new.store.plain
    (map merged_of c.take_away.new.store.overlays) go)

pub invariant_of-self-2 : goal.invariant_of-self-2
invariant_of-self-2 c = (done c).held

pub returns-clause-ok : goal.returns-clause-ok
returns-clause-ok c =
    subst (λ value. Becomes value c.args.name.now (ToUnmountLazily (counted c.args.mount.count)) (after c))
    c.self.view_is (done c).becomes
