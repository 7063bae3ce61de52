use Rattle.std.proofs.Common.{ap, arith, nat_eq, rules, subst, sym, true, ◌≡◌, ◌∙◌}
use Rattle.vt_spec.proofs.Common.{ToMove, is_shared, mount_at, mount_numbered}
use Rattle.vt_ns.proofs.Common.{Becomes, IsDone, Permits, WorldValue, counted, inode_of, is_small_node, location_of, pinned_in, shown, unpinned_in, with_store, world_of}
use Rattle.vt_location.specs.declared.locations.Location.{Location}
use Rattle.vt_ns.specs.contracts.world.World.{the_view}
use Rattle.vt_mounting.specs.Detach.Uses.{unpinned_at}
use Rattle.vt_mounting.proofs.detach.CountNoUses.{pins_plain, still_pinned, unpins_plain}
use Rattle.vt_ns.proofs.world.MovedEvents.{moved_in_store}
use Rattle.vt_ns.proofs.world.NodesUncounted.{counts_none}
use Rattle.vt_ns.proofs.world.World.move_alone.Goals.{In_default}
use Rattle.vt_store.proofs.LayersCounted.{unlimited}
use Rattle.vt_ns.proofs.world.World.move_alone.Goals as goal

abbrev after : (c : goal.After-unpin) → WorldValue
after c = with_store c.unpin.new.self (record (the_view c.self.inside) { mounts = c.move_to.new.self })

-- the world then is the one that the permit leaves
done : (c : goal.After-unpin) → IsDone (the_view c.self.inside) c.args.name.now
    (ToMove (counted c.args.mount.count) (location_of c.args.place)) (after c)
done c =
    let permits : Permits (the_view c.self.inside) c.args.name.now
    (ToMove (counted c.args.mount.count) (location_of c.args.place)) =
    subst (λ value. Permits value c.args.name.now (ToMove (counted c.args.mount.count) (location_of c.args.place)))
    (sym c.self.view_is) c.requires.permitted in
    let place = c.args.place in
    let small : is_small_node c.args.place.node ≡ true = search rules in
    let none = counts_none (the_view c.self.inside) c.self.inside.store c.self.invariant in
    let pins = unlimited c.pin.result c.pin.ensures.ok c.pin.ensures.limit
    (λ full. absurd (omega (arith, c.if-uses.false, c.uses.ensures, full))) in
    let first = pins_plain c.self.inside.store none place.node c.pin.new.self pins in
    let then = unpins_plain c.pin.new.self (still_pinned c.self.inside.store none place.node c.pin.new.self pins)
    c.in-Some.point.node c.unpin.new.self c.unpin.ensures in
    moved_in_store (the_view c.self.inside) c.self.inside.store c.self.invariant c.args.name.now
    (counted c.args.mount.count) place c.mount_point-left.result c.move_to.new.self c.unpin.new.self
    (then.1 ∙ first.1) permits
    (ap (λ (value : WorldValue). is_shared (mount_at nat_eq (world_of value) (location_of place)).propagation)
    c.self.view_is ∙ c.requires.alone) small (λ point is. let same : c.in-Some.point ≡ point = cc in
    subst (λ (at : Location). is_small_node at.node ≡ true) same c.in-Some.ensures.slot)
    (c.mount_point-left.ensures.point
    ∙ ap (λ (value : WorldValue). (mount_numbered nat_eq (world_of value) (counted c.args.mount.count)).mount_point)
    (sym c.self.view_is)) (then.0 ∙ ap (unpinned_in (inode_of c.in-Some.point.node)) first.0
    ∙ ap (λ o. unpinned_at o (pinned_in (inode_of place.node) (shown c.self.inside.store.plain)))
    (sym c.in-Some.is)) c.in_ok-move_to.ensures.ok

pub invariant_of-self-in-Some : goal.invariant_of-self-in-Some
invariant_of-self-in-Some c = (done c).held

pub returns-in-Some-clause-ok : goal.returns-in-Some-clause-ok
returns-in-Some-clause-ok c =
    subst (λ value. Becomes value c.args.name.now (ToMove (counted c.args.mount.count) (location_of c.args.place))
    (after c)) c.self.view_is (done c).becomes

-- and where it had no mount point
abbrev after_none : (c : In_default) → WorldValue
after_none c = with_store c.pin.new.self (record (the_view c.self.inside) { mounts = c.move_to.new.self })

done_none : (c : In_default) → IsDone (the_view c.self.inside) c.args.name.now
    (ToMove (counted c.args.mount.count) (location_of c.args.place)) (after_none c)
done_none c =
    let permits : Permits (the_view c.self.inside) c.args.name.now
    (ToMove (counted c.args.mount.count) (location_of c.args.place)) =
    subst (λ value. Permits value c.args.name.now (ToMove (counted c.args.mount.count) (location_of c.args.place)))
    (sym c.self.view_is) c.requires.permitted in
    let place = c.args.place in
    let small : is_small_node c.args.place.node ≡ true = search rules in
    let first = pins_plain c.self.inside.store
    (counts_none (the_view c.self.inside) c.self.inside.store c.self.invariant) place.node c.pin.new.self
    (unlimited c.pin.result c.pin.ensures.ok c.pin.ensures.limit
    (λ full. absurd (omega (arith, c.if-uses.false, c.uses.ensures, full)))) in
    moved_in_store (the_view c.self.inside) c.self.inside.store c.self.invariant c.args.name.now
    (counted c.args.mount.count) place c.mount_point-left.result c.move_to.new.self c.pin.new.self first.1 permits
    (ap (λ (value : WorldValue). is_shared (mount_at nat_eq (world_of value) (location_of place)).propagation)
    c.self.view_is ∙ c.requires.alone) small (λ point is. absurd cc) (c.mount_point-left.ensures.point
    ∙ ap (λ (value : WorldValue). (mount_numbered nat_eq (world_of value) (counted c.args.mount.count)).mount_point)
    (sym c.self.view_is)) (first.0
    ∙ ap (λ o. unpinned_at o (pinned_in (inode_of place.node) (shown c.self.inside.store.plain)))
    (sym c.in_default.is)) c.in_ok-move_to.ensures.ok

pub invariant_of-self-in_default : goal.invariant_of-self-in_default
invariant_of-self-in_default c = (done_none c).held

pub returns-in_default-clause-ok : goal.returns-in_default-clause-ok
returns-in_default-clause-ok c =
    subst (λ value. Becomes value c.args.name.now (ToMove (counted c.args.mount.count) (location_of c.args.place))
    (after_none c)) c.self.view_is (done_none c).becomes
