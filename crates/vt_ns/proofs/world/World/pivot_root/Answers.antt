use Rattle.std.proofs.Common.{IfSome, ap, arith, map, option_copied, nat_eq, option_map, rules, subst, sym, true, ◌≡◌, ◌∙◌, is_some}
use Rattle.vt_spec.proofs.Common.{ToPivot, mount_numbered}
use Rattle.vt_location.specs.declared.locations.Location.{Location}
use Rattle.vt_ns.proofs.Common.{Becomes, IsDone, Kept, Permits, WorldValue, counted, inode_of, is_small_node, is_some_mapped, kept, kept_with, location_of, merged_of, merged_seen, mount_of, overlays_of_store, pinned_in, remade, shown, task_of, world_of}
use Rattle.vt_ns.specs.contracts.world.World.{the_view}
use Rattle.vt_ns.proofs.world.PivotedEvents.{new_is_placed, room_to_enter, root_is_found, root_is_pivoted}
use Rattle.vt_mounting.proofs.detach.CountNoUses.{pins_plain, still_pinned, unpins_plain}
use Rattle.vt_ns.specs.Pivoting.{with_uses}
use Rattle.vt_ns.proofs.world.StoresKept.{kept_is, same_in_store}
use Rattle.vt_store.proofs.LayersCounted.{unlimited}
use Rattle.vt_ns.proofs.world.Births.{births_are, held_with, tasks_are}
use Rattle.vt_ns.proofs.world.NodesUncounted.{counts_none}
use Rattle.vt_ns.proofs.world.World.pivot_root.Goals as goal

pub has_room-requires : goal.has_room-requires
has_room-requires c = counts_none (the_view c.self.inside) c.self.inside.store c.self.invariant

pub unwrap-root-requires : goal.unwrap-root-requires
unwrap-root-requires c =
    let permits : Permits (the_view c.self.inside) c.args.name.now
    (ToPivot (counted c.args.new.count) (location_of c.args.put)) =
    subst (λ value. Permits value c.args.name.now (ToPivot (counted c.args.new.count) (location_of c.args.put)))
    (sym c.self.view_is) c.requires in
    sym (is_some_mapped mount_of c.get-2.result) ∙ ap is_some c.get-2.ensures
    ∙ root_is_found (the_view c.self.inside) c.self.invariant c.args.name.now (counted c.args.new.count) c.args.put
    permits c.unwrap-task.result.now
    (sym (ap (λ found. option_map task_of (option_copied found)) c.unwrap-task.ensures) ∙ c.get.ensures.found)

pub unwrap-point-requires : goal.unwrap-point-requires
unwrap-point-requires c =
    let permits : Permits (the_view c.self.inside) c.args.name.now
    (ToPivot (counted c.args.new.count) (location_of c.args.put)) =
    subst (λ value. Permits value c.args.name.now (ToPivot (counted c.args.new.count) (location_of c.args.put)))
    (sym c.self.view_is) c.requires in
    sym (is_some_mapped location_of c.mount_point.result) ∙ ap is_some c.mount_point.ensures.point
    ∙ ap (λ (value : WorldValue). is_some (mount_numbered nat_eq (world_of value) (counted c.args.new.count)).mount_point)
    (sym c.self.view_is)
    ∙ new_is_placed (the_view c.self.inside) c.self.invariant c.args.name.now (counted c.args.new.count) c.args.put
    permits

pub hold_each-requires-clause-room : goal.hold_each-requires-clause-room
hold_each-requires-clause-room c =
    let permits : Permits (the_view c.self.inside) c.args.name.now
    (ToPivot (counted c.args.new.count) (location_of c.args.put)) =
    subst (λ value. Permits value c.args.name.now (ToPivot (counted c.args.new.count) (location_of c.args.put)))
    (sym c.self.view_is) c.requires in
    let none = counts_none (the_view c.self.inside) c.self.inside.store c.self.invariant in
    let pinned_so = pins_plain c.self.inside.store none c.args.put.node c.pin.new.self (unlimited c.pin.result
    c.pin.ensures.ok c.pin.ensures.limit (λ full. absurd (omega (arith, c.if-uses.false, c.uses.ensures, full)))) in
    room_to_enter (the_view c.self.inside) c.self.invariant c.args.name.now (counted c.args.new.count) c.args.put
    permits c.unwrap-task.result.now
    (sym (ap (λ found. option_map task_of (option_copied found)) c.unwrap-task.ensures) ∙ c.get.ensures.found)
    c.unwrap-root.result c.unwrap-new_root.result c.root_location-left.result c.root_location-entered.result
    c.unwrap-point.result (sym (ap (option_map mount_of) c.unwrap-root.ensures) ∙ c.get-2.ensures)
    (sym (ap (option_map mount_of) c.unwrap-new_root.ensures) ∙ c.get-3.ensures)
    c.root_location-left.ensures c.root_location-entered.ensures
    (sym (ap (option_map location_of) c.unwrap-point.ensures) ∙ c.mount_point.ensures.point
    ∙ ap (λ (value : WorldValue). (mount_numbered nat_eq (world_of value) (counted c.args.new.count)).mount_point)
    (sym c.self.view_is)) c.places_at-moved.result c.places_at-moved.ensures.count c.pivot.new.self c.pin.new.self.plain
    (c.has_room.ensures.0 (let room = c.if-not-has_room.false in search rules)) c.in_ok-pivot.ensures.ok
    pinned_so.0

pub hold_each-requires-clause-none : goal.hold_each-requires-clause-none
hold_each-requires-clause-none c =
    still_pinned c.self.inside.store (counts_none (the_view c.self.inside) c.self.inside.store c.self.invariant)
    c.args.put.node c.pin.new.self (unlimited c.pin.result c.pin.ensures.ok c.pin.ensures.limit
    (λ full. absurd (omega (arith, c.if-uses.false, c.uses.ensures, full))))

-- the place is pinned, as there is room
pins_so : (c : goal.After-pivot-2)
    → (shown c.pin.new.self.plain ≡ pinned_in (inode_of c.args.put.node) (shown c.self.inside.store.plain))
    × (c.pin.new.self.overlays ≡ c.self.inside.store.overlays)
pins_so c =
    pins_plain c.self.inside.store (counts_none (the_view c.self.inside) c.self.inside.store c.self.invariant)
    c.args.put.node c.pin.new.self (unlimited c.pin.result c.pin.ensures.ok c.pin.ensures.limit
    (λ full. absurd (omega (arith, c.if-uses.false, c.uses.ensures, full))))

-- what roots and working directories hold once they have moved
held_so : (c : goal.After-pivot-2) → kept c.hold_each.new.mounts c.hold_each.new.store
    ≡ with_uses c.places_at-moved.result c.root_location-entered.result
    (kept_with c.pivot.new.self c.pin.new.self.plain (map merged_seen (the_view c.self.inside).overlays))
held_so c = c.hold_each.ensures.held ∙ ap (with_uses c.places_at-moved.result c.root_location-entered.result)
    (ap (λ overlays. kept_with c.pivot.new.self c.pin.new.self.plain (map merged_of overlays)) (pins_so c).1
    ∙ ap (λ (k : Kept). kept_with c.pivot.new.self c.pin.new.self.plain k.overlays)
    (kept_is (the_view c.self.inside) c.self.inside.store c.self.invariant))

abbrev after : (c : goal.After-pivot-2) → WorldValue
after c = record (remade (the_view c.self.inside) c.release_each.new.mounts c.unpin.new.self.plain
    c.pivot-2.new.self.tasks) {
      overlays = overlays_of_store c.unpin.new.self;
    }

-- the event is done
done : (c : goal.After-pivot-2) → IsDone (the_view c.self.inside) c.args.name.now
    (ToPivot (counted c.args.new.count) (location_of c.args.put)) (after c)
done c =
    let permits : Permits (the_view c.self.inside) c.args.name.now
    (ToPivot (counted c.args.new.count) (location_of c.args.put)) =
    subst (λ value. Permits value c.args.name.now (ToPivot (counted c.args.new.count) (location_of c.args.put)))
    (sym c.self.view_is) c.requires in
    let pinned_so = pins_so c in
    let point = c.unwrap-point.result in
    let unpinned_so = unpins_plain c.release_each.new.store c.release_each.ensures.still point.node c.unpin.new.self
    c.unpin.ensures in
    same_in_store (the_view c.self.inside)
    (remade (the_view c.self.inside) c.release_each.new.mounts c.unpin.new.self.plain c.pivot-2.new.self.tasks)
    c.self.inside.store c.unpin.new.self c.self.invariant
    (unpinned_so.1 ∙ c.release_each.ensures.overlays ∙ c.hold_each.ensures.overlays ∙ pinned_so.1) c.args.name.now
    (ToPivot (counted c.args.new.count) (location_of c.args.put)) permits
    (root_is_pivoted (the_view c.self.inside) c.self.invariant c.args.name.now (counted c.args.new.count) c.args.put
    permits c.unwrap-task.result.now
    (sym (ap (λ found. option_map task_of (option_copied found)) c.unwrap-task.ensures) ∙ c.get.ensures.found)
    c.unwrap-root.result c.unwrap-new_root.result c.root_location-left.result c.root_location-entered.result point
    (sym (ap (option_map mount_of) c.unwrap-root.ensures) ∙ c.get-2.ensures)
    (sym (ap (option_map mount_of) c.unwrap-new_root.ensures) ∙ c.get-3.ensures)
    c.root_location-left.ensures c.root_location-entered.ensures
    (sym (ap (option_map location_of) c.unwrap-point.ensures) ∙ c.mount_point.ensures.point
    ∙ ap (λ (value : WorldValue). (mount_numbered nat_eq (world_of value) (counted c.args.new.count)).mount_point)
    (sym c.self.view_is)) c.places_at-moved.result c.places_at-moved.ensures.count
    c.pivot.new.self c.hold_each.new.mounts c.release_each.new.mounts c.pin.new.self.plain c.hold_each.new.store.plain
    c.release_each.new.store.plain c.unpin.new.self.plain (map merged_of c.hold_each.new.store.overlays)
    (map merged_of c.release_each.new.store.overlays) c.pivot-2.new.self.tasks
    (search rules) c.hold_each.ensures.slot c.release_each.ensures.slot
    (subst (λ found. IfSome found (λ (at : Location). is_small_node at.node ≡ true)) c.unwrap-point.ensures
    c.mount_point.ensures.slot) c.in_ok-pivot.ensures.ok
    pinned_so.0 (held_so c) c.release_each.ensures.left unpinned_so.0 (tasks_are c.pivot-2.ensures))

pub invariant_of-self-2 : goal.invariant_of-self-2
invariant_of-self-2 c = held_with (done c).held c.pivot-2.new.self.births

pub returns-clause-ok : goal.returns-clause-ok
returns-clause-ok c =
    subst (λ value. Becomes value c.args.name.now (ToPivot (counted c.args.new.count) (location_of c.args.put)) (after c))
    c.self.view_is (done c).becomes

pub returns-clause-births : goal.returns-clause-births
returns-clause-births c = births_are c.pivot-2.ensures ∙ ap (λ (value : WorldValue). value.births) c.self.view_is
