use Rattle.std.proofs.Common.{ap, arith, is_some, length, map, nat_eq, refl, subst, sym, true, ◌≡◌, ◌+◌, ◌*◌, ◌∙◌}
use Rattle.vt_spec.proofs.Common.{ToMove, is_shared, mount_at, mount_numbered, mount_tree, parts_of, common_steps}
use Rattle.vt_ns.proofs.Common.{Becomes, IsDone, Permits, WorldValue, counted, done_in_store, kept, kept_of, left_still, location_of, merged_of, mount_of, mounts_in, with_store, world_of}
use Rattle.vt_propagate.specs.declared.copying.Counts.{Counts}
use Rattle.vt_propagate.specs.declared.copying.Graft.{Graft}
use Rattle.vt_ns.specs.contracts.world.World.{the_view}
use Rattle.vt_mounting.proofs.attach.MovedDone.{may_move, move_is_done}
use Rattle.vt_mounting.specs.Attach.Moved.{IsMovedBy}
use Rattle.vt_ns.specs.Counting.{counted_for}
use Rattle.vt_ns.proofs.world.Counted.{counted_so}
use Rattle.vt_ns.proofs.world.BoundEvents.{parts_found, place_mounted}
use Rattle.vt_ns.proofs.world.MovedEvents.{move_place_there, moved_there}
use Rattle.vt_ns.proofs.world.StoresKept.{kept_is}
use Rattle.vt_ns.proofs.world.NodesUncounted.{counts_none}
use Rattle.vt_ns.proofs.world.World.move_everywhere.Goals as goal
use Rattle.vt_ns.proofs.world.World.move_everywhere.Goals.{After-graft-1}

pub move_tree-requires-clause-none : goal.move_tree-requires-clause-none
move_tree-requires-clause-none c = counts_none (the_view c.self.inside) c.self.inside.store c.self.invariant

pub mounts_below-requires : goal.mounts_below-requires
mounts_below-requires c =
    let permits : Permits (the_view c.self.inside) c.args.name.now
    (ToMove (counted c.args.mount.count) (location_of c.args.place)) = subst (λ value. Permits value c.args.name.now
    (ToMove (counted c.args.mount.count) (location_of c.args.place))) (sym c.self.view_is) c.requires.permitted in
    subst (λ (v : WorldValue). is_some (mount_numbered nat_eq (world_of v) (counted c.args.mount.count)).namespace
    ≡ true) c.self.view_is (moved_there (the_view c.self.inside) c.self.invariant c.args.name.now
    (counted c.args.mount.count) c.args.place permits)

pub parts-requires : goal.parts-requires
parts-requires c =
    let permits : Permits (the_view c.self.inside) c.args.name.now
    (ToMove (counted c.args.mount.count) (location_of c.args.place)) = subst (λ value. Permits value c.args.name.now
    (ToMove (counted c.args.mount.count) (location_of c.args.place))) (sym c.self.view_is) c.requires.permitted in
    place_mounted (the_view c.self.inside) c.args.place
    (move_place_there (the_view c.self.inside) c.self.invariant c.args.name.now
    (counted c.args.mount.count) c.args.place permits)

-- what the task is permitted
permits : (c : After-graft-1) → Permits (the_view c.self.inside) c.args.name.now
    (ToMove (counted c.args.mount.count) (location_of c.args.place))
permits c = grind (arith, common_steps)

-- what is attached, and the numbers that its copies get
abbrev graft : (c : After-graft-1) → Graft
graft c = record { parts = c.deref.result; tree = c.deref-2.result; place = c.args.place; moves = true }

abbrev counts : (c : After-graft-1) → Counts
counts c = record { first = c.self.inside.next; step = 1 }

tree_is : (c : After-graft-1) → map mount_of c.deref-2.result.now
    ≡ mount_tree nat_eq (mounts_in (the_view c.self.inside).mounts)
    (mount_numbered nat_eq (world_of (the_view c.self.inside)) (counted c.args.mount.count))
tree_is c = grind (arith, common_steps)

parts_are : (c : After-graft-1) → map mount_of c.deref.result.now
    ≡ parts_of nat_eq (world_of (the_view c.self.inside)) (location_of c.args.place)
parts_are c = parts_found (the_view c.self.inside) c.args.self.now c.self.view_is c.self.invariant c.args.place
    c.in_ok-parts.parts.items c.deref.result.now c.deref.ensures.value c.in_ok-parts.ensures.ok

pub move_tree-requires-clause-may : goal.move_tree-requires-clause-may
move_tree-requires-clause-may c = may_move (the_view c.self.inside) c.self.invariant c.args.name.now
    (counted c.args.mount.count) (graft c) (counts c) (permits c) (tree_is c) refl (parts_are c) refl refl
    c.alloc-alloc.ensures.order c.alloc-alloc.ensures.counted

abbrev after : (c : goal.After-drop-tree-2) → WorldValue
after c = with_store c.move_tree.new.store (record (the_view c.self.inside) {
  mounts = c.move_tree.new.mounts;
  groups = c.move_tree.new.groups;
  next = c.self.inside.next + c.in-Some.taken;
})

-- so many numbers are taken
grows : (c : goal.After-drop-tree-2) → c.self.inside.next + c.in-Some.taken
    ≡ (the_view c.self.inside).next + 2 * (length c.deref.result.now * length c.deref-2.result.now)
grows c = cc c.in-Some.ensures.count

-- the world then is the one that the permit leaves
done : (c : goal.After-drop-tree-2) → IsDone (the_view c.self.inside) c.args.name.now
    (ToMove (counted c.args.mount.count) (location_of c.args.place)) (after c)
done c =
    let at = (goal.at.returns-clause-ok c).After-graft-1 in
    let value = the_view c.self.inside in
    let shared : is_shared (mount_at nat_eq (world_of value) (location_of c.args.place)).propagation ≡ true =
    ap (λ (v : WorldValue). is_shared
    (mount_at nat_eq (world_of v) (location_of c.args.place)).propagation) c.self.view_is ∙ c.requires.shared in
    let moved : IsMovedBy (graft at) (counts at) (kept_of value) c.self.inside.groups
    (kept c.move_tree.new.mounts c.move_tree.new.store) c.move_tree.new.groups =
    subst (λ k. IsMovedBy (graft at) (counts at) k c.self.inside.groups
    (kept c.move_tree.new.mounts c.move_tree.new.store) c.move_tree.new.groups)
    (kept_is value c.self.inside.store c.self.invariant) c.in_ok-move_tree.ensures.ok in
    done_in_store value (record value {
      mounts = c.move_tree.new.mounts;
      groups = c.move_tree.new.groups;
      next = c.self.inside.next + c.in-Some.taken;
    }) c.self.inside.store c.move_tree.new.store c.self.invariant
    (left_still c.self.inside.store.overlays c.move_tree.new.store.overlays c.move_tree.ensures.overlays)
    c.args.name.now (ToMove (counted c.args.mount.count) (location_of c.args.place)) (permits at)
    (move_is_done value c.self.invariant c.args.name.now (counted c.args.mount.count) (graft at) (counts at)
    (permits at) (tree_is at) refl (parts_are at) refl refl shared c.move_tree.new.mounts c.move_tree.new.groups
    c.move_tree.new.store.plain (map merged_of c.move_tree.new.store.overlays)
    (c.self.inside.next + c.in-Some.taken) moved c.alloc-alloc.ensures.order c.alloc-alloc.ensures.counted (grows c))

pub invariant_of-self-2 : goal.invariant_of-self-2
invariant_of-self-2 c = (done c).held

pub returns-clause-ok : goal.returns-clause-ok
returns-clause-ok c = subst (λ (v : WorldValue). Becomes v c.args.name.now
    (ToMove (counted c.args.mount.count) (location_of c.args.place)) (after c)) c.self.view_is (done c).becomes

pub returns-clause-counts : goal.returns-clause-counts
returns-clause-counts c =
    let at = (goal.at.returns-clause-counts c).After-graft-1 in
    let value = the_view c.self.inside in
    subst (λ (v : WorldValue). c.self.inside.next + c.in-Some.taken ≡ v.next + counted_for v (location_of c.args.place)
    (mount_tree nat_eq (mounts_in v.mounts)
    (mount_numbered nat_eq (world_of v) (counted c.args.mount.count)))) c.self.view_is
    (counted_so value (location_of c.args.place) c.deref.result.now c.deref-2.result.now
    (mount_tree nat_eq (mounts_in value.mounts) (mount_numbered nat_eq (world_of value) (counted c.args.mount.count)))
    (c.self.inside.next + c.in-Some.taken) (parts_are at) (tree_is at) (grows c))
