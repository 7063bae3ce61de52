use Rattle.std.proofs.Common.{arith, length, map, false, nat_eq, refl, subst, sym, true, ◌≡◌, ◌+◌, ◌*◌}
use Rattle.vt_spec.proofs.Common.{bind_tree, is_located_well, parts_of, common_steps}
use Rattle.vt_ns.proofs.Common.{Becomes, IsDone, IsGrafted, Permits, WorldValue, done_in_store, kept, kept_of, left_still, location_of, merged_of, mount_of, with_store, world_of}
use Rattle.vt_propagate.specs.declared.copying.Counts.{Counts}
use Rattle.vt_propagate.specs.declared.copying.Graft.{Graft}
use Rattle.vt_permits.specs.GrantValue.{attachment_permit}
use Rattle.vt_permits.specs.declared.grant.Attachment.TheVariants.{Bind}
use Rattle.vt_ns.specs.contracts.world.World.{the_view}
use Rattle.vt_mounting.proofs.attach.Binding.{bind_is_done, may_bind, source_there}
use Rattle.vt_ns.specs.Counting.{counted_for}
use Rattle.vt_ns.proofs.world.Counted.{counted_so}
use Rattle.vt_ns.proofs.world.BoundEvents.{bind_place_there, parts_found, place_mounted}
use Rattle.vt_ns.proofs.world.StoresKept.{kept_is}
use Rattle.vt_ns.proofs.world.NodesUncounted.{counts_none}
use Rattle.vt_ns.proofs.world.World.bind.Goals as goal
use Rattle.vt_ns.proofs.world.World.bind.Goals.{After-graft-1}

pub attach_graft-requires-clause-none : goal.attach_graft-requires-clause-none
attach_graft-requires-clause-none c = counts_none (the_view c.self.inside) c.self.inside.store c.self.invariant

pub mounts_bound-requires : goal.mounts_bound-requires
mounts_bound-requires c =
    let permits : Permits (the_view c.self.inside) c.args.name.now (attachment_permit (Bind c.args.bind)) =
    subst (λ value. Permits value c.args.name.now (attachment_permit (Bind c.args.bind)))
    (sym c.self.view_is) c.requires in
    subst (λ (v : WorldValue). is_located_well nat_eq (world_of v) (location_of c.args.bind.source) ≡ true)
    c.self.view_is (source_there (the_view c.self.inside) c.self.invariant c.args.name.now c.args.bind.source
    c.args.bind.destination c.args.bind.recursive permits)

pub parts-requires : goal.parts-requires
parts-requires c =
    let permits : Permits (the_view c.self.inside) c.args.name.now (attachment_permit (Bind c.args.bind)) =
    subst (λ value. Permits value c.args.name.now (attachment_permit (Bind c.args.bind)))
    (sym c.self.view_is) c.requires in
    place_mounted (the_view c.self.inside) c.args.bind.destination
    (bind_place_there (the_view c.self.inside) c.self.invariant c.args.name.now c.args.bind.source
    c.args.bind.destination c.args.bind.recursive permits)

-- what the task is permitted
permits : (c : After-graft-1) → Permits (the_view c.self.inside) c.args.name.now
    (attachment_permit (Bind c.args.bind))
permits c = grind (arith, common_steps)

-- what is attached, and the numbers that its copies get
abbrev graft : (c : After-graft-1) → Graft
graft c = record { parts = c.deref.result; tree = c.deref-2.result; place = c.args.bind.destination; moves = false }

abbrev counts : (c : After-graft-1) → Counts
counts c = record { first = c.self.inside.next; step = 1 }

tree_is : (c : After-graft-1) → map mount_of c.deref-2.result.now
    ≡ bind_tree nat_eq (world_of (the_view c.self.inside)) (location_of c.args.bind.source) c.args.bind.recursive
tree_is c = grind (arith, common_steps)

parts_are : (c : After-graft-1) → map mount_of c.deref.result.now
    ≡ parts_of nat_eq (world_of (the_view c.self.inside)) (location_of c.args.bind.destination)
parts_are c =
    parts_found (the_view c.self.inside) c.args.self.now c.self.view_is c.self.invariant c.args.bind.destination
    c.in_ok-parts.parts.items c.deref.result.now c.deref.ensures.value c.in_ok-parts.ensures.ok

pub attach_graft-requires-clause-may : goal.attach_graft-requires-clause-may
attach_graft-requires-clause-may c = may_bind (the_view c.self.inside) c.self.invariant c.args.name.now
    c.args.bind.source c.args.bind.recursive (graft c) (counts c) (permits c) (tree_is c) refl (parts_are c) refl refl
    c.alloc-alloc.ensures.order c.alloc-alloc.ensures.counted

abbrev after : (c : goal.After-drop-tree-2) → WorldValue
after c = with_store c.attach_graft.new.store (record (the_view c.self.inside) {
  mounts = c.attach_graft.new.mounts;
  groups = c.attach_graft.new.groups;
  next = c.self.inside.next + c.in-Some.taken;
})

-- so many numbers are taken
grows : (c : goal.After-drop-tree-2) → c.self.inside.next + c.in-Some.taken
    ≡ (the_view c.self.inside).next + 2 * (length c.deref.result.now * length c.deref-2.result.now)
grows c = cc c.in-Some.ensures.count

-- the world then is the one that the permit leaves
done : (c : goal.After-drop-tree-2) → IsDone (the_view c.self.inside) c.args.name.now
    (attachment_permit (Bind c.args.bind)) (after c)
done c =
    let at = (goal.at.returns-clause-ok c).After-graft-1 in
    let value = the_view c.self.inside in
    let grafted : IsGrafted (graft at) (counts at) (kept_of value) c.self.inside.groups
    (kept c.attach_graft.new.mounts c.attach_graft.new.store) c.attach_graft.new.groups =
    subst (λ k. IsGrafted (graft at) (counts at) k c.self.inside.groups
    (kept c.attach_graft.new.mounts c.attach_graft.new.store) c.attach_graft.new.groups)
    (kept_is value c.self.inside.store c.self.invariant) c.in_ok-attach_graft.ensures.ok in
    done_in_store value (record value {
      mounts = c.attach_graft.new.mounts;
      groups = c.attach_graft.new.groups;
      next = c.self.inside.next + c.in-Some.taken;
    }) c.self.inside.store c.attach_graft.new.store c.self.invariant
    (left_still c.self.inside.store.overlays c.attach_graft.new.store.overlays c.attach_graft.ensures.overlays)
    c.args.name.now (attachment_permit (Bind c.args.bind)) (permits at)
    (bind_is_done value c.self.invariant c.args.name.now c.args.bind.source c.args.bind.recursive (graft at) (counts at)
    (permits at) (tree_is at) refl (parts_are at) refl refl c.attach_graft.new.mounts c.attach_graft.new.groups
    c.attach_graft.new.store.plain (map merged_of c.attach_graft.new.store.overlays)
    (c.self.inside.next + c.in-Some.taken) grafted c.alloc-alloc.ensures.order c.alloc-alloc.ensures.counted (grows c))

pub invariant_of-self-2 : goal.invariant_of-self-2
invariant_of-self-2 c = (done c).held

pub returns-clause-ok : goal.returns-clause-ok
returns-clause-ok c =
    subst (λ (v : WorldValue). Becomes v c.args.name.now (attachment_permit (Bind c.args.bind)) (after c))
    c.self.view_is (done c).becomes

pub returns-clause-counts : goal.returns-clause-counts
returns-clause-counts c =
    let at = (goal.at.returns-clause-counts c).After-graft-1 in
    let value = the_view c.self.inside in
    subst (λ (v : WorldValue). c.self.inside.next + c.in-Some.taken ≡ v.next
    + counted_for v (location_of c.args.bind.destination)
    (bind_tree nat_eq (world_of v) (location_of c.args.bind.source) c.args.bind.recursive)) c.self.view_is
    (counted_so value (location_of c.args.bind.destination) c.deref.result.now c.deref-2.result.now
    (bind_tree nat_eq (world_of value) (location_of c.args.bind.source) c.args.bind.recursive)
    (c.self.inside.next + c.in-Some.taken) (parts_are at) (tree_is at) (grows c))
