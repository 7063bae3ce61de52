use Rattle.std.proofs.Common.{[], ap, arith, false, length, map, refl, subst, sym, ℕ, ◌≡◌, ◌+◌, ◌*◌, ◌∷◌, nat_eq, ◌++◌}
use Rattle.vt_spec.proofs.Common.{ToMountPlain, new_mount, parts_of}
use Rattle.vt_ns.proofs.Common.{Becomes, IsDone, IsGrafted, Permits, WorldValue, counted, done_in_store, flags_of, inode_number, kept, kept_of, kept_with, left_still, location_of, merged_of, mount_of, with_store, world_of}
use Rattle.vt_propagate.specs.declared.copying.Counts.{Counts}
use Rattle.vt_propagate.specs.declared.copying.Graft.{Graft}
use Rattle.vt_spec.specs.Machine.Mounts as meant
use Rattle.vt_ns.specs.contracts.world.World.{the_view}
use Rattle.vt_ns.specs.Grants.{Grants}
use Rattle.vt_ns.specs.Vacancy.{NextRootIsVacant}
use Rattle.vt_ns.proofs.Granting.{mount_permitted}
use Rattle.vt_mounting.proofs.attach.NewBase.{destination_there}
use Rattle.vt_mounting.proofs.attach.NewFilesystems.{next_is_above}
use Rattle.vt_mounting.proofs.attach.NewMounts.{may_mount, new_mount_is_done}
use Rattle.vt_ns.proofs.world.Counted.{as_many_mounts}
use Rattle.vt_ns.proofs.world.BoundEvents.{parts_found, place_mounted}
use Rattle.vt_ns.proofs.world.StoresKept.{kept_is}
use Rattle.vt_ns.proofs.world.VacantNumbers.{root_is_vacant}
use Rattle.vt_ns.proofs.world.NodesUncounted.{counts_none}
use Rattle.vt_ns.proofs.world.OverlayEvents.{overlays_below}
use Rattle.vt_ns.proofs.world.World.mount_plain.Goals as goal
use Rattle.vt_ns.proofs.world.World.mount_plain.Goals.{After-graft-1}

pub mount_new-requires-clause-none : goal.mount_new-requires-clause-none
mount_new-requires-clause-none c = counts_none (the_view c.self.inside) c.self.inside.store c.self.invariant

pub parts-requires : goal.parts-requires
parts-requires c =
    let permits : Permits (the_view c.self.inside) c.args.name.now
    (ToMountPlain (location_of c.args.place) (flags_of c.args.flags)) =
    mount_permitted (the_view c.self.inside) c.self.invariant c.args.name.now (location_of c.args.place)
    (flags_of c.args.flags) (subst (λ value. Grants value c.args.name.now
    (ToMountPlain (location_of c.args.place) (flags_of c.args.flags))) (sym c.self.view_is) c.requires)
    (root_is_vacant (the_view c.self.inside) c.self.invariant c.alloc-alloc.ensures.counted
    c.alloc-alloc.ensures.sources (omega arith)) in
    place_mounted (the_view c.self.inside) c.args.place
    (destination_there (the_view c.self.inside) c.self.invariant c.args.name.now (location_of c.args.place)
    (flags_of c.args.flags) permits)

pub mount_new-requires-clause-above_overlays : goal.mount_new-requires-clause-above_overlays
mount_new-requires-clause-above_overlays c = overlays_below (the_view c.self.inside) c.self.inside.store c.self.invariant

pub mount_new-requires-clause-above : goal.mount_new-requires-clause-above
mount_new-requires-clause-above c = next_is_above (the_view c.self.inside) c.self.invariant

-- what the task is permitted
permits : (c : After-graft-1) → Permits (the_view c.self.inside) c.args.name.now
    (ToMountPlain (location_of c.args.place) (flags_of c.args.flags))
permits c = mount_permitted (the_view c.self.inside) c.self.invariant c.args.name.now (location_of c.args.place)
    (flags_of c.args.flags) (subst (λ value. Grants value c.args.name.now
    (ToMountPlain (location_of c.args.place) (flags_of c.args.flags))) (sym c.self.view_is) c.requires)
    (root_is_vacant (the_view c.self.inside) c.self.invariant c.alloc-alloc.ensures.counted
    c.alloc-alloc.ensures.sources (omega arith))

-- what is attached, and the numbers that its copies get
abbrev graft : (c : After-graft-1) → Graft
graft c = record {
  parts = c.deref.result;
  tree = record { ref_ptr = (c.tree-1.given, 0); now = c.mount_of_new.result ∷ [] };
  place = c.args.place;
  moves = false;
}

abbrev counts : (c : After-graft-1) → Counts
counts c = record { first = c.self.inside.next + 1; step = 2 }

tree_is : (c : After-graft-1) → map mount_of (c.mount_of_new.result ∷ [])
    ≡ new_mount (counted c.self.inside.next) (inode_number c.self.inside.next 0) (flags_of c.args.flags) ∷ []
tree_is c = ap (λ (mount : meant.Mount ℕ). mount ∷ []) c.mount_of_new.ensures

parts_are : (c : After-graft-1) → map mount_of c.deref.result.now
    ≡ parts_of nat_eq (world_of (the_view c.self.inside)) (location_of c.args.place)
parts_are c = parts_found (the_view c.self.inside) c.args.self.now c.self.view_is c.self.invariant c.args.place
    c.in_ok-parts.parts.items c.deref.result.now c.deref.ensures.value c.in_ok-parts.ensures.ok

pub mount_new-requires-clause-may : goal.mount_new-requires-clause-may
mount_new-requires-clause-may c = may_mount (the_view c.self.inside) c.self.invariant c.args.name.now (graft c)
    (counts c) (flags_of c.args.flags) (permits c) refl (tree_is c) (parts_are c) refl refl
    c.alloc-alloc.ensures.order c.alloc-alloc.ensures.counted

abbrev after : (c : goal.After-drop-parts-2) → WorldValue
after c = with_store c.mount_new.new.store (record (the_view c.self.inside) {
  mounts = c.mount_new.new.mounts;
  groups = c.mount_new.new.groups;
  next = c.self.inside.next + c.in-Some.taken;
})

-- so many numbers are taken
grows : (c : goal.After-drop-parts-2) → c.self.inside.next + c.in-Some.taken
    ≡ (the_view c.self.inside).next + 2 * (length c.deref.result.now * 2)
grows c = cc c.in-Some.ensures.count

-- the world then is the one that the permit leaves
done : (c : goal.After-drop-parts-2) → IsDone (the_view c.self.inside) c.args.name.now
    (ToMountPlain (location_of c.args.place) (flags_of c.args.flags)) (after c)
done c =
    let at = (goal.at.returns-clause-ok c).After-graft-1 in
    let value = the_view c.self.inside in
    let made = c.in_ok-mount_new.ensures.ok in
    let grafted : IsGrafted (graft at) (counts at)
    (kept_with c.self.inside.mounts (c.self.inside.store.plain ++ made.0 ∷ []) (kept_of value).overlays)
    c.self.inside.groups (kept c.mount_new.new.mounts c.mount_new.new.store) c.mount_new.new.groups =
    subst (λ k. IsGrafted (graft at) (counts at) k c.self.inside.groups
    (kept c.mount_new.new.mounts c.mount_new.new.store) c.mount_new.new.groups)
    (λ i. kept_with c.self.inside.mounts (c.self.inside.store.plain ++ made.0 ∷ [])
    (kept_is value c.self.inside.store c.self.invariant i).overlays) made.2 in
    done_in_store value (record value {
      mounts = c.mount_new.new.mounts;
      groups = c.mount_new.new.groups;
      next = c.self.inside.next + c.in-Some.taken;
    }) c.self.inside.store c.mount_new.new.store c.self.invariant
    (left_still c.self.inside.store.overlays c.mount_new.new.store.overlays c.in_ok-mount_new.ensures.overlays)
    c.args.name.now (ToMountPlain (location_of c.args.place) (flags_of c.args.flags)) (permits at)
    (new_mount_is_done value c.self.invariant c.args.name.now (graft at) (counts at)
    (flags_of c.args.flags) (permits at) refl (tree_is at) (parts_are at) refl refl
    c.alloc-alloc.ensures.order c.alloc-alloc.ensures.counted made.0 made.1 (omega arith)
    c.mount_new.new.mounts c.mount_new.new.groups c.mount_new.new.store.plain
    (map merged_of c.mount_new.new.store.overlays) (c.self.inside.next + c.in-Some.taken) grafted (grows c))

pub invariant_of-self-2 : goal.invariant_of-self-2
invariant_of-self-2 c = (done c).held

pub returns-clause-vacant : goal.returns-clause-vacant
returns-clause-vacant c = subst NextRootIsVacant c.self.view_is
    (root_is_vacant (the_view c.self.inside) c.self.invariant c.alloc-alloc.ensures.counted
    c.alloc-alloc.ensures.sources (omega arith))

pub returns-clause-ok : goal.returns-clause-ok
returns-clause-ok c = subst (λ (v : WorldValue). Becomes v c.args.name.now
    (ToMountPlain (location_of c.args.place) (flags_of c.args.flags)) (after c)) c.self.view_is (done c).becomes

pub returns-clause-counts : goal.returns-clause-counts
returns-clause-counts c =
    let more = grows c in
    let parts = as_many_mounts c.deref.result.now (parts_of nat_eq (world_of (the_view c.self.inside))
    (location_of c.args.place)) (parts_are (goal.at.returns-clause-counts c).After-graft-1) in
    subst (λ (v : WorldValue). c.self.inside.next + c.in-Some.taken
    ≡ v.next + 4 * length (parts_of nat_eq (world_of v) (location_of c.args.place))) c.self.view_is
    (omega (arith, more, parts))
