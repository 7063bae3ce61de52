use Rattle.std.proofs.Common.{[], None, ap, arith, false, length, map, refl, subst, sym, ℕ, slice_get, ◌≡◌, ◌+◌, ◌*◌, ◌<◌, ◌∙◌, ◌∷◌, nat_eq, option_copied, option_map, All}
use Rattle.vt_spec.proofs.Common.{Task, parts_of, same_Some}
use Rattle.vt_ns.proofs.Common.{IsHeld, WorldValue, layer_kept, layer_of, location_of, task_of, with_store, world_of}
use Rattle.vt_ns.specs.OverlayMounts.{IsPlainLayer, MountsOverlay}
use Rattle.vt_ns.specs.contracts.world.World.{the_view}
use Rattle.vt_ns.specs.Grants.{GrantsOverlay}
use Rattle.vt_ns.specs.Vacancy.{NextFilesystemIsNew}
use Rattle.vt_mounting.proofs.attach.NewFilesystems.{next_is_above}
use Rattle.vt_ns.proofs.Granting.{overlay_permitted}
use Rattle.vt_ns.proofs.world.BoundEvents.{parts_found}
use Rattle.vt_ns.proofs.world.Counted.{as_many_mounts}
use Rattle.vt_ns.proofs.world.OverlayEvents.{PermitsOverlay, destination_mounted, layers_are_plain, neither_there, overlays_below, some_kept}
use Rattle.vt_ns.proofs.world.OverlaysMounted.{MountsIt, may_mount_overlay, overlay_mounted}
use Rattle.vt_ns.proofs.world.VacantNumbers.{next_is_new}
use Rattle.vt_ns.proofs.world.NodesUncounted.{counts_none, none_so_young}
use Rattle.vt_ns.proofs.world.World.mount_overlay.Goals as goal
use Rattle.vt_ns.proofs.world.World.mount_overlay.Goals.{After-graft-1, After-as_slice}

pub attach_overlay-requires-clause-none : goal.attach_overlay-requires-clause-none
attach_overlay-requires-clause-none c = counts_none (the_view c.self.inside) c.self.inside.store c.self.invariant

-- it has neither an upper layer nor a work directory
lower : (c : After-as_slice) → (c.args.new.upper ≡ None) × (c.args.new.work ≡ None)
lower c = neither_there c.args.new.upper c.args.new.work (sym c.has_upper.ensures ∙ c.if-has_upper.false)

-- what the task is permitted
permits : (c : After-as_slice) → PermitsOverlay (the_view c.self.inside) c.args.name.now c.args.new
permits c = overlay_permitted (the_view c.self.inside) c.self.invariant c.args.name.now c.args.new
    (subst (λ value. GrantsOverlay value c.args.name.now c.args.new) (sym c.self.view_is) c.requires) (lower c).0
    (next_is_new (the_view c.self.inside) c.self.invariant c.alloc-alloc.ensures.counted c.alloc-alloc.ensures.sources
    (omega arith))

pub layers_kept-requires : goal.layers_kept-requires
layers_kept-requires c =
    subst (All IsPlainLayer) (sym c.as_slice.ensures.value)
    (layers_are_plain (the_view c.self.inside) c.self.invariant c.args.name.now c.args.new (permits c) (lower c).0)

pub unwrap-requires : goal.unwrap-requires
unwrap-requires c =
    let allowed = permits (goal.at.unwrap-requires c).After-as_slice in
    let lowers_are = c.in_ok-lowers.ensures.ok
    ∙ ap (map (λ lower. layer_kept (layer_of lower))) c.as_slice.ensures.value in
    c.first.ensures.item.2 (subst (λ items. 0 < length items) (sym c.as_slice-2.ensures.value)
    (some_kept (the_view c.self.inside) c.self.invariant c.args.name.now c.args.new allowed
    (lower (goal.at.unwrap-requires c).After-as_slice).0 c.in_ok-lowers.lowers.items
    lowers_are allowed.task.credentials refl))

pub parts-requires : goal.parts-requires
parts-requires c = destination_mounted (the_view c.self.inside) c.self.invariant c.args.name.now c.args.new
    (permits (goal.at.parts-requires c).After-as_slice)
    (lower (goal.at.parts-requires c).After-as_slice).0

-- what is attached
abbrev mounts : (c : After-graft-1)
    → MountsIt (the_view c.self.inside) c.self.inside.store c.args.name.now c.args.new
mounts c =
    let allowed = permits (goal.at.attach_overlay-requires-clause-may c).After-as_slice in
    let none = lower (goal.at.attach_overlay-requires-clause-may c).After-as_slice in record {
      whole = c.self.invariant;
      permits = allowed;
      no_upper = none.0;
      no_work = none.1;
      lowers = c.in_ok-lowers.lowers.items;
      lowers_are = c.in_ok-lowers.ensures.ok
          ∙ ap (map (λ lower. layer_kept (layer_of lower))) c.as_slice.ensures.value;
      mounter = c.in_ok-mounter.mounter;
      mounter_is = c.in_ok-mounter.ensures.cases
          ∙ ap (λ (task : Task ℕ). task.credentials) (same_Some (task_of c.unwrap-2.result.now) allowed.task
          (sym (ap (λ found. option_map task_of (option_copied found)) c.unwrap-2.ensures) ∙ c.get.ensures.found
          ∙ allowed.called));
      top = c.unwrap.result.now;
      top_is = ap (λ items. slice_get items 0) (sym c.as_slice-2.ensures.value) ∙ sym c.first.ensures.value
          ∙ ap option_copied c.unwrap.ensures;
      small = omega arith;
      mount = c.mount_of_overlay.result;
      mount_is = c.mount_of_overlay.ensures;
      graft = record {
        parts = c.deref.result;
        tree = record { ref_ptr = (c.tree-1.given, 0); now = c.mount_of_overlay.result ∷ [] };
        place = c.args.new.destination;
        moves = false;
      };
      tree_is = refl;
      place_is = refl;
      binds = refl;
      parts_are = parts_found (the_view c.self.inside) c.args.self.now c.self.view_is c.self.invariant
          c.args.new.destination c.in_ok-parts.parts.items c.deref.result.now c.deref.ensures.value
          c.in_ok-parts.ensures.ok;
      counts = record { first = c.self.inside.next + 1; step = 2 };
      first = refl;
      step = refl;
      ascending = c.alloc-alloc.ensures.order;
      odd = c.alloc-alloc.ensures.counted;
    }

pub attach_overlay-requires-clause-may : goal.attach_overlay-requires-clause-may
attach_overlay-requires-clause-may c =
    may_mount_overlay (the_view c.self.inside) c.self.inside.store c.args.name.now c.args.new (mounts c)

pub attach_overlay-requires-clause-apart : goal.attach_overlay-requires-clause-apart
attach_overlay-requires-clause-apart c = none_so_young c.self.inside.next c.self.inside.store.plain
    (next_is_above (the_view c.self.inside) c.self.invariant)

pub attach_overlay-requires-clause-above : goal.attach_overlay-requires-clause-above
attach_overlay-requires-clause-above c = overlays_below (the_view c.self.inside) c.self.inside.store c.self.invariant

abbrev after : (c : goal.After-drop-new-2) → WorldValue
after c = with_store c.attach_overlay.new.store (record (the_view c.self.inside) {
  mounts = c.attach_overlay.new.mounts;
  groups = c.attach_overlay.new.groups;
  next = c.self.inside.next + c.in-Some.taken;
})

-- so many numbers are taken
grows : (c : goal.After-drop-new-2) → c.self.inside.next + c.in-Some.taken
    ≡ (the_view c.self.inside).next + 2 * (length c.deref.result.now * 2)
grows c = cc c.in-Some.ensures.count

-- the world then is the one that the permit leaves
done : (c : goal.After-drop-new-2) → IsHeld (after c)
    × MountsOverlay (the_view c.self.inside) c.args.name.now c.args.new (after c)
done c =
    let attached = c.in_ok-attach_overlay.ensures.ok in
    overlay_mounted (the_view c.self.inside) c.self.inside.store c.args.name.now c.args.new
    (mounts (goal.at.returns-clause-ok c).After-graft-1) (omega arith) attached.0 c.attach_overlay.new.store attached.1
    c.in_ok-attach_overlay.ensures.overlays c.attach_overlay.new.mounts c.attach_overlay.new.groups
    (c.self.inside.next + c.in-Some.taken) attached.2 (grows c)

pub invariant_of-self-2 : goal.invariant_of-self-2
invariant_of-self-2 c = (done c).0

pub returns-clause-vacant : goal.returns-clause-vacant
returns-clause-vacant c = subst NextFilesystemIsNew c.self.view_is
    (next_is_new (the_view c.self.inside) c.self.invariant c.alloc-alloc.ensures.counted c.alloc-alloc.ensures.sources
    (omega arith))

pub returns-clause-no_upper : goal.returns-clause-no_upper
returns-clause-no_upper c = lower (goal.at.returns-clause-no_upper c).After-as_slice

pub returns-clause-ok : goal.returns-clause-ok
returns-clause-ok c =
    subst (λ (v : WorldValue). MountsOverlay v c.args.name.now c.args.new (after c)) c.self.view_is (done c).1

pub returns-clause-counts : goal.returns-clause-counts
returns-clause-counts c =
    let more = grows c in
    let parts = as_many_mounts c.deref.result.now
    (parts_of nat_eq (world_of (the_view c.self.inside)) (location_of c.args.new.destination))
    (mounts (goal.at.returns-clause-counts c).After-graft-1).parts_are in
    subst (λ (v : WorldValue). c.self.inside.next + c.in-Some.taken
    ≡ v.next + 4 * length (parts_of nat_eq (world_of v) (location_of c.args.new.destination))) c.self.view_is
    (omega (arith, more, parts))
