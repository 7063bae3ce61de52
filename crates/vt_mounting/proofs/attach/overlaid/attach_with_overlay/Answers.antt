use Rattle.std.proofs.Common.{List, Some, [], ap, arith, length, map, refl, subst, sym, true, ◌*◌, ◌+◌, ◌++◌, ◌-◌, ◌∷◌, ◌≡◌, ◌∙◌, ◌≤◌}
use Rattle.vt_spec.proofs.Common.{folded, length-map, list_all, map-append}
use Rattle.vt_location.specs.Numbers.{most_counted}
use Rattle.vt_mounting.proofs.Common.{Filesystems, Overlays, Shown, StoreValue, held_in, shown, with_layers, without_overlay}
use Rattle.vt_location.specs.declared.locations.Location.{Location}
use Rattle.vt_mount.specs.declared.moving.Moved.{Moved}
use Rattle.vt_store.specs.LayersHeld.{HaveRoomFor}
use Rattle.vt_mounting.specs.Attach.Overlaid.{new_entry}
use Rattle.vt_mounting.specs.Attach.Planned.{Point, left_of, pinned_by, points_taken, taken_of, unpinned_by}
use Rattle.vt_mounting.specs.Attach.Room.{has_room, merged_has_room, point_has_room}
use Rattle.vt_mounting.specs.Detach.Stored.{layer_of, merged_of, under_counts}
use Rattle.vt_mounting.specs.Detach.Uses.{Merged, merged_by, shown_by}
use Rattle.vt_mounting.proofs.attach.OverlayCounts.{merged_room_stays}
use Rattle.vt_mounting.proofs.attach.OverlaysNew.{copies_fit, layers_more, lowers_new, overlays_fit, points_fit, still_with, with_layer, withdrawn}
use Rattle.vt_mounting.proofs.attach.PlannedMoves.{all_room_then, room_stays, taken_few, taken_pass}
use Rattle.vt_mounting.proofs.attach.overlaid.attach_with_overlay.Goals as goal

pub hold_layers_of-requires : goal.hold_layers_of-requires
hold_layers_of-requires c =
    let e = new_entry c.args.new in
    let entered = c.in_ok-enter_overlay.ensures.ok in
    let lowers : held_in c.enter_overlay.new.self c.args.new.filesystem.count ≡ c.args.new.lowers.items =
    ap (λ (store : StoreValue). held_in store c.args.new.filesystem.count) entered
    ∙ lowers_new c.args.store.now e c.requires.above in
    let layers = held_in c.enter_overlay.new.self c.args.new.filesystem.count in
    subst (λ (plain : Filesystems). HaveRoomFor (length layers) (shown plain) layers)
    (sym (ap (λ (store : StoreValue). store.plain) entered))
    (subst (λ list. HaveRoomFor (length list) (shown c.args.store.now.plain) list)
    (c.deref.ensures.value ∙ sym lowers) (c.if-not-layers_have_room.ensures.0 refl))

pub exchange_uses-requires-clause-none : goal.exchange_uses-requires-clause-none
exchange_uses-requires-clause-none c =
    let e = new_entry c.args.new in
    let entered = c.in_ok-enter_overlay.ensures.ok in
    let lowers : held_in c.enter_overlay.new.self c.args.new.filesystem.count ≡ c.args.new.lowers.items =
    ap (λ (store : StoreValue). held_in store c.args.new.filesystem.count) entered
    ∙ lowers_new c.args.store.now e c.requires.above in
    still_with c.args.store.now c.hold_layers_of.new.self e c.args.new.lowers.items refl c.requires.apart
    c.requires.none (c.hold_layers_of.ensures.overlays ∙ ap (λ (store : StoreValue). store.overlays) entered)
    (c.hold_layers_of.ensures.held ∙ (λ i. with_layers (lowers i) (shown (entered i).plain)))

pub exchange_uses-requires-clause-points : goal.exchange_uses-requires-clause-points
exchange_uses-requires-clause-points c =
    let e = new_entry c.args.new in
    let plan = c.args.plan.now in
    let entered = c.in_ok-enter_overlay.ensures.ok in
    let lowers : held_in c.enter_overlay.new.self c.args.new.filesystem.count ≡ c.args.new.lowers.items =
    ap (λ (store : StoreValue). held_in store c.args.new.filesystem.count) entered
    ∙ lowers_new c.args.store.now e c.requires.above in
    let layers = map layer_of c.args.new.lowers.items in
    let all = folded with_layer (shown c.args.store.now.plain) layers in
    let uses : shown c.hold_layers_of.new.self.plain ≡ all = c.hold_layers_of.ensures.held
    ∙ (λ i. with_layers (lowers i) (shown (entered i).plain))
    ∙ layers_more c.args.new.lowers.items (shown c.args.store.now.plain) in
    let moved = c.deref-in-Ok.result.now in
    let taken = points_taken plan.points.now c.args.mounts.now in
    let less = most_counted - (2 * length plan.copies.now + length plan.points.now + c.len.result) in
    let middle = most_counted - (2 * length plan.copies.now + length plan.points.now) in
    let few = taken_few plan.points.now c.args.mounts.now in
    let are : taken_of moved ≡ taken = ap taken_of c.deref-in-Ok.ensures.value ∙ c.in-Ok.ensures.moves.taken_are in
    let many : length moved ≡ length taken = sym (length-map moved (λ (one : Moved). one.to)) ∙ ap length are in
    let as_many : length layers ≡ length c.args.new.lowers.items = length-map c.args.new.lowers.items layer_of in
    let sum = c.if-not-plan_has_room.ensures.fits refl in
    let beside = c.len.ensures in
    let fits : less + length layers ≤ middle = omega (arith, as_many, sum, beside) in
    subst (λ (list : List Shown). list_all
    (λ (point : Location). point_has_room (most_counted - length moved) list (Some point)) (taken_of moved) ≡ true)
    (sym uses) (subst (λ (list : List Location). list_all
    (λ (point : Location). point_has_room (most_counted - length moved) all (Some point)) list ≡ true) (sym are)
    (room_stays (most_counted - length moved) middle all (omega (arith, few, many)) taken
    (taken_pass (λ (point : Location). point_has_room middle all (Some point)) plan.points.now c.args.mounts.now
    (points_fit layers (shown c.args.store.now.plain) less middle fits (λ (point : Point). point.place)
    plan.points.now (c.if-not-plan_has_room.ensures.points refl)))))

pub exchange_uses-requires-clause-copies : goal.exchange_uses-requires-clause-copies
exchange_uses-requires-clause-copies c =
    let e = new_entry c.args.new in
    let plan = c.args.plan.now in
    let entered = c.in_ok-enter_overlay.ensures.ok in
    let lowers : held_in c.enter_overlay.new.self c.args.new.filesystem.count ≡ c.args.new.lowers.items =
    ap (λ (store : StoreValue). held_in store c.args.new.filesystem.count) entered
    ∙ lowers_new c.args.store.now e c.requires.above in
    let layers = map layer_of c.args.new.lowers.items in
    let all = folded with_layer (shown c.args.store.now.plain) layers in
    let uses : shown c.hold_layers_of.new.self.plain ≡ all = c.hold_layers_of.ensures.held
    ∙ (λ i. with_layers (lowers i) (shown (entered i).plain))
    ∙ layers_more c.args.new.lowers.items (shown c.args.store.now.plain) in
    let taken = points_taken plan.points.now c.args.mounts.now in
    let less = most_counted - (2 * length plan.copies.now + length plan.points.now + c.len.result) in
    let middle = most_counted - (2 * length plan.copies.now + length plan.points.now) in
    let few = taken_few plan.points.now c.args.mounts.now in
    let as_many : length layers ≡ length c.args.new.lowers.items = length-map c.args.new.lowers.items layer_of in
    let sum = c.if-not-plan_has_room.ensures.fits refl in
    let beside = c.len.ensures in
    let fits : less + length layers ≤ middle = omega (arith, as_many, sum, beside) in
    let pinned_so : folded pinned_by (shown c.hold_layers_of.new.self.plain) (taken_of c.deref-in-Ok.result.now)
    ≡ folded pinned_by all taken =
    ap (λ (list : List Shown). folded pinned_by list (taken_of c.deref-in-Ok.result.now)) uses
    ∙ ap (folded pinned_by all) (ap taken_of c.deref-in-Ok.ensures.value ∙ c.in-Ok.ensures.moves.taken_are) in
    subst (λ later. list_all (has_room (most_counted - 2 * length plan.copies.now) later) plan.copies.now ≡ true)
    (sym pinned_so)
    (all_room_then taken all middle (most_counted - 2 * length plan.copies.now) (omega (arith, few, sum))
    plan.copies.now (copies_fit layers (shown c.args.store.now.plain) less middle fits plan.copies.now
    (c.if-not-plan_has_room.ensures.copies refl)))

pub hold_overlays-requires : goal.hold_overlays-requires
hold_overlays-requires c =
    let e = new_entry c.args.new in
    let plan = c.args.plan.now in
    let less = most_counted - (2 * length plan.copies.now + length plan.points.now + c.len.result) in
    let before = map merged_of c.args.store.now.overlays in
    let over : map merged_of c.exchange_uses.new.store.overlays ≡ before ++ merged_of e ∷ [] =
    ap (map merged_of) (c.exchange_uses.ensures.overlays ∙ c.hold_layers_of.ensures.overlays
    ∙ ap (λ (store : StoreValue). store.overlays) c.in_ok-enter_overlay.ensures.ok)
    ∙ map-append merged_of c.args.store.now.overlays (e ∷ []) in
    subst (λ (list : List Merged). list_all (merged_has_room (most_counted - length plan.copies.now) list)
    plan.copies.now ≡ true) (sym over)
    (merged_room_stays (most_counted - length plan.copies.now) less (before ++ merged_of e ∷ []) (omega arith)
    plan.copies.now
    (overlays_fit less before (merged_of e) refl plan.copies.now (c.if-not-plan_has_room.ensures.overlays refl)))

pub returns-in-Ok-clause-ok : goal.returns-in-Ok-clause-ok
returns-in-Ok-clause-ok c =
    let e = new_entry c.args.new in
    let plan = c.args.plan.now in
    let held = c.hold_layers_of.new.self in
    let entered = c.in_ok-enter_overlay.ensures.ok in
    let lowers : held_in c.enter_overlay.new.self c.args.new.filesystem.count ≡ c.args.new.lowers.items =
    ap (λ (store : StoreValue). held_in store c.args.new.filesystem.count) entered
    ∙ lowers_new c.args.store.now e c.requires.above in
    let moves = c.in-Ok.ensures.moves in
    let left = left_of c.in-Ok.moved.items in
    let all = shown held.plain in
    let taken_are = ap taken_of c.deref-in-Ok.ensures.value ∙ moves.taken_are in
    let left_are : left_of c.deref-in-Ok.result.now ≡ left = ap left_of c.deref-in-Ok.ensures.value in
    let files : shown c.hold_overlays.new.store.plain
    ≡ folded unpinned_by (folded shown_by (folded pinned_by all (points_taken plan.points.now c.args.mounts.now))
    plan.copies.now) left = ap shown c.hold_overlays.ensures.plain ∙ c.exchange_uses.ensures.uses
    ∙ (λ i. folded unpinned_by (folded shown_by (folded pinned_by all (taken_are i)) plan.copies.now) (left_are i)) in (
      held,
      record {
        overlays = c.hold_layers_of.ensures.overlays ∙ ap (λ (store : StoreValue). store.overlays) entered;
        layers = c.hold_layers_of.ensures.held ∙ (λ i. with_layers (lowers i) (shown (entered i).plain));
      },
      left,
      moves.left_are,
      moves.left_small,
      λ i. record {
        mounts = c.in-Ok.ensures.mounts_ok i;
        filesystems = files i;
        overlays = (c.hold_overlays.ensures.overlays
            ∙ ap (λ overlays. folded merged_by (map merged_of overlays) plan.copies.now)
            c.exchange_uses.ensures.overlays) i;
      },
    )

pub returns-in-Ok-clause-overlays : goal.returns-in-Ok-clause-overlays
returns-in-Ok-clause-overlays c = c.hold_overlays.ensures.stay
    ∙ ap under_counts (c.exchange_uses.ensures.overlays ∙ c.hold_layers_of.ensures.overlays
    ∙ ap (λ (store : StoreValue). store.overlays) c.in_ok-enter_overlay.ensures.ok)

pub returns-in-Err-clause-err_store : goal.returns-in-Err-clause-err_store
returns-in-Err-clause-err_store c =
    let e = new_entry c.args.new in
    c.withdraw_overlay.ensures ∙ ap (λ (store : StoreValue). record store {
      overlays = without_overlay c.args.new.filesystem.count store.overlays;
    }) c.in_ok-enter_overlay.ensures.ok ∙ ap (λ (overlays : Overlays). record c.args.store.now { overlays = overlays })
    (withdrawn c.args.store.now.overlays e c.requires.above)
