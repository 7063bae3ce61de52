use Rattle.std.proofs.Common.{List, Some, ap, arith, length, map, refl, subst, sym, true, ◌*◌, ◌+◌, ◌-◌, ◌≡◌, ◌∙◌}
use Rattle.vt_spec.proofs.Common.{folded, length-map, list_all}
use Rattle.vt_location.specs.Numbers.{most_counted}
use Rattle.vt_mounting.proofs.Common.{Filesystems, Overlays, shown}
use Rattle.vt_location.specs.declared.locations.Location.{Location}
use Rattle.vt_mount.specs.declared.moving.Moved.{Moved}
use Rattle.vt_mounting.specs.Attach.Planned.{left_of, pinned_by, points_taken, taken_of, unpinned_by}
use Rattle.vt_mounting.specs.Attach.Room.{has_room, merged_has_room, point_has_room}
use Rattle.vt_mounting.specs.Detach.Stored.{has_count, merged_of, under_counts}
use Rattle.vt_mounting.specs.Detach.Uses.{merged_by, shown_by}
use Rattle.vt_mounting.proofs.attach.OverlayCounts.{merged_room_stays}
use Rattle.vt_mounting.proofs.attach.PlannedMoves.{all_room_then, room_stays, taken_few, taken_pass}
use Rattle.vt_mounting.proofs.detach.CountNoUses.{still_same}
use Rattle.vt_mounting.proofs.attach.planned.attach_grouped.Goals as goal

pub exchange_uses-requires-clause-points : goal.exchange_uses-requires-clause-points
exchange_uses-requires-clause-points c =
    let plan = c.args.plan.now in
    let all = shown c.args.store.now.plain in
    let moved = c.deref.result.now in
    let taken = points_taken plan.points.now c.args.mounts.now in
    let less = most_counted - (2 * length plan.copies.now + length plan.points.now + 0) in
    let few = taken_few plan.points.now c.args.mounts.now in
    let are : taken_of moved ≡ taken = ap taken_of c.deref.ensures.value ∙ c.in_ok-moved.ensures.moves.taken_are in
    let many : length moved ≡ length taken = sym (length-map moved (λ (one : Moved). one.to)) ∙ ap length are in
    subst (λ (list : List Location). list_all
    (λ (point : Location). point_has_room (most_counted - length moved) all (Some point)) list ≡ true) (sym are)
    (room_stays (most_counted - length moved) less all (omega (arith, few, many)) taken
    (taken_pass (λ (point : Location). point_has_room less all (Some point)) plan.points.now c.args.mounts.now
    (c.if-not-plan_has_room.ensures.points refl)))

pub exchange_uses-requires-clause-copies : goal.exchange_uses-requires-clause-copies
exchange_uses-requires-clause-copies c =
    let plan = c.args.plan.now in
    let all = shown c.args.store.now.plain in
    let taken = points_taken plan.points.now c.args.mounts.now in
    let less = most_counted - (2 * length plan.copies.now + length plan.points.now + 0) in
    let few = taken_few plan.points.now c.args.mounts.now in
    let fits = c.if-not-plan_has_room.ensures.fits refl in
    let pinned_so : folded pinned_by all (taken_of c.deref.result.now) ≡ folded pinned_by all taken =
    ap (folded pinned_by all) (ap taken_of c.deref.ensures.value ∙ c.in_ok-moved.ensures.moves.taken_are) in
    subst (λ later. list_all (has_room (most_counted - 2 * length plan.copies.now) later) plan.copies.now ≡ true)
    (sym pinned_so)
    (all_room_then taken all less (most_counted - 2 * length plan.copies.now) (omega (arith, few, fits)) plan.copies.now
    (c.if-not-plan_has_room.ensures.copies refl))

pub hold_overlays-requires : goal.hold_overlays-requires
hold_overlays-requires c =
    let plan = c.args.plan.now in
    subst (λ (overlays : Overlays). list_all
    (merged_has_room (most_counted - length plan.copies.now) (map merged_of overlays)) plan.copies.now ≡ true)
    (sym c.exchange_uses.ensures.overlays) (merged_room_stays (most_counted - length plan.copies.now)
    (most_counted - (2 * length plan.copies.now + length plan.points.now + 0)) (map merged_of c.args.store.now.overlays)
    (omega arith) plan.copies.now (c.if-not-plan_has_room.ensures.overlays refl))

pub returns-clause-ok : goal.returns-clause-ok
returns-clause-ok c =
    let plan = c.args.plan.now in
    let all = shown c.args.store.now.plain in
    let moves = c.in_ok-moved.ensures.moves in
    let left = left_of c.in_ok-moved.moved.items in
    let taken_are = ap taken_of c.deref.ensures.value ∙ moves.taken_are in
    let left_are : left_of c.deref.result.now ≡ left = ap left_of c.deref.ensures.value in
    let files : shown c.hold_overlays.new.store.plain
    ≡ folded unpinned_by (folded shown_by (folded pinned_by all (points_taken plan.points.now c.args.mounts.now))
    plan.copies.now) left = ap shown c.hold_overlays.ensures.plain ∙ c.exchange_uses.ensures.uses
    ∙ (λ i. folded unpinned_by (folded shown_by (folded pinned_by all (taken_are i)) plan.copies.now) (left_are i)) in (
      left,
      moves.left_are,
      moves.left_small,
      λ i. record {
        mounts = c.in_ok-moved.ensures.mounts_ok i;
        filesystems = files i;
        overlays = (c.hold_overlays.ensures.overlays
            ∙ ap (λ overlays. folded merged_by (map merged_of overlays) plan.copies.now)
            c.exchange_uses.ensures.overlays) i;
      },
    )

pub returns-clause-overlays : goal.returns-clause-overlays
returns-clause-overlays c = c.hold_overlays.ensures.stay ∙ ap under_counts c.exchange_uses.ensures.overlays

pub returns-clause-still : goal.returns-clause-still
returns-clause-still c =
    let between = c.exchange_uses.new.store in
    still_same between c.exchange_uses.ensures.still c.hold_overlays.new.store c.hold_overlays.ensures.stay
    (λ count none. ap (λ (plain : Filesystems). has_count count (shown plain)) c.hold_overlays.ensures.plain ∙ none)
