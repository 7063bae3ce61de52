use Rattle.std.proofs.Common.{Some, ap, cond, refl, subst, sym, ◌++◌, ◌∙◌, ◌∷◌, []}
use Rattle.vt_spec.proofs.Common.{option_copied_mut}
use Rattle.indexmap.specs.IndexMap.{spare}
use Rattle.vt_mount.specs.declared.moving.Moved.{Moved}
use Rattle.vt_mount.specs.Indexed.{IsIndexed}
use Rattle.vt_mount.specs.Moving.{placed_entry}
use Rattle.vt_mount.specs.MountsValue.{in_order}
use Rattle.vt_mount.proofs.ReservedLemmas.{reserves-later}
use Rattle.vt_mount.proofs.NotedLemmas.{moves-absent, moves-noted, small-noted}
use Rattle.vt_mount.proofs.MoveLemmas.{indexed-placed, moved_kept}
use Rattle.vt_mount.proofs.OrderLemmas.{found-in_order, in_order-changed, rises-in_order}
use Rattle.vt_mount.proofs.WriteLemmas.{entries-written, is-written, not-written}
use Rattle.vt_mount.proofs.moving.move_one.Goals as goal

pub returns-in_default-clause-mounts : goal.returns-in_default-clause-mounts
returns-in_default-clause-mounts c =
    let map = c.args.by_number.now in
    let change = moved_kept c.args.point.place in
    entries-written c.args.point.mount change (placed_entry c.args.point.place) map.entries _ _ (λ n one. refl)
    (not-written c.args.point.mount change map _ (sym c.get_mut.ensures.value ∙ ap option_copied_mut c.in_default.is)
    (ap (λ map. map.entries) c.get_mut.follows.holds-at-none)) refl

pub returns-in_default-clause-moves : goal.returns-in_default-clause-moves
returns-in_default-clause-moves c = moves-absent c.args.moved.now.items c.args.point c.args.by_number.now.entries
    (sym c.get_mut.ensures.value ∙ ap option_copied_mut c.in_default.is)

pub returns-in_default-clause-reserves : goal.returns-in_default-clause-reserves
returns-in_default-clause-reserves c namespaces places has =
    reserves-later c.args.indexes.now namespaces c.args.point.place places has

pub returns-in_default-clause-spare : goal.returns-in_default-clause-spare
returns-in_default-clause-spare c = ap spare c.get_mut.follows.holds-at-none

pub returns-clause-indexed : goal.returns-clause-indexed
returns-clause-indexed c =
    let map = c.args.by_number.now in
    let change = moved_kept c.args.point.place in
    let there = sym c.get_mut.ensures.value ∙ ap option_copied_mut c.in-Some.is in
    let shifts = c.shift.ensures in
    subst (IsIndexed c.shift.new.self) (sym (in_order-changed c.args.point.mount change map.entries _
    (is-written c.args.point.mount change map _ c.in-Some.kept.now _ there refl (c.get_mut.follows.holds _))))
    (indexed-placed c.args.point.mount (Some c.args.point.place) c.in-Some.kept.now (in_order map.entries)
    (rises-in_order map.entries) (found-in_order c.args.point.mount map.entries ∙ there)
    c.args.indexes.now c.shift.new.self shifts.slot shifts.namespace shifts.parent shifts.place
    c.requires.indexed)

pub returns-clause-mounts : goal.returns-clause-mounts
returns-clause-mounts c =
    let map = c.args.by_number.now in
    let change = moved_kept c.args.point.place in
    let there = sym c.get_mut.ensures.value ∙ ap option_copied_mut c.in-Some.is in
    entries-written c.args.point.mount change (placed_entry c.args.point.place) map.entries _ _ (λ n one. refl)
    (is-written c.args.point.mount change map _ c.in-Some.kept.now _ there refl (c.get_mut.follows.holds _)) refl

pub returns-clause-moves : goal.returns-clause-moves
returns-clause-moves c =
    let old = c.args.moved.now.items in
    let one : Moved = record { mount = c.args.point.mount; from = c.in-Some.kept.now.mount_point; to = c.args.point.place } in
    moves-noted old _ c.args.point c.in-Some.kept.now c.args.by_number.now.entries
    (c.push.ensures.items ∙ ap (λ b. cond b (old ++ one ∷ []) old) (c.push.ensures.succeeds c.requires.room))
    (sym c.get_mut.ensures.value ∙ ap option_copied_mut c.in-Some.is)

pub returns-clause-small : goal.returns-clause-small
returns-clause-small c =
    let old = c.args.moved.now.items in
    let one : Moved = record { mount = c.args.point.mount; from = c.in-Some.kept.now.mount_point; to = c.args.point.place } in
    small-noted old _ c.args.point c.in-Some.kept.now c.args.by_number.now.entries
    (c.push.ensures.items ∙ ap (λ b. cond b (old ++ one ∷ []) old) (c.push.ensures.succeeds c.requires.room))
    (sym c.get_mut.ensures.value ∙ ap option_copied_mut c.in-Some.is) c.requires.indexed.slots c.shift.ensures.slot

pub returns-clause-spare : goal.returns-clause-spare
returns-clause-spare c = (c.get_mut.follows.holds _).6
