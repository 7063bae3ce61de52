use Rattle.std.proofs.Common.{[], ap, inr, map, refl, sym, ◌++◌, ◌∙◌}
use Rattle.vt_location.specs.MountValue.{mount_of}
use Rattle.vt_mount.specs.Reserved.{mount_points_of, moved_places, namespaces_of}
use Rattle.vt_mount.specs.MountsValue.{are_ascending, entries_of, mounts_in}
use Rattle.vt_mount.proofs.EnteringLemmas.{ascending-moved}
use Rattle.vt_mount.proofs.ReservedLemmas.{reserves-first}
use Rattle.vt_mount.proofs.KeptLemmas.{not-err}
use Rattle.vt_mount.proofs.MoveLemmas.{ascending-kept}
use Rattle.vt_mount.proofs.mounts.Mounts.attach_all_then.Goals as goal

pub returns-in-Err-clause-last_err : goal.returns-in-Err-clause-last_err
returns-in-Err-clause-last_err g c =
    inr (record { shown = _; shows = refl; left = _; met = c.in-Err.ensures; leaves = refl })

pub attach_then-requires-clause-order : goal.attach_then-requires-clause-order
attach_then-requires-clause-order g c = c.requires.order
    (ap (λ now. are_ascending (mounts_in now)) (sym c.self.view_is) ∙ ascending-kept c.self.inside.by_number.entries)

pub move_all-requires-clause-reserves : goal.move_all-requires-clause-reserves
move_all-requires-clause-reserves g c =
    let new = c.args.new.now in
    reserves-first c.make_room.new.indexes [] (namespaces_of new) (moved_places c.args.points.now) (mount_points_of new)
    (not-err c.make_room.result c.if-is_err.ensures.value c.make_room.ensures.reserves)

pub enter_all-requires-clause-order : goal.enter_all-requires-clause-order
enter_all-requires-clause-order g c =
    let come = map mount_of c.args.new.now in
    ap (λ entries. are_ascending (mounts_in entries ++ come)) c.move_all.ensures.mounts
    ∙ ascending-moved c.args.points.now (entries_of c.make_room.new.by_number.entries) come
    ∙ ap (λ entries. are_ascending (mounts_in entries ++ come))
    (ap entries_of c.make_room.ensures.mounts ∙ c.self.view_is)
    ∙ c.requires.order (ap (λ now. are_ascending (mounts_in now)) (sym c.self.view_is)
    ∙ ascending-kept c.self.inside.by_number.entries)

pub enter_all-requires-clause-reserves : goal.enter_all-requires-clause-reserves
enter_all-requires-clause-reserves g c =
    let new = c.args.new.now in
    c.move_all.ensures.reserves (namespaces_of new) (mount_points_of new)
    (not-err c.make_room.result c.if-is_err.ensures.value c.make_room.ensures.reserves)
