use Rattle.std.proofs.Common.{[], ◌∷◌, ◌&&◌, ◌||◌, nat_eq, not, sym, ◌∙◌}
use Rattle.vt_spec.proofs.Common.{ToMove, and_then, destination_walk, judging, move_rules, source_walk, walk_end}
use Rattle.vt_spec.specs.declared.errors.Rule.TheVariants.{M10, M2, M4, M5, M6, M7, M9}
use Rattle.vt_location.specs.Locations.{location_of}
use Rattle.vt_tasks.specs.TaskValue.{task_of}
use Rattle.vt_later.specs.Past.{table_past}
use Rattle.vt_later.proofs.Judged.{exactly}
use Rattle.vt_later.proofs.Walked.{reached}
use Rattle.vt_later.proofs.mounting.move_mount.Goals as goal

pub returns : goal.returns
unfolding judging
returns g c =
    let looks = g.L.Look.looks c.args.world.now in
    let overfills = g.L.LookAtMounts.overfills c.args.world.now in
    let passed = c.args.passed.now in
    let task = task_of c.args.who.now in
    let source = location_of c.in_ok-source.source in
    exactly _ c.first.result (c.first.ensures
    ∙ (λ i. table_past passed ((c.is_elsewhere.ensures i || c.is_elsewhere-2.ensures i, M2)
    ∷ (c.has_shared_parent.ensures i, M4) ∷ (c.is_shared.ensures i && c.has_unbindable.ensures i, M5)
    ∷ (c.is_at_or_below.ensures i, M6) ∷ (c.is_no_root.ensures i, M7) ∷ (c.in_ok-overfull.ensures.ok i, M9)
    ∷ (not (c.is_attached_somewhere.ensures i), M10) ∷ []))
    ∙ sym (reached (walk_end (source_walk nat_eq looks task c.args.paths.source.now)) c.in_ok-source.source (λ from.
    and_then (walk_end (destination_walk nat_eq looks task c.args.paths.path.now)) (λ here.
    table_past passed (move_rules nat_eq looks task from here.location (overfills (ToMove from.mount here.location)))))
    c.in_ok-source.ensures.ok
    ∙ reached (walk_end (destination_walk nat_eq looks task c.args.paths.path.now)) c.in_ok-destination.destination
    (λ at. table_past passed (move_rules nat_eq looks task source at (overfills (ToMove source.mount at))))
    c.in_ok-destination.ensures.ok))
