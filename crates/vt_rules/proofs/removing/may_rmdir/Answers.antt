use Rattle.std.proofs.Common.{Ok, ap, not, sym, ◌∙◌}
use Rattle.vt_spec.proofs.Common.{Remove, has_no_upper, is_read_only, name_of, or_from, unless}
use Rattle.vt_spec.specs.declared.errors.Rule.TheVariants.{E3, E4, F1, F2, L1, P1}
use Rattle.vt_location.specs.Locations.{location_of}
use Rattle.vt_tasks.specs.TaskValue.{task_of}
use Rattle.vt_rules.specs.Tables.{remove_rules}
use Rattle.vt_rules.proofs.Rows.{skipped}
use Rattle.vt_rules.proofs.removing.may_rmdir.Goals as goal

pub returns : goal.returns
returns g c seen is =
    let looks = g.L.Look.looks c.args.world.now in
    let task = task_of c.args.who.now in
    let object = location_of c.args.place.now.object in
    let name = name_of seen.last in
    c.may_remove.ensures name
    ∙ sym (skipped _ E3 _ _ (ap not (sym c.is_directory.ensures ∙ c.if-not-is_directory.false))
    ∙ skipped _ E4 _ _ (sym c.is_nonempty.ensures ∙ c.if-is_nonempty.false)
    ∙ skipped _ F1 _ _ (ap (is_read_only looks) is.parent ∙ sym c.is_read_only.ensures ∙ c.if-is_read_only.false)
    ∙ skipped _ F2 _ _ (ap (has_no_upper looks) is.parent ∙ sym c.has_no_upper.ensures ∙ c.if-has_no_upper.false)
    ∙ skipped _ L1 _ _ (or_from _ _ (sym c.is_locked.ensures ∙ c.if-is_locked.false)
    (ap looks.is_locked is.parent ∙ sym c.is_locked-else-is_locked.ensures ∙ c.if-is_locked-2.false))
    ∙ skipped _ P1 _ _ (sym c.is_mount_point_in.ensures ∙ c.if-is_mount_point_in.false)
    ∙ (λ i. unless (remove_rules looks task (is.parent i) object (Remove (is.parent i).node name object.node)) (Ok tt)))
