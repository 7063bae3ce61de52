use Rattle.std.proofs.Common.{nat_eq, refl, sym, ◌∙◌}
use Rattle.vt_spec.proofs.Common.{MountPlain, ToMountPlain, err_from_is_err_and, judge}
use Rattle.vt_spec.specs.declared.errors.Rule.TheVariants.{M2}
use Rattle.vt_cred.specs.MountFlags.{flags_of}
use Rattle.vt_location.specs.Locations.{location_of}
use Rattle.vt_tasks.specs.TaskValue.{task_of}
use Rattle.vt_rules.proofs.Judged.{no_receivers}
use Rattle.vt_policy.proofs.MountLemmas.{mount_plain_asked}
use Rattle.vt_rules.proofs.Rows.{skipped}
use Rattle.vt_policy.proofs.mounting.mount_plain.Goals as goal

pub returns-in_err-overfills : goal.returns-in_err-overfills
returns-in_err-overfills g c =
    let looks = g.L.Look.looks c.args.world.now in
    let overfills = g.L.LookAtMounts.overfills c.args.world.now in
    let task = task_of c.args.who.now in
    let flags = flags_of c.args.flags in
    let destination = location_of c.in_ok-destination.destination in
    let permit = ToMountPlain destination flags in
    let p = err_from_is_err_and c.from_residual-in_err-overfills.result c.from_residual-in_err-overfills.ensures.1 in
    rw (p.1, p.2) (no_receivers (MountPlain c.args.path.now flags) task
    (judge nat_eq looks overfills task (MountPlain c.args.path.now flags)) (overfills permit) permit _ refl
    (mount_plain_asked looks overfills task c.args.path.now flags destination
    (sym c.lacks.ensures ∙ c.if-lacks.false) c.in_ok-destination.ensures.ok
    ∙ skipped _ M2 _ _ (sym c.is_elsewhere.ensures ∙ c.if-is_elsewhere.false)) c.in_err-overfills.ensures.memory)
