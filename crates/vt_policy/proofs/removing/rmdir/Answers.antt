use Rattle.std.proofs.Common.{Ok, ap, nat_eq, sym, unwrap_or, ◌∙◌}
use Rattle.vt_spec.proofs.Common.{Rmdir, ToRemoveDirectory, err_from_is_err_and, name_of, rmdir_rules, unless-let_through}
use Rattle.vt_looks.specs.Places.{last_of}
use Rattle.vt_location.specs.Locations.{location_of}
use Rattle.vt_tasks.specs.TaskValue.{task_of}
use Rattle.vt_rules.proofs.Judged.{refused, without_memory}
use Rattle.vt_policy.specs.Judged.{judge_by_looks}
use Rattle.vt_policy.proofs.PlaceLemmas.{rmdir_asked}
use Rattle.vt_rules.proofs.Refusals.{unless-stopped}
use Rattle.vt_policy.proofs.removing.rmdir.Goals as goal

pub returns-in_err-may_rmdir : goal.returns-in_err-may_rmdir
returns-in_err-may_rmdir g c =
    let looks = g.L.Look.looks c.args.world.now in
    let task = task_of c.args.who.now in
    let at = c.in_ok-place.ensures.ok in
    let object = location_of c.in_ok-place.place.object in
    let permit = ToRemoveDirectory at.0.parent (name_of at.0.last) object in
    let asked = rmdir_asked looks task c.args.path.now at.0 object _ at.1 (at.2.last ∙ ap last_of c.in-Named.is)
    (ap (λ object. unwrap_or object at.0.parent) at.2.object) in
    let p = err_from_is_err_and c.from_residual-in_err-may_rmdir.result c.from_residual-in_err-may_rmdir.ensures.1 in
    rw (p.1, p.2) (refused task (judge_by_looks looks task (Rmdir c.args.path.now)) _
    (asked ∙ unless-stopped (rmdir_rules nat_eq looks task at.0 object) (Ok permit) _
    (c.in_err-may_rmdir.ensures at.0 at.2)))

pub returns-in_err-name_at : goal.returns-in_err-name_at
returns-in_err-name_at g c =
    let looks = g.L.Look.looks c.args.world.now in
    let task = task_of c.args.who.now in
    let at = c.in_ok-place.ensures.ok in
    let object = location_of c.in_ok-place.place.object in
    let permit = ToRemoveDirectory at.0.parent (name_of at.0.last) object in
    let asked = rmdir_asked looks task c.args.path.now at.0 object _ at.1 (at.2.last ∙ ap last_of c.in-Named.is)
    (ap (λ object. unwrap_or object at.0.parent) at.2.object) in
    let p = err_from_is_err_and c.from_residual-in_err-name_at.result c.from_residual-in_err-name_at.ensures.1 in
    rw (p.1, p.2) (without_memory task (judge_by_looks looks task (Rmdir c.args.path.now)) permit _
    (asked ∙ unless-let_through (rmdir_rules nat_eq looks task at.0 object) (Ok permit)
    (c.in_ok-may_rmdir.ensures at.0 at.2)) c.in_err-name_at.ensures.memory)

pub returns : goal.returns
returns g c =
    let looks = g.L.Look.looks c.args.world.now in
    let task = task_of c.args.who.now in
    let at = c.in_ok-place.ensures.ok in
    let object = location_of c.in_ok-place.place.object in
    let permit = ToRemoveDirectory at.0.parent (name_of at.0.last) object in
    let asked = rmdir_asked looks task c.args.path.now at.0 object _ at.1 (at.2.last ∙ ap last_of c.in-Named.is)
    (ap (λ object. unwrap_or object at.0.parent) at.2.object) in
    let name = ap name_of at.2.last ∙ sym c.in_ok-name_at.ensures.ok in
    asked ∙ unless-let_through (rmdir_rules nat_eq looks task at.0 object) (Ok permit)
    (c.in_ok-may_rmdir.ensures at.0 at.2) ∙ (λ i. Ok (ToRemoveDirectory (at.2.parent i) (name i) object))
