use Rattle.std.proofs.Common.{Ok, nat_eq, ◌∙◌}
use Rattle.vt_spec.proofs.Common.{ToRead, err_from_is_err_and, judging, object_walk, read_rules, unless, walk_end}
use Rattle.vt_location.specs.Locations.{location_of}
use Rattle.vt_tasks.specs.TaskValue.{task_of}
use Rattle.vt_policy.proofs.MountLemmas.{reached}
use Rattle.vt_rules.proofs.Refusals.{unless-stopped}
use Rattle.vt_policy.proofs.looking.read.Goals as goal

pub returns-in_err-may_read : goal.returns-in_err-may_read
unfolding judging
returns-in_err-may_read g c =
    let looks = g.L.Look.looks c.args.world.now in
    let task = task_of c.args.who.now in
    let at = location_of c.in_ok-found.found.location in
    let p = err_from_is_err_and c.from_residual-in_err-may_read.result c.from_residual-in_err-may_read.ensures.1 in
    rw (p.1, p.2) (reached (walk_end (object_walk nat_eq looks task c.args.path.now)) at
    (λ at. unless (read_rules looks task at) (Ok (ToRead at))) c.in_ok-found.ensures.ok
    ∙ unless-stopped (read_rules looks task at) (Ok (ToRead at)) _ c.in_err-may_read.ensures)
