use Rattle.std.proofs.Common.{◌∙◌}
use Rattle.vt_spec.proofs.Common.{err_from_is_err_and}
use Rattle.vt_walk.specs.PlainWalks.{followed}
use Rattle.vt_tasks.specs.TaskValue.{task_of}
use Rattle.vt_walk.proofs.PendingWalked.{link_passed-as}
use Rattle.vt_walk.specs.WalkValue.{here_of}
use Rattle.vt_walk.proofs.steps.words_walked.Goals as goal

pub returns-in_err-here-clause-value : goal.returns-in_err-here-clause-value
returns-in_err-here-clause-value g c =
    let p = err_from_is_err_and c.from_residual.result c.from_residual.ensures.1 in
    rw (p.1, p.2) (c.in_err-here.ensures.value (followed (g.L.Look.looks c.args.world.now) (task_of c.args.who.now)))

pub returns-in-Some-clause-value : goal.returns-in-Some-clause-value
returns-in-Some-clause-value g c =
    let looks = g.L.Look.looks c.args.world.now in
    let task = task_of c.args.who.now in
    let follow = followed looks task in
    c.symlink_walked.ensures.value ∙ link_passed-as looks task follow (here_of c.in_ok-here.field-0.here) _ _ _
    c.in-Some.is (c.in_ok-here.ensures.value follow)

pub returns-in-None-clause-value : goal.returns-in-None-clause-value
returns-in-None-clause-value g c =
    let looks = g.L.Look.looks c.args.world.now in
    let task = task_of c.args.who.now in
    let follow = followed looks task in
    link_passed-as looks task follow (here_of c.in_ok-here.field-0.here) _ _ _
    c.in-None.is (c.in_ok-here.ensures.value follow)
