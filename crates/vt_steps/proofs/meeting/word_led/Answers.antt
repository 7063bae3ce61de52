use Rattle.std.proofs.Common.{nat_eq}
use Rattle.vt_spec.proofs.Common.{search_rules, stepped}
use Rattle.vt_location.specs.Locations.{location_of}
use Rattle.vt_looks.specs.Places.{last_of}
use Rattle.vt_tasks.specs.TaskValue.{task_of}
use Rattle.vt_steps.proofs.Searched.{searched-led}
use Rattle.vt_steps.proofs.meeting.word_led.Goals as goal

pub returns-clause-reached : goal.returns-clause-reached
returns-clause-reached g c =
    let looks = g.L.Look.looks c.args.world.now in
    let task = task_of c.args.who.now in
    let here = location_of c.args.here in
    rw c.and.ensures (searched-led (search_rules nat_eq looks task here) c.searched.result _
    (stepped nat_eq looks task here (last_of c.args.word)) c.searched.ensures c.in_ok-step.ensures.reached)
