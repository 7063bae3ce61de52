use Rattle.std.proofs.Common.{ap, arith, ◌∙◌, sum_by, take_all}
use Rattle.vt_location.specs.Locations.{location_of}
use Rattle.vt_location.specs.Numbers.{counted}
use Rattle.vt_tasks.specs.Counts.{all_places_at}
use Rattle.vt_tasks.specs.TaskValue.{task_of}
use Rattle.vt_tasks.proofs.PlacesCounted.{counted_in_order, held_places, next_told, two_at_most}
use Rattle.vt_tasks.proofs.tasks.Tasks.places_at.Goals as goal

pub loop-task-preserved : goal.loop-task-preserved
loop-task-preserved c =
    let namespace = counted c.args.namespace.count in
    let place = location_of c.args.at in
    let before = c.loop-task.invariant in
    let two = two_at_most namespace place (task_of c.task-item.result) in record {
      told = next_told namespace place _ c.loop-task.task-index c.task-item.result c.loop-task.count
          c.places_at-count.result (omega (arith, c.loop-task-test.true)) c.task-item.is before.told
          c.places_at-count.ensures;
      few = omega (arith, before.few, two, c.places_at-count.ensures);
    }

pub returns-clause-count : goal.returns-clause-count
returns-clause-count c =
    let namespace = counted c.args.namespace.count in
    let place = location_of c.args.at in
    let test = held_places namespace place in
    c.loop-task.invariant.told ∙ ap (sum_by test) (take_all c.loop-task.task-index _ c.loop-task-test.false
    ∙ c.as_slice-task-items.ensures ∙ c.values.ensures.rest)
    ∙ counted_in_order namespace place c.self.inside.by_name.entries c.self.invariant.apart
    ∙ ap (λ value. all_places_at namespace place value.tasks) c.self.view_is
