use Rattle.std.proofs.Common.{◌≡◌, ◌≤◌, ◌*◌, take, sum_by}
use Rattle.vt_location.specs.Locations.{location_of}
use Rattle.vt_location.specs.Numbers.{counted}
use Rattle.vt_tasks.proofs.PlacesCounted.{held_places}
use Rattle.vt_tasks.proofs.tasks.Tasks.places_at.Given as goal

-- those before the next are counted, two of each at most
abbrev pub invariant-loop-task : goal.invariant-loop-task
invariant-loop-task l = record {
  told : l.count ≡ sum_by (held_places (counted l.namespace.count) (location_of l.at)) (take l.task-index l.task-items);
  few : l.count ≤ 2 * l.task-index;
}
