-- What the definitions see of a task.
use Rattle.std.specs.Prelude.{ℕ}
use Rattle.vt_spec.specs.Machine.World as meant
use Rattle.vt_location.specs.Locations.{location_of}
use Rattle.vt_location.specs.Numbers.{counted}
use Rattle.vt_tasks.specs.declared.task.Task.{Task}

-- its change number aside
abbrev pub task_of : Task → meant.Task ℕ
task_of task = record {
  name = task.name;
  credentials = task.cred;
  umask = task.umask;
  namespace = counted task.namespace.count;
  root = location_of task.root;
  directory = location_of task.directory;
  descriptors = task.descriptors;
  forks = task.forks;
  change = 0;
}
