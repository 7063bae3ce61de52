use Rattle.std.proofs.Common.{◌≡◌, nat_eq}
use Rattle.vt_spec.proofs.Common.{keys_of, pivoted_task}
use Rattle.vt_location.specs.MountValue.{mount_of}
use Rattle.vt_location.specs.Numbers.{counted}
use Rattle.vt_tasks.specs.TasksValue.{births_of, tasks_of}
use Rattle.vt_tasks.proofs.PivotLemmas.{changed_first}
use Rattle.vt_tasks.proofs.tasks.Tasks.pivot.Given as goal

abbrev pub invariant-loop-index : goal.invariant-loop-index
invariant-loop-index l = (l.self-inside.births ≡ l.initial.self-inside.births)
    × (keys_of l.self-inside.by_name.entries ≡ keys_of l.initial.self-inside.by_name.entries)
    × (births_of l.self-inside.by_name.entries ≡ births_of l.initial.self-inside.by_name.entries)
    × (tasks_of l.self-inside.by_name.entries
    ≡ changed_first (pivoted_task nat_eq (counted l.namespace.count) (mount_of l.root) (mount_of l.new)) l.index
    (tasks_of l.initial.self-inside.by_name.entries))
