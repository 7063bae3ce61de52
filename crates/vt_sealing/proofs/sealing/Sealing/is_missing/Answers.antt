use Rattle.std.proofs.Common.{◌≡◌, ap, is_some, not, option_map, refl, ◌∙◌, Bool, None, Option, Some, false, true}
use Rattle.std.specs.Option.{option_copied}
use denote.Ref.{Bor}
use Rattle.vt_tasks.specs.declared.task.Task.{Task}
use Rattle.vt_tasks.specs.TaskValue.{task_of}
use Rattle.vt_sealing.proofs.sealing.Sealing.is_missing.Goals as goal

none_lent : (none : Bool) (task : Option (Bor Task)) → is_some task ≡ not none
    → none ≡ not (is_some (option_map task_of (option_copied task)))
none_lent true None is = refl
none_lent false None is = cc
none_lent true (Some task) is = cc
none_lent false (Some task) is = refl

pub returns : goal.returns
returns c = none_lent c.is_none.result c.get.result c.is_none.ensures
    ∙ ap (λ task. not (is_some task)) c.get.ensures.found
