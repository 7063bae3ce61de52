use Rattle.vt_tasks.proofs.KeptTasks.{kept-first}
use Rattle.vt_tasks.proofs.tasks.Tasks.new.Goals as goal

pub invariant_of-result : goal.invariant_of-result
invariant_of-result c =
    kept-first _ c.new-by_name.result.entries c.new.result c.first.result _ _ c.new-by_name.ensures.empty
    c.in_ok-insert.ensures.entries c.new.ensures.items c.first.ensures.task c.first.ensures.birth
