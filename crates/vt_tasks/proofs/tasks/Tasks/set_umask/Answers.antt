use Rattle.std.proofs.Common.{arith, ap, sym, refl, subst, ◌∙◌}
use Rattle.vt_spec.proofs.Common.{option_copied_mut}
use Rattle.vt_tasks.specs.TasksValue.{AreKept, changed_called, in_order, tasks_of}
use Rattle.vt_tasks.proofs.KeptTasks.{changed-absent, written-change, written-fit}
use Rattle.vt_tasks.proofs.TasksLemmas.{told}
use Rattle.vt_tasks.proofs.tasks.Tasks.set_umask.Goals as goal
use Rattle.vt_tasks.proofs.tasks.Tasks.set_umask.Goals.{in-Some, in_default}

pub invariant_of-self : goal.invariant_of-self
invariant_of-self c = elim c.match-get_mut.branch [
  | in-Some w ↦ subst (λ inside. AreKept inside.births inside.by_name.entries) (sym w.self-inside-is)
      (written-fit c.numbers.result.now c.self.inside.by_name _ c.self.invariant w.in-Some.task.now _
      (sym c.get_mut.ensures.value ∙ ap option_copied_mut w.in-Some.is) refl refl c.get_mut.ensures.unique
      (c.get_mut.follows.holds _) (omega arith) (λ e. e))
  | in_default w ↦
      subst (λ inside. AreKept inside.births inside.by_name.entries) (sym w.self-inside-is)
      (subst (λ map. AreKept c.self.inside.births map.entries) (sym c.get_mut.follows.holds-at-none)
      c.self.invariant)
]

pub returns : goal.returns
returns c = elim c.match-get_mut.branch [
  | in-Some w ↦
      told (ap (λ inside. tasks_of (in_order inside.by_name.entries)) w.self-inside-is
      ∙ written-change c.numbers.result.now c.self.inside.by_name _ c.self.invariant
      (λ task. record task { umask = c.args.umask }) w.in-Some.task.now _
      (sym c.get_mut.ensures.value ∙ ap option_copied_mut w.in-Some.is) refl refl c.get_mut.ensures.unique
      (c.get_mut.follows.holds _) refl
      ∙ (λ i. changed_called (c.numbers.ensures.value i) (λ task. record task { umask = c.args.umask })
      (c.self.view_is i).tasks))
      (ap (λ inside. inside.births) w.self-inside-is ∙ ap (λ value. value.births) c.self.view_is)
  | in_default w ↦
      told (ap (λ inside. tasks_of (in_order inside.by_name.entries)) w.self-inside-is
      ∙ ap (λ map. tasks_of (in_order map.entries)) c.get_mut.follows.holds-at-none
      ∙ sym (changed-absent c.numbers.result.now c.self.inside.by_name c.self.inside.by_name c.self.invariant
      (λ task. record task { umask = c.args.umask })
      (sym c.get_mut.ensures.value ∙ ap option_copied_mut w.in_default.is))
      ∙ (λ i. changed_called (c.numbers.ensures.value i) (λ task. record task { umask = c.args.umask })
      (c.self.view_is i).tasks))
      (ap (λ inside. inside.births) w.self-inside-is ∙ ap (λ value. value.births) c.self.view_is)
]
