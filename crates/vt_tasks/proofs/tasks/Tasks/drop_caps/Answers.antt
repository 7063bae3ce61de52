use Rattle.std.proofs.Common.{ℕ, arith, ap, sym, refl, subst, ◌∙◌}
use Rattle.vt_spec.proofs.Common.{Task, option_copied_mut, with_dropped}
use Rattle.vt_cred.specs.Caps.{capability_bits}
use Rattle.vt_cred.specs.declared.capabilities.Caps.{Caps}
use Rattle.vt_tasks.specs.TaskValue.{task_of}
use Rattle.vt_tasks.specs.TasksValue.{AreKept, changed_called, in_order, tasks_of}
use Rattle.vt_tasks.proofs.KeptTasks.{changed-absent, written-change, written-fit}
use Rattle.vt_tasks.proofs.TasksLemmas.{told}
use Rattle.vt_tasks.proofs.tasks.Tasks.drop_caps.Goals as goal
use Rattle.vt_tasks.proofs.tasks.Tasks.drop_caps.Goals.{in-Some, in_default}

-- what a task is once it has dropped capabilities
abbrev dropping : Caps → Task ℕ → Task ℕ
dropping dropped task = record task { credentials = with_dropped task.credentials (capability_bits dropped) }

pub invariant_of-self : goal.invariant_of-self
invariant_of-self c = elim c.match-get_mut.branch [
  | in-Some w ↦ subst (λ inside. AreKept inside.births inside.by_name.entries) (sym w.self-inside-is)
      (written-fit c.numbers.result.now c.self.inside.by_name _ c.self.invariant w.in-Some.task.now _
      (sym c.get_mut.ensures.value ∙ ap option_copied_mut w.in-Some.is) refl refl c.get_mut.ensures.unique
      (c.get_mut.follows.holds _) (omega arith) (λ e. e))
  | in_default w ↦
      subst (λ inside. AreKept inside.births inside.by_name.entries) (sym w.self-inside-is)
      (subst (λ map. AreKept c.self.inside.births map.entries) (sym c.get_mut.follows.holds-at-none)
      c.self.invariant)
]

pub returns : goal.returns
returns c = elim c.match-get_mut.branch [
  | in-Some w ↦
      told (ap (λ inside. tasks_of (in_order inside.by_name.entries)) w.self-inside-is
      ∙ written-change c.numbers.result.now c.self.inside.by_name _ c.self.invariant
      (dropping c.args.dropped) w.in-Some.task.now _
      (sym c.get_mut.ensures.value ∙ ap option_copied_mut w.in-Some.is) refl refl c.get_mut.ensures.unique
      (c.get_mut.follows.holds _)
      (λ i. record (task_of w.in-Some.task.now) { credentials = w.drop_caps.ensures.value i })
      ∙ (λ i. changed_called (c.numbers.ensures.value i) (dropping c.args.dropped) (c.self.view_is i).tasks))
      (ap (λ inside. inside.births) w.self-inside-is ∙ ap (λ value. value.births) c.self.view_is)
  | in_default w ↦
      told (ap (λ inside. tasks_of (in_order inside.by_name.entries)) w.self-inside-is
      ∙ ap (λ map. tasks_of (in_order map.entries)) c.get_mut.follows.holds-at-none
      ∙ sym (changed-absent c.numbers.result.now c.self.inside.by_name c.self.inside.by_name c.self.invariant
      (dropping c.args.dropped) (sym c.get_mut.ensures.value ∙ ap option_copied_mut w.in_default.is))
      ∙ (λ i. changed_called (c.numbers.ensures.value i) (dropping c.args.dropped) (c.self.view_is i).tasks))
      (ap (λ inside. inside.births) w.self-inside-is ∙ ap (λ value. value.births) c.self.view_is)
]
