-- The policy's last step raises change numbers alone.
use Rattle.std.proofs.Common.{arith, ◌≡◌, refl, ◌⊎◌, inl, ℕ, ◌+◌, nat_eq, Bool, true, false, cond, List, [], ◌∷◌, ◌++◌, map}
use Rattle.vt_spec.proofs.Common.{Filesystem, Namespace, Outcome, Task, TaskName, World, common_steps, finished_unless, numbers_raised, raised, raised_if_changed, raised_namespace, raised_task, settled, without_changes}
use Rattle.vt_laws_rules.specs.Judged.{AreRaised, LastStepRaisesNumbersAlone, change_numbers}

abbrev MayRise : ℕ → ℕ → Type 0
MayRise old new = (new ≡ old) ⊎ (new ≡ old + 1)

raised_is : (number : ℕ) → MayRise number (raised number)
raised_is number = grind (arith, common_steps)

none_rise : (numbers : List ℕ) → AreRaised numbers numbers
none_rise [] = tt
none_rise (number ∷ rest) = (inl refl, none_rise rest)

rise_on : (olds news more others : List ℕ) → AreRaised olds news → AreRaised more others
    → AreRaised (olds ++ more) (news ++ others)
rise_on [] [] more others rise h = h
rise_on [] (new ∷ news) more others rise h = absurd rise
rise_on (old ∷ olds) [] more others rise h = absurd rise
rise_on (old ∷ olds) (new ∷ news) more others rise h = (rise.0, rise_on olds news more others rise.1 h)

-- a step that leaves all but the change number, and raises that one or leaves it
module _ {A : Type 0} (change : A → ℕ) (bare step : A → A) (same : (a : A) → bare (step a) ≡ bare a)
    (rises : (a : A) → MayRise (change a) (change (step a))) where
  all_same : (list : List A) → map bare (map step list) ≡ map bare list
  all_same [] = refl
  all_same (a ∷ rest) = λ i. same a i ∷ all_same rest i

  all_rise : (list : List A) → AreRaised (map change list) (map change (map step list))
  all_rise [] = tt
  all_rise (a ∷ rest) = (rises a, all_rise rest)

-- without their change numbers
abbrev pub bare_filesystem : Filesystem ℕ → Filesystem ℕ
bare_filesystem filesystem = record filesystem { change = 0 }

abbrev pub bare_namespace : Namespace ℕ → Namespace ℕ
bare_namespace namespace = record namespace { change = 0 }

abbrev pub bare_task : Task ℕ → Task ℕ
bare_task task = record task { change = 0 }

filesystem_same : (changed : List ℕ) (filesystem : Filesystem ℕ)
    → bare_filesystem (raised_if_changed nat_eq changed filesystem) ≡ bare_filesystem filesystem
filesystem_same changed filesystem = grind (arith, common_steps)

filesystem_rises : (changed : List ℕ) (filesystem : Filesystem ℕ)
    → MayRise filesystem.change (raised_if_changed nat_eq changed filesystem).change
filesystem_rises changed filesystem = grind (arith, common_steps, raised_is)

namespace_same : (before left : World ℕ) (namespace : Namespace ℕ)
    → bare_namespace (raised_namespace nat_eq before left namespace) ≡ bare_namespace namespace
namespace_same before left namespace = grind (arith, common_steps)

namespace_rises : (before left : World ℕ) (namespace : Namespace ℕ)
    → MayRise namespace.change (raised_namespace nat_eq before left namespace).change
namespace_rises before left namespace = grind (arith, common_steps, raised_is)

task_same : (name : TaskName) (task : Task ℕ) → bare_task (raised_task name task) ≡ bare_task task
task_same name task = grind (arith, common_steps)

task_rises : (name : TaskName) (task : Task ℕ) → MayRise task.change (raised_task name task).change
task_rises name task = grind (arith, common_steps, raised_is)

module _ (before : World ℕ) (name : TaskName) (changed : List ℕ) where
  world_same : (left : World ℕ)
      → without_changes (numbers_raised nat_eq before name changed left) ≡ without_changes left
  world_same left = λ i. record (without_changes left) {
    filesystems = all_same (λ filesystem. filesystem.change) bare_filesystem (raised_if_changed nat_eq changed)
        (filesystem_same changed) (filesystem_rises changed) left.filesystems i;
    namespaces = all_same (λ namespace. namespace.change) bare_namespace (raised_namespace nat_eq before left)
        (namespace_same before left) (namespace_rises before left) left.namespaces i;
    tasks = all_same (λ task. task.change) bare_task (raised_task name) (task_same name) (task_rises name) left.tasks i;
  }

  world_rises : (left : World ℕ)
      → AreRaised (change_numbers left) (change_numbers (numbers_raised nat_eq before name changed left))
  world_rises left = (
    raised_is left.change,
    rise_on _ _ _ _ (rise_on _ _ _ _
        (all_rise (λ filesystem. filesystem.change) bare_filesystem (raised_if_changed nat_eq changed)
        (filesystem_same changed) (filesystem_rises changed) left.filesystems)
        (all_rise (λ namespace. namespace.change) bare_namespace (raised_namespace nat_eq before left)
        (namespace_same before left) (namespace_rises before left) left.namespaces))
        (all_rise (λ task. task.change) bare_task (raised_task name) (task_same name) (task_rises name) left.tasks),
  )

  abbrev IsLastStep : Outcome ℕ → World ℕ → Outcome ℕ → Type 0
  IsLastStep under left outcome =
      (outcome.answer ≡ under.answer) × (without_changes outcome.world ≡ without_changes left)
      × AreRaised (change_numbers left) (change_numbers outcome.world)

  finished_last : (keeps : Bool) (under : Outcome ℕ)
      → IsLastStep under (cond keeps under.world (settled nat_eq under.world))
      (finished_unless nat_eq keeps before name changed under)
  finished_last true under = (refl, refl, none_rise (change_numbers under.world))
  finished_last false under = (refl, world_same (settled nat_eq under.world), world_rises (settled nat_eq under.world))

pub last_step_raises_numbers_alone : LastStepRaisesNumbersAlone
last_step_raises_numbers_alone fresh world name task call there = grind (arith, common_steps, finished_last)
