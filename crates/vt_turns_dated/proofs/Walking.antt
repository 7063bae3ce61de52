-- A task walks as in the world with change numbers.
use Rattle.std.proofs.Common.{◌≡◌, refl, sym, ap, ◌∙◌, ℕ, nat_eq, true, false, List, [], ◌∷◌, Option, Some, None, option_map, Result, Ok, Err, is_ok, Bool, cond}
use Rattle.vt_spec.proofs.Common.{Call, Looks, SameWorlds, Task, TaskName, World, looks_of, task_called, ⊤}
use Rattle.vt_spec.specs.declared.errors.Deny.{Deny}
use Rattle.vt_spec.specs.Errors.{Rules, unless}
use Rattle.vt_spec.specs.Lists.{holds_of, then_some}
use Rattle.vt_spec.specs.Machine.Turns.{entry_rules, namespace_change_of, routes}
use Rattle.vt_laws_trees.proofs.calls.tasks.TasksFound.{find_mapped}
use Rattle.vt_laws_trees.proofs.runs.answered.AlikeWorlds.{sameness_is_an_equivalence}
use Rattle.vt_laws_turns.proofs.same_states.TaskNumbers.{same_worlds_walk_alike}
use Rattle.vt_laws_turns.specs.Alike.{WalkAlike}
use Rattle.vt_world.specs.Held.{IsHeld}
use Rattle.vt_world.specs.WorldValue.{world_of}
use Rattle.vt_calls.proofs.Numbered.{numbered}
use Rattle.vt_calls.specs.KernelValue.{kernel_world}
use Rattle.vt_steps.specs.RouteValue.{met_next}
use Rattle.vt_turns.specs.Going.{begins_by, call_begins, met_on, next_met, numbers_in, numbers_of}
use Rattle.vt_turns.specs.declared.progress.Numbers.{Numbers}
use Rattle.vt_changes.specs.DatedValue.{DatedValue, dated_world, dates_of}
use Rattle.vt_changes.proofs.SameDates.{same_dated}

-- a rule fails or not, whatever is granted
ok_alike : {A B : Type 0} (rules : Rules) (a : A) (b : B) → is_ok (unless rules (Ok a)) ≡ is_ok (unless rules (Ok b))
ok_alike [] a b = refl
ok_alike {A} {B} (rule ∷ rules) a b = by rule.0 (ok_alike rules a b)
  where
    by : (c : Bool) → is_ok (unless rules (Ok a)) ≡ is_ok (unless rules (Ok b))
        → is_ok (unless ((c, rule.1) ∷ rules) (Ok a)) ≡ is_ok (unless ((c, rule.1) ∷ rules) (Ok b))
    by true next = refl
    by false next = next

module _ (value : DatedValue) (name : TaskName) where
  abbrev bare : World ℕ
  bare = world_of value.kernel.world

  abbrev seen : World ℕ
  seen = dated_world value

  abbrev with_number : Task ℕ → Task ℕ
  with_number task = record task { change = (dates_of value).tasks task.name }

  called_again : (found : Option (Task ℕ)) → task_called bare name ≡ found
      → task_called seen name ≡ option_map with_number found
  called_again found called = find_mapped with_number (λ t. refl) name bare.tasks ∙ ap (option_map with_number) called

  -- where there is no such task
  module _ (called : task_called bare name ≡ None) where
    pub none_numbers : numbers_in seen name ≡ None
    none_numbers = ap (option_map (numbers_of seen)) (called_again None called)

    pub none_begins : (call : Call) → call_begins seen name call ≡ false
    none_begins call = ap (holds_of (begins_by seen call)) (called_again None called)

    pub none_met : (call : Call) (walked : ℕ) → next_met seen name call walked ≡ None
    none_met call walked = ap (λ (found : Option (Task ℕ)). then_some found
        (λ (task : Task ℕ). met_on (routes nat_eq (looks_of nat_eq seen) task call) walked)) (called_again None called)

  -- where there is
  module _ (task : Task ℕ) (called : task_called bare name ≡ Some task) where
    abbrev again : Task ℕ
    again = with_number task

    pub numbers_told : (change namespace : ℕ)
        → Some change ≡ option_map (λ (t : Task ℕ). t.change) (task_called seen name)
        → namespace ≡ namespace_change_of nat_eq seen task.namespace
        → Some (record { task = change; namespace = namespace }) ≡ numbers_in seen name
    numbers_told change namespace told namespace_told =
        let is : Some change ≡ Some again.change =
        told ∙ ap (option_map (λ (t : Task ℕ). t.change)) (called_again (Some task) called) in
        let change_is : change ≡ again.change = cc in
        (λ i. Some (record { task = change_is i; namespace = namespace_told i }))
        ∙ sym (ap (option_map (numbers_of seen)) (called_again (Some task) called))

    module _ (held : IsHeld value.kernel.world) where
      same : SameWorlds bare seen
      same = sameness_is_an_equivalence.onward bare (kernel_world value.kernel) seen (numbered value.kernel)
          (same_dated (dates_of value) (kernel_world value.kernel))

      alike : WalkAlike (looks_of nat_eq bare) (looks_of nat_eq seen) task again
      alike = same_worlds_walk_alike bare seen same held.in_world task again refl

      pub begins_same : (call : Call) (result : Result ⊤ Deny)
          → ((looks : Looks ℕ) → result ≡ unless (entry_rules nat_eq looks task call) (Ok tt))
          → is_ok result ≡ call_begins seen name call
      begins_same call result told = ap is_ok (told (looks_of nat_eq bare))
          ∙ ok_alike (entry_rules nat_eq (looks_of nat_eq bare) task call) tt call
          ∙ ap (λ (rules : Rules). is_ok (unless rules (Ok call))) (alike.rules call)
          ∙ sym (ap (holds_of (begins_by seen call)) (called_again (Some task) called))

      pub met_same : (call : Call) (walked : ℕ) (met : Option (List ℕ))
          → met ≡ met_next (routes nat_eq (looks_of nat_eq bare) task call) walked
          → met ≡ next_met seen name call walked
      met_same call walked met told = told ∙ ap (λ ways. met_next ways walked) (alike.routes call)
          ∙ sym (ap (λ (found : Option (Task ℕ)). then_some found
          (λ (t : Task ℕ). met_on (routes nat_eq (looks_of nat_eq seen) t call) walked))
          (called_again (Some task) called))
