-- How far calls count, from what their events say.
use Rattle.std.proofs.Common.{◌≡◌, ◌≤◌, ◌+◌, ◌*◌, ℕ, Err, List, Ok, OnErr, OnOk, Result, Some, ap, arith, length, map, subst}
use Rattle.vt_spec.proofs.Common.{Mount, Permit, Task, TaskName, ToShared, TypeWord, length-map, task_called}
use Rattle.vt_laws_later_calls.proofs.Readers.{own_name}
use Rattle.vt_laws_later_calls.proofs.limits.room.Made.{granted_calls_make_few, namespaces_have_tasks}
use Rattle.vt_laws_later_calls.specs.Limits.Made.{MakesFew}
use Rattle.vt_laws_trees.specs.Runs.Handed.{counts_from}
use Rattle.vt_answers.specs.Counters.{CountsFew}
use Rattle.vt_permits.specs.GrantValue.{permit_of}
use Rattle.vt_permits.specs.declared.grant.Grant.{Grant}
use Rattle.vt_world.specs.WorldValue.{WorldValue, world_of}
use Rattle.vt_ns.specs.Counting.{CountsATask, CountsNothing}
use Rattle.vt_ns.specs.Retyped.{counted_after}
use Rattle.vt_calls.specs.Counting.{CountsForTasks, counters_of}
use Rattle.vt_calls.specs.Permitted.{IsGiven}

module _ (old new : WorldValue) where
  pub counts_nothing : CountsNothing old new → CountsForTasks old new
  counts_nothing it = record { numbers = omega (arith, it.numbers); births = omega (arith, it.births) }

  pub counts_a_task : CountsATask old new → CountsForTasks old new
  counts_a_task it = record { numbers = omega (arith, it.numbers); births = omega (arith, it.births) }

  pub counts_if_same : new ≡ old → CountsForTasks old new
  counts_if_same same = counts_nothing (record {
    numbers = ap (λ (value : WorldValue). value.next) same;
    births = ap (λ (value : WorldValue). value.births) same;
  })

  -- of a change for which an allocation may fail
  pub counts_nothing_if : {T E : Type 0} (change : Result T E) → OnOk change (CountsNothing old new)
      → OnErr change (new ≡ old) → CountsForTasks old new
  counts_nothing_if (Ok done) counts same = counts_nothing counts
  counts_nothing_if (Err refused) counts same = counts_if_same same

  -- of a call, where there are no more tasks than there ever were
  pub counts_few : length old.tasks ≤ old.births → CountsForTasks old new → CountsFew (counters_of old) (counters_of new)
  counts_few born it = record { numbers = omega (arith, it.numbers, born); births = it.births }

-- a change of types counts a number for each mount at the most
pub counted_after-le : (word : TypeWord) (next : ℕ) (mounts : List (Mount ℕ))
    → counted_after word next (map (λ (mount : Mount ℕ). mount.number) mounts) ≤ next + length mounts
counted_after-le ToShared next mounts = omega (arith, length-map mounts (λ (mount : Mount ℕ). mount.number))
counted_after-le word next mounts = omega arith

-- A change of mounts that is granted
module _ (old : WorldValue) (name : TaskName) (grant : Grant) (meant : Permit ℕ)
    (seen : (task : Task ℕ) → task_called (world_of old) name ≡ Some task → permit_of task grant ≡ meant)
    (given : IsGiven old name grant) where
  -- makes few mounts
  pub makes_few : MakesFew (world_of old) given.1.task meant
  makes_few = subst (MakesFew (world_of old) given.1.task) (seen given.1.task given.1.called)
      (granted_calls_make_few (world_of old) (counts_from old.next) given.1.task given.0 (permit_of given.1.task grant)
      given.1.held.in_world (own_name (world_of old) name given.1.task given.1.called) given.1.judged)

  -- and counts four numbers for each at the most
  pub counts_mounts : (new : WorldValue) {T E : Type 0} (change : Result T E) (made : ℕ)
      → made ≤ 4096 * length (world_of old).namespaces → (A : Type 0) → OnOk change A
      → (A → new.next ≤ old.next + 4 * made) → new.births ≡ old.births → OnErr change (new ≡ old)
      → CountsForTasks old new
  counts_mounts new (Ok done) made few A counts bound births same =
      let spaces = namespaces_have_tasks (world_of old) given.1.held.in_world in
      record { numbers = omega (arith, few, bound counts, spaces); births = omega (arith, births) }
  counts_mounts new (Err refused) made few A counts bound births same = counts_if_same old new same
