-- The mounts that a task stands on stay the same records, in its namespace or in none.
use Rattle.std.proofs.Common.{◌≡◌, refl, sym, ap, ◌∙◌, ℕ, nat_eq, true, List, [], ◌∷◌, Option, Some, None, eqb-true, arith, option_to_list}
use Rattle.vt_spec.proofs.Common.{IsWorld, Location, Task, TaskName, World, among-filter, among-from_filter, and_parts, common_steps, found_or_none, list_all, mount_at, mounts_of, nat_eq_itself, none_is_some, number-mount_in, task_called}
use Rattle.vt_laws_turns.proofs.Common.{IsOn, found_itself, name_found, own_directory_found, root_found}
use Rattle.vt_laws_turns.specs.Frames.Detached.{OtherTasksStandInTurn, StandsWhereItStood}
use Rattle.vt_laws_turns.specs.Frames.InTurn.{AreBeside, AreOfOthers, CallBetween, IsBeside, after_call, after_calls}
use Rattle.vt_laws_turns.specs.Frames.Unraised.{IsNamespaceUnraised}
use Rattle.vt_laws_turns.proofs.frames.frames.DetachedStay.{detached_mounts_stay}
use Rattle.vt_laws_turns.proofs.frames.frames.PivotsRaise.{other_tasks_of_unraised_namespaces_stay}
use Rattle.vt_laws_turns.proofs.frames.frames.Unraised.{unraised_namespaces_keep_mounts}
use Rattle.vt_laws_turns.proofs.frames.in_turn.NumbersRise.{first_unraised, given_in, namespace_change, namespace_step, next_is}

-- a mount of a namespace that has the mounts that it had
mount_stays : (world later : World ℕ) (namespace : ℕ) → IsWorld nat_eq later
    → mounts_of nat_eq later namespace ≡ mounts_of nat_eq world namespace → (l : Location ℕ)
    → (mount_at nat_eq world l).namespace ≡ Some namespace → mount_at nat_eq later l ≡ mount_at nat_eq world l
mount_stays world later namespace are same l e = grind (
  arith,
  common_steps,
  among-from_filter,
  among-filter,
  nat_eq_itself,
  number-mount_in,
  found_itself,
  none_is_some,
  found_or_none,
)

-- a location on a mount that the task may stand on
module _ {world : World ℕ} (one : CallBetween) (task : Task ℕ) (is : IsWorld nat_eq world)
    (beside : IsBeside task.namespace world one)
    (unraised : IsNamespaceUnraised world (after_call world one) task.namespace) where
  abbrev later : World ℕ
  later = after_call world one

  one_stays : (l : Location ℕ) → IsOn world is task l.mount
      → IsOn later (next_is task.namespace world one is beside) task l.mount
      → mount_at nat_eq later l ≡ mount_at nat_eq world l
  one_stays l before now = by (mount_at nat_eq world l).namespace refl before.1
    where
      by : (o : Option ℕ) → (mount_at nat_eq world l).namespace ≡ o
          → list_all (nat_eq task.namespace) (option_to_list o) ≡ true
          → mount_at nat_eq later l ≡ mount_at nat_eq world l
      by None e h =
          detached_mounts_stay world one.fresh one.name one.call l.mount (given_in task.namespace world one is beside)
          before.0 e now.0
      by (Some n) e h = mount_stays world later task.namespace (next_is task.namespace world one is beside)
          (unraised_namespaces_keep_mounts world one.fresh one.name one.call task.namespace
          (given_in task.namespace world one is beside) unraised)
          l (cc (eqb-true task.namespace n (and_parts (nat_eq task.namespace n) true h).0))

  pub stands_after_one : (other : TaskName) → task_called world other ≡ Some task → task_called later other ≡ Some task
      → StandsWhereItStood world later task
  stands_after_one other before now =
      let was = ap (task_called world) (sym (name_found world other task before)) ∙ before in
      let found = ap (task_called later) (sym (name_found later other task now)) ∙ now in
      let are = next_is task.namespace world one is beside in record {
        root = one_stays task.root (root_found world is task was).0 (root_found later are task found).0;
        directory = one_stays task.directory (own_directory_found world is task was).0
            (own_directory_found later are task found).0;
      }

stands : (calls : List CallBetween) (world : World ℕ) (other : TaskName) (task : Task ℕ) → IsWorld nat_eq world
    → AreBeside task.namespace world calls → AreOfOthers other calls → task_called world other ≡ Some task
    → IsNamespaceUnraised world (after_calls world calls) task.namespace
    → StandsWhereItStood world (after_calls world calls) task
stands [] world other task is beside others called unraised = record { root = refl; directory = refl }
stands (one ∷ rest) world other task is beside others called unraised =
    let parts = first_unraised task.namespace (namespace_change task.namespace) (namespace_step task.namespace)
    world one rest is beside unraised in
    let next : task_called (after_call world one) other ≡ Some task =
    other_tasks_of_unraised_namespaces_stay world one.fresh one.name one.call other task
    (given_in task.namespace world one is beside.0) others.0 called parts.0 in
    let now = stands_after_one one task is beside.0 parts.0 other called next in
    let then = stands rest (after_call world one) other task (next_is task.namespace world one is beside.0) beside.1
    others.1 next parts.1 in
    record { root = then.root ∙ now.root; directory = then.directory ∙ now.directory }

pub other_tasks_stand_in_turn : OtherTasksStandInTurn
other_tasks_stand_in_turn world calls other task is beside others called unraised =
    stands calls world other task is beside others called unraised
