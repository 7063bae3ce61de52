-- No unshare(2) by a task of a sealed set gives others a foothold.
use Rattle.std.proofs.Common.{inl, inr, ◌≡◌, refl, sym, ap, ℕ, nat_eq, true, false, List, Some, Ok, Err, filter, not, eqb-true, IfOk, is_ok}
use Rattle.vt_spec.proofs.Common.{cases_Bool, Fresh, Judgement, Serves, Task, TaskName, ToUnshare, Unshare, World, among-filter, among-from_filter, any_among, judge_in, looks_of, namespaces_ended, none_among, not-true, same_name, task_called, unshared}
use Rattle.vt_laws_containers.proofs.Common.{cases_Option, IsCallOfTheirs, Unshares, ran, unshares}
use Rattle.vt_laws_containers.specs.Footholds.{GivesNoFoothold}
use Rattle.vt_laws_containers.proofs.footholds.AsBefore.{OthersAsBefore}
use Rattle.vt_laws_containers.proofs.footholds.Granting.{denied_out, refused_out}
use Rattle.vt_laws_containers.proofs.footholds.TasksPermits.{permit_out}
use Rattle.vt_laws_containers.proofs.unshared_apart.UnshareFootholds.{UnsharesGiveNoFoothold}
use Rattle.vt_laws_containers.proofs.unshared_apart.UnsharedAsBefore.{unshared_as_before}

-- by whether another task is in the namespace of the caller
either_as_before : (world : World ℕ) (names : List TaskName) (name : TaskName)
    (it : IsCallOfTheirs world names name Unshare) (task : Task ℕ) → task_called world name ≡ Some task
    → (fresh : Fresh ℕ) → Serves nat_eq world fresh
    → OthersAsBefore world (namespaces_ended nat_eq (unshared nat_eq world fresh task)) names names
either_as_before world names name it task called fresh serves = elim (cases_Bool _) [
  | inl e ↦ let at = any_among (λ (t : Task ℕ). nat_eq task.namespace t.namespace) rest e in
      let from = among-from_filter (λ (t : Task ℕ). not (same_name task.name t.name)) _ at.0 at.1 in
      unshared_as_before it task called fresh serves false (
        at.0,
        from.0,
        sym (eqb-true _ _ at.2),
        not-true _ from.1,
      )
  | inr e ↦ unshared_as_before it task called fresh serves true
      (λ t m differ. none_among (λ (x : Task ℕ). nat_eq task.namespace x.namespace) rest e t
      (among-filter (λ (x : Task ℕ). not (same_name task.name x.name)) _ t m (ap not differ)))
]
  where
    rest : List (Task ℕ)
    rest = filter (λ (t : Task ℕ). not (same_name task.name t.name)) world.tasks

pub unshares_give_no_foothold : UnsharesGiveNoFoothold
unshares_give_no_foothold world names name it fresh serves = elim (cases_Option (task_called world name)) [
  | inl e ↦ refused_out it fresh (ap (λ o. is_ok (ran name Unshare world fresh o).answer) e)
  | inr its ↦ judged_by its.0 its.1 (judge_in nat_eq fresh world its.0 Unshare) refl
      (unshares _ (looks_of nat_eq world) its.0)
]
  where
    judged_by : (task : Task ℕ) → task_called world name ≡ Some task
        → (j : Judgement ℕ) → judge_in nat_eq fresh world task Unshare ≡ j → IfOk j Unshares
        → GivesNoFoothold world names name Unshare fresh
    judged_by task e (Ok permit) judged known =
        permit_out (record { it = it; few = refl; serves = serves; called = e }) ToUnshare (cc)
        (λ ends. either_as_before world names name it task e fresh serves)
    judged_by task e (Err deny) judged known = denied_out it fresh task deny e judged
