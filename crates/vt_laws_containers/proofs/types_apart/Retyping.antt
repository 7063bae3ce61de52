-- No mount(2) of a task of a sealed set that changes propagation types gives others a foothold.
use Rattle.std.proofs.Common.{◌≡◌, refl, sym, ap, subst, ◌∙◌, ℕ, nat_eq, Bool, List, Option, Some, None, Ok, Err, IfOk, is_ok}
use Rattle.vt_spec.proofs.Common.{Fresh, Judgement, Serves, SetType, Task, TaskName, TypeWord, World, judge_in, task_called}
use Rattle.vt_laws_containers.proofs.Common.{IsCallOfTheirs, IsMember, all_in_use, caller_in, ran, sealing_of}
use Rattle.vt_laws_members.proofs.types.Retyping.{SetsType, all_own, sets_type, types_settled}
use Rattle.vt_laws_containers.specs.Footholds.{GivesNoFoothold}
use Rattle.vt_laws_containers.proofs.footholds.AsBefore.{OthersAsBefore}
use Rattle.vt_laws_containers.proofs.footholds.Granting.{denied_out, refused_out}
use Rattle.vt_laws_containers.proofs.footholds.TasksPermits.{swept_out}
use Rattle.vt_laws_containers.proofs.types_apart.TypeFootholds.{TypesGiveNoFoothold}
use Rattle.vt_laws_containers.proofs.types_apart.TypesAsBefore.{types_as_before}

module _ {world : World ℕ} {names : List TaskName} {name : TaskName} {path : List ℕ} {word : TypeWord}
    {recursive : Bool} (it : IsCallOfTheirs world names name (SetType path word recursive)) (fresh : Fresh ℕ)
    (serves : Serves nat_eq world fresh) where
  abbrev NoneGiven : Type 0
  NoneGiven = GivesNoFoothold world names name (SetType path word recursive) fresh

  judged_by : (task : Task ℕ) (member : IsMember world names task) → task_called world name ≡ Some task
      → (j : Judgement ℕ) → judge_in nat_eq fresh world task (SetType path word recursive) ≡ j
      → IfOk j (SetsType member word recursive) → NoneGiven
  judged_by task member e (Ok permit) judged its =
      let granted = judged ∙ ap Ok its.1 in
      swept_out (record { it = it; few = refl; serves = serves; called = e }) _ granted (λ ends. subst
      (λ w. OthersAsBefore world w names names) (sym (types_settled world (all_in_use world it.is) fresh word _))
      (types_as_before (sealing_of it) serves word _ (all_own it e fresh fresh its.0 its.2 its.3 granted)))
  judged_by task member e (Err deny) judged its = denied_out it fresh task deny e judged

  by_caller : (o : Option (Task ℕ)) → task_called world name ≡ o → NoneGiven
  by_caller None e = refused_out it fresh (ap (λ o. is_ok (ran name (SetType path word recursive) world fresh o).answer)
      e)
  by_caller (Some task) e =
      let member = caller_in it e in
      judged_by task member e _ refl (sets_type member word _ _ path)

pub types_give_no_foothold : TypesGiveNoFoothold
types_give_no_foothold world names name path word recursive it fresh serves = by_caller it fresh serves _ refl
