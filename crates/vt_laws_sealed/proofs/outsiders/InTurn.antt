-- Calls of others, one after the other, leave a sealed set sealed and its part as it was.
use Rattle.std.proofs.Common.{◌≡◌, refl, sym, ap, subst, ◌∙◌, ⊎_elim, ℕ, nat_eq, Bool, true, false, cond, List, [], ◌∷◌, Some, find, is_some}
use Rattle.vt_spec.proofs.Common.{Among, IsWorld, Task, TaskName, World, among-filter, among-from_filter, among_from_list_all, any_from_among, found_among, found_passes, is_among, is_member_task, list_all_from_among, members, part_of, policy, same_name, sealed, some_from_is_some, task_called}
use Rattle.vt_laws_sealed.proofs.Common.{every_call_keeps_worlds, name_found}
use Rattle.vt_laws_sealed.specs.Outsiders.{AreOutsiders, IsOutsidersCall, OneCall, OutsidersLeaveItSealedInTurn, after_calls, are_all_called}
use Rattle.vt_laws_sealed.proofs.outsiders.EveryPermit.{outsiders_leave_a_sealed_set}

-- a task of this name is found where one is
pub found_called : (member : TaskName) (tasks : List (Task ℕ)) (task : Task ℕ) → Among task tasks
    → same_name member task.name ≡ true → is_some (find (λ (t : Task ℕ). same_name member t.name) tasks) ≡ true
found_called member [] task m e = absurd m
found_called member (first ∷ rest) task m e =
    by (same_name member first.name) refl (λ later. found_called member rest task later e)
  where
    by : (b : Bool) → same_name member first.name ≡ b
        → (Among task rest → is_some (find (λ (t : Task ℕ). same_name member t.name) rest) ≡ true)
        → is_some (cond b (Some first) (find (λ (t : Task ℕ). same_name member t.name) rest)) ≡ true
    by true f next = refl
    by false f next = ⊎_elim
        (λ here. absurd cc) next m

-- names of the set stay names of tasks where the set stays
pub still_called : (world later : World ℕ) (names : List TaskName) → members later names ≡ members world names
    → are_all_called world names ≡ true → are_all_called later names ≡ true
still_called world later names same there =
    list_all_from_among (λ member. is_some (task_called later member)) names (λ member m.
    let found = some_from_is_some (task_called world member)
    (among_from_list_all (λ n. is_some (task_called world n)) names there member m) in
    let test : Task ℕ → Bool = λ (t : Task ℕ). same_name member t.name in
    let passes = found_passes test world.tasks found.0 found.1 in
    let its_name = name_found world member found.0 found.1 in
    let is_one : is_among same_name found.0.name names ≡ true = any_from_among (same_name found.0.name) names member m
    (cc (its_name, passes)) in
    let member_there = among-filter (is_member_task names) world.tasks found.0
    (found_among test world.tasks found.0 found.1) is_one in
    found_called member later.tasks found.0 (among-from_filter (is_member_task names) later.tasks found.0
    (subst (Among found.0) (sym same) member_there)).0 passes)

in_turn : (calls : List OneCall) (world : World ℕ) (names : List TaskName) → IsWorld nat_eq world
    → sealed nat_eq world names ≡ true → are_all_called world names ≡ true → AreOutsiders world names calls
    → (sealed nat_eq (after_calls world calls) names ≡ true)
    × (part_of nat_eq (after_calls world calls) names ≡ part_of nat_eq world names)
in_turn [] world names is sealed_off there of = (sealed_off, refl)
in_turn (one ∷ rest) world names is sealed_off there of =
    let outsider : IsOutsidersCall world one.fresh names one.name one.call = record {
      is = is;
      sealed_off = sealed_off;
      there = there;
      outside = of.0.outside;
      apart = of.0.apart;
      serves = of.0.serves;
      few_groups = of.0.few_groups;
    } in
    let later = (policy nat_eq one.fresh world one.name one.call).world in
    let leaves = outsiders_leave_a_sealed_set world one.fresh names one.name one.call outsider in
    let after = in_turn rest later names
    (every_call_keeps_worlds world one.fresh one.name one.call is of.0.serves of.0.few_groups) leaves.sealed_off
    (still_called world later names (ap (λ (part : World ℕ). part.tasks) leaves.part) there) of.1 in
    (after.0, after.1 ∙ leaves.part)

pub outsiders_leave_it_sealed_in_turn : OutsidersLeaveItSealedInTurn
outsiders_leave_it_sealed_in_turn world names calls is sealed_off there of =
    in_turn calls world names is sealed_off there of
