-- Each call is answered alike in two worlds that are alike, where what is copied up is.
use Rattle.std.proofs.Common.{◌≡◌, refl, sym, subst, ◌∙◌, ℕ, nat_eq, Bool, true, false, not, ◌||◌, List, Option, Some, None, Ok, Err, is_ok, ok_or}
use Rattle.vt_spec.proofs.Common.{Call, Fresh, Judgement, LowerObjectsHaveOneName, Outcome, Permit, Task, TaskName, ToMountOverlay, World, after, apply, denial, filesystems_changed_by, finished, finished_unless, judge_in, looks_of, only_looks, policy, task_called}
use Rattle.vt_laws_rules.proofs.denials.Unchanged.{directive_changes_nothing}
use Rattle.vt_laws_rules.proofs.given.GivenPermits.{permits_are_for_their_calls}
use Rattle.vt_laws_rules.proofs.same.SameJudged.{plain_has_one_name}
use Rattle.vt_laws_rules.proofs.same.SameMany.{same_worlds_judge_alike}
use Rattle.vt_laws_rules.specs.Given.{IsFor}
use Rattle.vt_laws_rules.specs.Plain.{IsPlain}
use Rattle.vt_laws_trees.proofs.runs.answered.AlikeApplied.{OutcomesAlike, apply_alike}
use Rattle.vt_laws_trees.proofs.runs.answered.AlikeChanges.{CopiesAlike, task_alike}
use Rattle.vt_laws_trees.proofs.runs.answered.AlikeDirected.{directed_alike}
use Rattle.vt_laws_trees.proofs.runs.answered.AlikeSettled.{raised_alike, settled_alike}
use Rattle.vt_laws_trees.proofs.runs.answered.AlikeWorlds.{Alike, SameTask, alike_from_same, same_from_alike}
use Rattle.vt_laws_trees.proofs.runs.answered.PlainStays.{finished_plain, is_for_overlay, permit_plain, plain_numbered}
use Rattle.vt_laws_trees.proofs.runs.answered.TaskChanges.{judged_bare}
use Rattle.vt_laws_trees.proofs.runs.Each.{IfAny}
use Rattle.vt_laws_trees.specs.Runs.Answered.{SameWorldsAreAnsweredAlike, SameWorldsAreDirectedAlike}
use Rattle.vt_laws_trees.specs.Trees.Calls.{mounts_overlay}
use Rattle.vt_spec.specs.declared.errors.Rule.TheVariants.{S2}

module _ (fresh : Fresh ℕ) (one other : World ℕ) (same : Alike one other)
    (named : LowerObjectsHaveOneName nat_eq one) (copies : CopiesAlike one other) (call : Call) where
  module _ (task again : Task ℕ) (alike : SameTask task again) where
    judged_alike : judge_in nat_eq fresh one task call ≡ judge_in nat_eq fresh other again call
    judged_alike = sym (judged_bare fresh one task call) ∙ (λ i. judge_in nat_eq fresh one (alike i) call)
        ∙ judged_bare fresh one again call
        ∙ same_worlds_judge_alike one other (same_from_alike one other same) named fresh again call

    permitted_alike : (judgement : Judgement ℕ) → OutcomesAlike (after one judgement (apply nat_eq fresh one task))
        (after other judgement (apply nat_eq fresh other again))
    permitted_alike (Ok permit) = apply_alike fresh same copies task again alike permit
    permitted_alike (Err deny) = record { answer = refl; worlds = same }

    -- the outcome before the last step
    outcome_alike : OutcomesAlike (after one (judge_in nat_eq fresh one task call) (apply nat_eq fresh one task))
        (after other (judge_in nat_eq fresh other again call) (apply nat_eq fresh other again))
    outcome_alike = subst (λ judgement. OutcomesAlike
        (after one (judge_in nat_eq fresh one task call) (apply nat_eq fresh one task))
        (after other judgement (apply nat_eq fresh other again)))
        judged_alike (permitted_alike (judge_in nat_eq fresh one task call))

  module _ (name : TaskName) where
    last_alike : (keeps : Bool) (changed others : List ℕ) (under again : Outcome ℕ) → OutcomesAlike under again
        → OutcomesAlike (finished_unless nat_eq keeps one name changed under)
        (finished_unless nat_eq keeps other name others again)
    last_alike true changed others under again alike = alike
    last_alike false changed others under again alike = record {
      answer = alike.answer;
      worlds = raised_alike one other name changed others _ _ (settled_alike under.world again.world alike.worlds);
    }

    finished_alike : (changed others : List ℕ) (under again : Outcome ℕ) → OutcomesAlike under again
        → OutcomesAlike (finished nat_eq one name call changed under) (finished nat_eq other name call others again)
    finished_alike changed others under again alike =
        subst (λ answer. OutcomesAlike (finished nat_eq one name call changed under)
        (finished_unless nat_eq (only_looks call || not (is_ok answer)) other name others again))
        alike.answer (last_alike (only_looks call || not (is_ok under.answer)) changed others under again alike)

    abbrev by_task : World ℕ → Task ℕ → Outcome ℕ
    by_task world task =
        finished nat_eq world name call (filesystems_changed_by nat_eq world (judge_in nat_eq fresh world task call))
        (after world (judge_in nat_eq fresh world task call) (apply nat_eq fresh world task))

    called_alike : (task again : Option (Task ℕ)) → IfAny SameTask task again
        → OutcomesAlike (after one (ok_or task (denial S2)) (by_task one))
        (after other (ok_or again (denial S2)) (by_task other))
    called_alike None None alike = record { answer = refl; worlds = same }
    called_alike None (Some again) alike = absurd alike
    called_alike (Some task) None alike = absurd alike
    called_alike (Some task) (Some again) alike = finished_alike _ _ _ _ (outcome_alike task again alike)

    pub policy_alike : OutcomesAlike (policy nat_eq fresh one name call) (policy nat_eq fresh other name call)
    policy_alike = called_alike (task_called one name) (task_called other name) (task_alike one other same name)

-- Plain worlds: nothing is copied up in them, and only the mount of an overlay leaves one that is not plain.
pub plain_copies : (one other : World ℕ) → IsPlain one → CopiesAlike one other
plain_copies one other plain number overlay again upper next is top below over =
    absurd (cc (plain_numbered one plain number))

module _ (fresh : Fresh ℕ) (world : World ℕ) (plain : IsPlain world) (name : TaskName) (call : Call)
    (other : mounts_overlay call ≡ false) where
  no_overlay : (task : Task ℕ) (permit : Permit ℕ) → IsFor (looks_of nat_eq world) task call permit
      → is_for_overlay permit ≡ false
  no_overlay task (ToMountOverlay place overlay flags) for = cc (for.2)
  no_overlay task permit for = refl

  judged_plain : (task : Task ℕ) (judgement : Judgement ℕ) → judge_in nat_eq fresh world task call ≡ judgement
      → IsPlain (after world judgement (apply nat_eq fresh world task)).world
  judged_plain task (Ok permit) judged = permit_plain fresh world task permit plain
      (no_overlay task permit (permits_are_for_their_calls fresh world task call permit judged))
  judged_plain task (Err deny) judged = plain

  pub policy_plain : IsPlain (policy nat_eq fresh world name call).world
  policy_plain = by (task_called world name)
    where
      by : (task : Option (Task ℕ)) → IsPlain (after world (ok_or task (denial S2)) (λ task. finished nat_eq world name
          call (filesystems_changed_by nat_eq world (judge_in nat_eq fresh world task call))
          (after world (judge_in nat_eq fresh world task call) (apply nat_eq fresh world task)))).world
      by None = plain
      by (Some task) = finished_plain _ world name _ _ (judged_plain task (judge_in nat_eq fresh world task call) refl)

pub same_worlds_are_answered_alike : SameWorldsAreAnsweredAlike
same_worlds_are_answered_alike one other same plain fresh name call no_mount =
    let alike = policy_alike fresh one other (alike_from_same one other same) (plain_has_one_name one plain)
    (plain_copies one other plain) call name in
    record {
      answer = alike.answer;
      worlds = same_from_alike _ _ alike.worlds;
      plain = policy_plain fresh one plain name call no_mount;
    }

pub same_worlds_are_directed_alike : SameWorldsAreDirectedAlike
same_worlds_are_directed_alike one other same plain directive =
    let alike = directed_alike one other (alike_from_same one other same) directive in
    record {
      answer = alike.answer;
      worlds = same_from_alike _ _ alike.worlds;
      plain = subst IsPlain (sym (directive_changes_nothing one directive)) plain;
    }
