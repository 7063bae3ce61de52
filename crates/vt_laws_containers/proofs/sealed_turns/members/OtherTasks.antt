-- Turns of theirs that answer a fork or an exit are of their part, of the set that is left.
use Rattle.std.proofs.Common.{inl, inr, ◌≡◌, refl, sym, ◌∙◌, ℕ, nat_eq, List, Option, Some, Ok, Err}
use Rattle.vt_spec.proofs.Common.{Exit, Fork, ForkWords, Fresh, Judgement, Permit, Task, TaskName, ToFork, World, child_credentials, fork_rules, judge_in, judging, passing, task_called}
use Rattle.vt_laws_containers.proofs.Common.{cases_Option, EndsAlike, IsCallOfTheirs, denials_end_alike, unnamed_ends_alike}
use Rattle.vt_laws_members.proofs.changes.tasks.Forking.{forks_end_alike}
use Rattle.vt_laws_members.proofs.changes.letting_go.Exiting.{exits_end_alike}
use Rattle.vt_laws_containers.specs.SealedTurns.MembersTurns.{TheirExitsAreOfTheGrownPart, TheirForksAreOfTheGrownPart}
use Rattle.vt_laws_containers.proofs.sealed_turns.members.Answering.{their_answers_are_of_the_grown_part}
use Rattle.vt_laws_containers.proofs.footholds.Granting.{denied_is_no_ok}

-- a fork that is granted is a fork of the credentials that its words give
granted_fork : (fresh : Fresh ℕ) (world : World ℕ) (task : Task ℕ) (words : Option ForkWords) (permit : Permit ℕ)
    → judge_in nat_eq fresh world task (Fork words) ≡ Ok permit
    → judge_in nat_eq fresh world task (Fork words) ≡ Ok (ToFork (child_credentials task.credentials words))
unfolding judging
granted_fork fresh world task words permit e =
    let credentials = child_credentials task.credentials words in
    e ∙ sym (passing (fork_rules task credentials) (Ok (ToFork credentials)) permit e).1

-- each fork ends alike, granted or refused
each_fork_ends_alike : (world : World ℕ) (names : List TaskName) (name : TaskName) (words : Option ForkWords)
    → IsCallOfTheirs world names name (Fork words) → (fresh other : Fresh ℕ)
    → EndsAlike world names name (Fork words) fresh other
each_fork_ends_alike world names name words it fresh other = elim (cases_Option (task_called world name)) [
  | inl e ↦ unnamed_ends_alike it fresh other e
  | inr its ↦ judged its.0 its.1 (judge_in nat_eq fresh world its.0 (Fork words)) refl
]
  where
    judged : (task : Task ℕ) → task_called world name ≡ Some task → (judgement : Judgement ℕ)
        → judge_in nat_eq fresh world task (Fork words) ≡ judgement
        → EndsAlike world names name (Fork words) fresh other
    judged task e (Ok permit) j =
        forks_end_alike world names name words it task e fresh other (child_credentials task.credentials words)
        (granted_fork fresh world task words permit j)
    judged task e (Err deny) j = denials_end_alike world names name (Fork words) it fresh other
        (denied_is_no_ok fresh world name (Fork words) task deny e j)

pub their_forks_are_of_the_grown_part : TheirForksAreOfTheGrownPart
their_forks_are_of_the_grown_part sched names name words fresh turns theirs =
    their_answers_are_of_the_grown_part sched names name (Fork words) fresh turns
    (each_fork_ends_alike sched.world names name words theirs fresh fresh)

pub their_exits_are_of_the_grown_part : TheirExitsAreOfTheGrownPart
their_exits_are_of_the_grown_part sched names name fresh turns theirs =
    their_answers_are_of_the_grown_part sched names name Exit fresh turns
    (exits_end_alike sched.world names name theirs fresh fresh)
