-- Each call is judged, and what it is permitted is applied: the policy says so.
use Rattle.std.proofs.Common.{refl}
use Rattle.vt_laws_rules.specs.Judged.{CallIsJudgedThenApplied, PolicyJudgesThenApplies}

pub call_is_judged_then_applied : CallIsJudgedThenApplied
call_is_judged_then_applied fresh world task call = refl

pub policy_judges_then_applies : PolicyJudgesThenApplies
policy_judges_then_applies fresh world name call = refl
