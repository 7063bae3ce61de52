use Rattle.vt_laws_rules.proofs.judged.CallsJudged.{call_is_judged_then_applied, policy_judges_then_applies}
use Rattle.vt_laws_rules.proofs.judged.calls_are_judged_then_applied.Goals as goal

pub returns-clause-calls : goal.returns-clause-calls
returns-clause-calls c = call_is_judged_then_applied

pub returns-clause-policy : goal.returns-clause-policy
returns-clause-policy c = policy_judges_then_applies
