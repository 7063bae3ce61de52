use Rattle.vt_laws_rules.proofs.given.Inversion.{call_is_granted, grant_is_judged}
use Rattle.vt_laws_rules.proofs.given.calls_are_granted_in_these_ways.Goals as goal

pub returns-clause-granted : goal.returns-clause-granted
returns-clause-granted c eq looks overfills task call permit e = call_is_granted eq looks overfills task call permit e

pub returns-clause-judged : goal.returns-clause-judged
returns-clause-judged c eq looks overfills task call permit given = grant_is_judged eq looks overfills task call permit given
