use Rattle.vt_laws_worlds.proofs.permits.sees.SeesFit.{given_changes_are_proper, given_changes_fit}
use Rattle.vt_laws_worlds.proofs.permits.sees.SeesTasks.{given_permits_are_seen_to}
use Rattle.vt_laws_worlds.proofs.permits.sees.given_permits_are_seen_to.Goals as goal

pub returns-clause-permits : goal.returns-clause-permits
returns-clause-permits c = given_permits_are_seen_to

pub returns-clause-proper : goal.returns-clause-proper
returns-clause-proper c = given_changes_are_proper

pub returns-clause-alone : goal.returns-clause-alone
returns-clause-alone c = given_changes_fit
