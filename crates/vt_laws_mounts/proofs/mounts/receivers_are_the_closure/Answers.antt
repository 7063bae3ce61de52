use Rattle.vt_laws_mounts.proofs.mounts.Receivers.{receivers_are_closed, receivers_are_least, receivers_receive, receives_is_computed}
use Rattle.vt_laws_mounts.proofs.mounts.receivers_are_the_closure.Goals as goal

pub returns-clause-computed : goal.returns-clause-computed
returns-clause-computed c = receives_is_computed

pub returns-clause-receivers : goal.returns-clause-receivers
returns-clause-receivers c = receivers_receive

pub returns-clause-closed : goal.returns-clause-closed
returns-clause-closed c = receivers_are_closed

pub returns-clause-least : goal.returns-clause-least
returns-clause-least c = receivers_are_least
