use Rattle.vt_laws_worlds.proofs.permits.left.PermitsLeave.{given_permits_are_under_way, given_permits_leave_worlds, same_is_a_world_too}
use Rattle.vt_laws_worlds.proofs.permits.left.given_permits_leave_worlds.Goals as goal

pub returns-clause-worlds : goal.returns-clause-worlds
returns-clause-worlds c = given_permits_leave_worlds

pub returns-clause-under_way : goal.returns-clause-under_way
returns-clause-under_way c = given_permits_are_under_way

pub returns-clause-same : goal.returns-clause-same
returns-clause-same c = same_is_a_world_too
