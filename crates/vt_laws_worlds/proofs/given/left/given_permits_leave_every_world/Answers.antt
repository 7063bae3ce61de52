use Rattle.vt_laws_worlds.proofs.given.left.Permits.{given_permits_are_under_way_anywhere, given_permits_leave_every_world}
use Rattle.vt_laws_worlds.proofs.given.left.given_permits_leave_every_world.Goals as goal

pub returns-clause-worlds : goal.returns-clause-worlds
returns-clause-worlds c = given_permits_leave_every_world

pub returns-clause-under_way : goal.returns-clause-under_way
returns-clause-under_way c = given_permits_are_under_way_anywhere
