use Rattle.vt_laws_worlds.proofs.overlays_stay.left.Given.{given_permits_are_under_way_without_upper, given_permits_give_no_upper, given_permits_keep_names, same_gives_no_upper}
use Rattle.vt_laws_worlds.proofs.overlays_stay.left.given_permits_give_no_upper_layer.Goals as goal

pub returns-clause-worlds : goal.returns-clause-worlds
returns-clause-worlds c = given_permits_give_no_upper

pub returns-clause-under_way : goal.returns-clause-under_way
returns-clause-under_way c = given_permits_are_under_way_without_upper

pub returns-clause-named : goal.returns-clause-named
returns-clause-named c = given_permits_keep_names

pub returns-clause-same : goal.returns-clause-same
returns-clause-same c = same_gives_no_upper
