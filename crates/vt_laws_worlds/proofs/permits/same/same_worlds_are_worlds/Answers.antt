use Rattle.vt_laws_worlds.proofs.permits.same.SamePlain.{same_worlds_are_under_way, same_worlds_are_worlds, same_worlds_keep_to_numbers}
use Rattle.vt_laws_worlds.proofs.permits.same.same_worlds_are_worlds.Goals as goal

pub returns-clause-worlds : goal.returns-clause-worlds
returns-clause-worlds c = same_worlds_are_worlds

pub returns-clause-under_way : goal.returns-clause-under_way
returns-clause-under_way c = same_worlds_are_under_way

pub returns-clause-numbers : goal.returns-clause-numbers
returns-clause-numbers c = same_worlds_keep_to_numbers
