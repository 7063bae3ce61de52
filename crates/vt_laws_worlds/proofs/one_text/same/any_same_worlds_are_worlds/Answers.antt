use Rattle.vt_laws_worlds.proofs.one_text.same.any_same_worlds_are_worlds.Goals as goal
use Rattle.vt_laws_worlds.proofs.one_text.same.SameNumbers.{any_same_worlds_keep_to_numbers}
use Rattle.vt_laws_worlds.proofs.one_text.same.SameWhole.{any_same_worlds_are_under_way, any_same_worlds_are_worlds}

pub returns-clause-worlds : goal.returns-clause-worlds
returns-clause-worlds c = any_same_worlds_are_worlds

pub returns-clause-under_way : goal.returns-clause-under_way
returns-clause-under_way c = any_same_worlds_are_under_way

pub returns-clause-numbers : goal.returns-clause-numbers
returns-clause-numbers c = any_same_worlds_keep_to_numbers
