use Rattle.vt_mounting.proofs.attach.FormedGroups.{formed_groups_begin, groups_of_copies_are_named}
use Rattle.vt_mounting.proofs.attach.laws.copies_begin_the_groups_that_are_made.Goals as goal

pub returns-clause-begin : goal.returns-clause-begin
returns-clause-begin c = formed_groups_begin

pub returns-clause-named : goal.returns-clause-named
returns-clause-named c = groups_of_copies_are_named
