mod OneByOne
use Rattle.vt_laws_later_calls.proofs.exits.an_exit_leaves_descriptors_one_by_one.Answers.OneByOne.{exit_leaves_one_by_one}
use Rattle.vt_laws_later_calls.proofs.exits.an_exit_leaves_descriptors_one_by_one.Goals as goal

pub returns : goal.returns
returns c = exit_leaves_one_by_one
