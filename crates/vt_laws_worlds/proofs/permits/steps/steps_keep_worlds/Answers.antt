mod Ungrouped
mod Kept
use Rattle.vt_laws_worlds.proofs.permits.steps.steps_keep_worlds.Answers.Kept.{steps_are_given, steps_keep_worlds, steps_stay_ungrouped}
use Rattle.vt_laws_worlds.proofs.permits.steps.steps_keep_worlds.Goals as goal

pub returns-clause-given : goal.returns-clause-given
returns-clause-given c = steps_are_given

pub returns-clause-worlds : goal.returns-clause-worlds
returns-clause-worlds c = steps_keep_worlds

pub returns-clause-ungrouped : goal.returns-clause-ungrouped
returns-clause-ungrouped c = steps_stay_ungrouped
