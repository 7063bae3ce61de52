use Rattle.vt_laws_worlds.proofs.seen.copied.InTurn.{copies_in_turn, paths_have_their_copies}
use Rattle.vt_laws_worlds.proofs.seen.copied.Stepping.{shows_the_same, step_by_step}
use Rattle.vt_laws_worlds.proofs.seen.copied.copies_go_step_by_step.Goals as goal

pub returns-clause-same : goal.returns-clause-same
returns-clause-same c = shows_the_same

pub returns-clause-step : goal.returns-clause-step
returns-clause-step c = step_by_step

pub returns-clause-all : goal.returns-clause-all
returns-clause-all c = copies_in_turn

pub returns-clause-planned : goal.returns-clause-planned
returns-clause-planned c = paths_have_their_copies
