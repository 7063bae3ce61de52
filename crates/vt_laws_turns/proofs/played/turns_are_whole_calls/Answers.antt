use Rattle.vt_laws_turns.proofs.played.Fronts.{commits_are_fronts}
use Rattle.vt_laws_turns.proofs.played.Texts.{texts_are_of_commits}
use Rattle.vt_laws_turns.proofs.played.Turning.{failed_allocations_answer_s5, replies_are_of_commits, unanswered_turns_change_nothing}
use Rattle.vt_laws_turns.proofs.played.turns_are_whole_calls.Goals as goal

pub returns-clause-replies : goal.returns-clause-replies
returns-clause-replies c = replies_are_of_commits

pub returns-clause-fronts : goal.returns-clause-fronts
returns-clause-fronts c = commits_are_fronts

pub returns-clause-unanswered : goal.returns-clause-unanswered
returns-clause-unanswered c = unanswered_turns_change_nothing

pub returns-clause-allocation : goal.returns-clause-allocation
returns-clause-allocation c = failed_allocations_answer_s5

pub returns-clause-texts : goal.returns-clause-texts
returns-clause-texts c = texts_are_of_commits
