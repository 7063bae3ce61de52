use Rattle.vt_laws_containers.proofs.sealed_turns.members.Answering.{their_answers_are_of_the_grown_part, their_answers_are_of_their_part, their_refusals_are_of_their_part}
use Rattle.vt_laws_containers.proofs.sealed_turns.members.OtherTasks.{their_exits_are_of_the_grown_part, their_forks_are_of_the_grown_part}
use Rattle.vt_laws_containers.proofs.sealed_turns.members.Overtaking.{outsiders_overtake_no_call_of_theirs, their_calls_are_overtaken_alike}
use Rattle.vt_laws_containers.proofs.sealed_turns.members.TurnsAlike.{their_turns_answer_alike, their_words_are_of_their_part}
use Rattle.vt_laws_containers.proofs.sealed_turns.members.turns_of_theirs_are_of_their_part.Goals as goal

pub returns-clause-overtaken : goal.returns-clause-overtaken
returns-clause-overtaken c = their_calls_are_overtaken_alike

pub returns-clause-answers : goal.returns-clause-answers
returns-clause-answers c = their_turns_answer_alike

pub returns-clause-words : goal.returns-clause-words
returns-clause-words c = their_words_are_of_their_part

pub returns-clause-others : goal.returns-clause-others
returns-clause-others c = outsiders_overtake_no_call_of_theirs

pub returns-clause-answered : goal.returns-clause-answered
returns-clause-answered c = their_answers_are_of_their_part

pub returns-clause-refused : goal.returns-clause-refused
returns-clause-refused c = their_refusals_are_of_their_part

pub returns-clause-grown : goal.returns-clause-grown
returns-clause-grown c = their_answers_are_of_the_grown_part

pub returns-clause-fork : goal.returns-clause-fork
returns-clause-fork c = their_forks_are_of_the_grown_part

pub returns-clause-exit : goal.returns-clause-exit
returns-clause-exit c = their_exits_are_of_the_grown_part
