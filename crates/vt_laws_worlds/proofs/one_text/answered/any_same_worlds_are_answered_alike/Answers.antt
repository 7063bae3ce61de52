use Rattle.vt_laws_worlds.proofs.one_text.answered.AlikeAnswered.{permits_leave_alike, any_same_worlds_are_answered_alike, any_same_worlds_are_directed_alike, any_same_worlds_are_swept_alike}
use Rattle.vt_laws_worlds.proofs.one_text.answered.any_same_worlds_are_answered_alike.Goals as goal

pub returns-clause-permits : goal.returns-clause-permits
returns-clause-permits c = permits_leave_alike

pub returns-clause-swept : goal.returns-clause-swept
returns-clause-swept c = any_same_worlds_are_swept_alike

pub returns-clause-calls : goal.returns-clause-calls
returns-clause-calls c = any_same_worlds_are_answered_alike

pub returns-clause-directives : goal.returns-clause-directives
returns-clause-directives c = any_same_worlds_are_directed_alike
