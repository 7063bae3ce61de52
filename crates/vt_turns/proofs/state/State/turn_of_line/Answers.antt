use Rattle.std.proofs.Common.{◌∙◌, ap, subst}
use Rattle.vt_spec.specs.Language.Script.{Who}
use Rattle.vt_queues.specs.QueuesValue.{call_in, called, who_meant}
use Rattle.vt_turns.specs.Kept.{HasFirst}
use Rattle.vt_turns.proofs.KeptWords.{asked_first}
use Rattle.vt_turns.proofs.StateTurns.{asks_for_one, nobodys_turns}
use Rattle.vt_turns.proofs.state.State.turn_of_line.Goals as goal

pub returns-in-Nobody-clause-turns : goal.returns-in-Nobody-clause-turns
returns-in-Nobody-clause-turns g c = λ calls first keep some. rw (ap who_meant c.in-Nobody.is) (nobodys_turns
    g.C.TakesTurns.world c.args.self.now some (call_in c.args.line.now) (asks_for_one c.args.line.now) c.denial.result
    c.denial.ensures)

pub returns-in-Nobody-clause-words : goal.returns-in-Nobody-clause-words
returns-in-Nobody-clause-words g c = λ calls first keep. rw (ap who_meant c.in-Nobody.is) keep

pub returns-in-Task-clause-turns : goal.returns-in-Task-clause-turns
returns-in-Task-clause-turns g c = λ calls first keep some. rw (ap who_meant c.in-Task.is)
    (c.turn_of_tasks_line.ensures.turns calls (subst (λ (w : Who). HasFirst calls w (called (call_in c.args.line.now)))
    (ap who_meant c.in-Task.is) first ∙ asked_first (call_in c.args.line.now)) keep some)

pub returns-in-Task-clause-words : goal.returns-in-Task-clause-words
returns-in-Task-clause-words g c = λ calls first keep. rw (ap who_meant c.in-Task.is)
    (c.turn_of_tasks_line.ensures.words calls (subst (λ (w : Who). HasFirst calls w (called (call_in c.args.line.now)))
    (ap who_meant c.in-Task.is) first ∙ asked_first (call_in c.args.line.now)) keep)
