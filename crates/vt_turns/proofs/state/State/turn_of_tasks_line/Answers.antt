use Rattle.std.proofs.Common.{refl}
use Rattle.vt_turns.specs.Kept.{calls_without}
use Rattle.vt_turns.proofs.StateTurns.{ending_keeps, going_keeps, line_goes_on, line_is_refused, line_is_run}
use Rattle.vt_turns.proofs.state.State.turn_of_tasks_line.Goals as goal

pub returns-in-Ok-true-clause-turns : goal.returns-in-Ok-true-clause-turns
returns-in-Ok-true-clause-turns g c = λ calls first keep some. line_goes_on g.C.TakesTurns.world c.args.self.now some
    c.args.name.now c.args.line.now calls first c.walk.new.self c.walk.ensures.world c.in-Ok-true.field-0
    (λ call asked theirs. c.in-Ok-true.ensures.walks calls call asked theirs keep) c.in-Ok-true.field-0-test

pub returns-in-Ok-true-clause-words : goal.returns-in-Ok-true-clause-words
returns-in-Ok-true-clause-words g c = λ calls first keep. going_keeps g.C.TakesTurns.world c.args.self.now c.args.name.now
    c.args.line.now calls first keep c.walk.new.self c.walk.ensures.world
    (λ call asked theirs. c.in-Ok-true.ensures.walks calls call asked theirs keep)

pub returns-in-Ok-false-clause-turns : goal.returns-in-Ok-false-clause-turns
returns-in-Ok-false-clause-turns g c = λ calls first keep some. line_is_run g.C.TakesTurns.world c.args.self.now some
    c.args.name.now c.args.line.now calls first c.walk.new.self c.walk.ensures.world c.in-Ok-false.field-0
    (λ call asked theirs. c.in-Ok-false.ensures.walks calls call asked theirs keep) c.in-Ok-false.field-0-test
    (c.in-Ok-false.ensures.left c.in-Ok-false.field-0-test) c.run.result c.run.new.self c.run.ensures.ends
    c.run.ensures.under_way

pub returns-in-Ok-false-clause-words : goal.returns-in-Ok-false-clause-words
returns-in-Ok-false-clause-words g c = λ calls first keep. c.run.ensures.words (calls_without c.args.name.now calls)
    (ending_keeps g.C.TakesTurns.world c.args.self.now c.args.name.now c.args.line.now calls first keep c.walk.new.self
    c.walk.ensures.world (c.in-Ok-false.ensures.left c.in-Ok-false.field-0-test))

pub returns-in-Err-clause-turns : goal.returns-in-Err-clause-turns
returns-in-Err-clause-turns g c = λ calls first keep some. line_is_refused g.C.TakesTurns.world c.args.self.now some
    c.args.name.now c.args.line.now c.walk.new.self c.walk.ensures.world (c.in-Err.ensures.left refl) c.from.result
    c.from.ensures

pub returns-in-Err-clause-words : goal.returns-in-Err-clause-words
returns-in-Err-clause-words g c = λ calls first keep. ending_keeps g.C.TakesTurns.world c.args.self.now c.args.name.now
    c.args.line.now calls first keep c.walk.new.self c.walk.ensures.world (c.in-Err.ensures.left refl)
