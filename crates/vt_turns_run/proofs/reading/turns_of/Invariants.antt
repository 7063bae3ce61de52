use Rattle.std.proofs.Common.{◌++◌, ◌≡◌, Option, length, map, option_map}
use Rattle.vt_spec.specs.Language.Script.{lines_of}
use Rattle.vt_spec.specs.Machine.Turns.{schedule_who}
use Rattle.vt_queues.specs.QueuesValue.{who_meant}
use Rattle.vt_queues.specs.declared.item.Who.{Who}
use Rattle.vt_turns_run.proofs.reading.turns_of.Given as goal

abbrev pub invariant-loop-line : goal.invariant-loop-line
invariant-loop-line l = map (λ (turn : Option Who). option_map who_meant turn) l.turns.items
    ++ map schedule_who (lines_of l.rest) ≡ map schedule_who (lines_of l.schedule)

abbrev pub decreases-loop-line : goal.decreases-loop-line
decreases-loop-line l = length l.rest
