use Rattle.vt_sealed_turns.proofs.StillSealed.{others_play_leaves_sets_sealed, others_turns_leave_sets_sealed}
use Rattle.vt_sealed_turns.proofs.outsiders.turns_of_others_leave_sealed_sets.Goals as goal

pub returns-clause-turn : goal.returns-clause-turn
returns-clause-turn g c = others_turns_leave_sets_sealed g.C.TakesTurns.world

pub returns-clause-play : goal.returns-clause-play
returns-clause-play g c = others_play_leaves_sets_sealed g.C.TakesTurns.world
