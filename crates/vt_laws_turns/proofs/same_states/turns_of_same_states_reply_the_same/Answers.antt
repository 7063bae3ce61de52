use Rattle.vt_laws_turns.proofs.same_states.PlaysAlike.{same_states_play_alike}
use Rattle.vt_laws_turns.proofs.same_states.TurnsAlike.{same_state_is_an_equivalence, same_states_turn_alike}
use Rattle.vt_laws_turns.proofs.same_states.turns_of_same_states_reply_the_same.Goals as goal

pub returns-clause-equivalence : goal.returns-clause-equivalence
returns-clause-equivalence c = same_state_is_an_equivalence

pub returns-clause-turn : goal.returns-clause-turn
returns-clause-turn c = same_states_turn_alike

pub returns-clause-schedule : goal.returns-clause-schedule
returns-clause-schedule c = same_states_play_alike
