use Rattle.vt_laws_turns.proofs.walks.alike.InTurn.{first_words_lead_alike_in_turn}
use Rattle.vt_laws_turns.proofs.walks.alike.WalkersAlike.{first_words_lead_alike}
use Rattle.vt_laws_turns.proofs.walks.alike.half_done_walks_stand_where_they_stood.Goals as goal

pub returns-clause-worlds : goal.returns-clause-worlds
returns-clause-worlds c = first_words_lead_alike

pub returns-clause-in_turn : goal.returns-clause-in_turn
returns-clause-in_turn c = first_words_lead_alike_in_turn
