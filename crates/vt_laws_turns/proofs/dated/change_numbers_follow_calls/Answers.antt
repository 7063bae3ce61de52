use Rattle.vt_laws_turns.proofs.dated.Followed.{dates_follow_calls}
use Rattle.vt_laws_turns.proofs.dated.change_numbers_follow_calls.Goals as goal

pub returns : goal.returns
returns c = dates_follow_calls
