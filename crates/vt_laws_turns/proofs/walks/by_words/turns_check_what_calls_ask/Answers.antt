use Rattle.vt_laws_turns.proofs.walks.by_words.Asked.{turns_check_what_is_asked}
use Rattle.vt_laws_turns.proofs.walks.by_words.turns_check_what_calls_ask.Goals as goal

pub returns : goal.returns
returns c = turns_check_what_is_asked
