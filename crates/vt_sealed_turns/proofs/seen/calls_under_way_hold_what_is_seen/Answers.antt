use Rattle.vt_sealed_turns.proofs.StillSeen.{play_holds_what_is_seen, schedulers_hold_what_is_seen}
use Rattle.vt_sealed_turns.proofs.seen.calls_under_way_hold_what_is_seen.Goals as goal

pub returns-clause-begins : goal.returns-clause-begins
returns-clause-begins g c = schedulers_hold_what_is_seen g.C.TakesTurns.world

pub returns-clause-play : goal.returns-clause-play
returns-clause-play g c = play_holds_what_is_seen g.C.TakesTurns.world
