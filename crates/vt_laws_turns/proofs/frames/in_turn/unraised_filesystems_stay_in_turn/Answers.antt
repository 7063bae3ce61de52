use Rattle.vt_laws_turns.proofs.frames.in_turn.FilesystemsRise.{filesystems_stay_in_turn}
use Rattle.vt_laws_turns.proofs.frames.in_turn.unraised_filesystems_stay_in_turn.Goals as goal

pub returns : goal.returns
returns c = filesystems_stay_in_turn
