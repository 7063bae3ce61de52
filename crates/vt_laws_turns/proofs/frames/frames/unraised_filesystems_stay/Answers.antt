use Rattle.vt_laws_turns.proofs.frames.frames.FilesystemsUnraised.{unraised_filesystems_stay}
use Rattle.vt_laws_turns.proofs.frames.frames.unraised_filesystems_stay.Goals as goal

pub returns : goal.returns
returns c = unraised_filesystems_stay
