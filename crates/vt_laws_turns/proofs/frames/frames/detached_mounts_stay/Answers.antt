use Rattle.vt_laws_turns.proofs.frames.frames.DetachedStay.{detached_mounts_stay}
use Rattle.vt_laws_turns.proofs.frames.frames.detached_mounts_stay.Goals as goal

pub returns : goal.returns
returns c = detached_mounts_stay
