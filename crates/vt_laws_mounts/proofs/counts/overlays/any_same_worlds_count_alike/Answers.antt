use Rattle.vt_laws_mounts.proofs.counts.Alike.{any_same_worlds_count_alike}
use Rattle.vt_laws_mounts.proofs.counts.overlays.any_same_worlds_count_alike.Goals as goal

pub returns : goal.returns
returns c = any_same_worlds_count_alike
