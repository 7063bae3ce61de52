use Rattle.vt_laws_mounts.proofs.counts.Alike
use Rattle.vt_laws_mounts.proofs.counts.using.same_worlds_count_alike.Goals as goal

pub returns : goal.returns
returns c = Alike.same_worlds_count_alike
