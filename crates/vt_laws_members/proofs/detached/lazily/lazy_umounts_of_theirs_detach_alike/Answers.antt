use Rattle.vt_laws_members.proofs.detached.lazily.Detaching.{lazy_umounts_detach_alike}
use Rattle.vt_laws_members.proofs.detached.lazily.lazy_umounts_of_theirs_detach_alike.Goals as goal

pub returns : goal.returns
returns c = lazy_umounts_detach_alike
