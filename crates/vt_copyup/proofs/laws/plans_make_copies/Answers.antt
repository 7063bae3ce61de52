use Rattle.vt_copyup.proofs.Copies.{plans_make}
use Rattle.vt_copyup.proofs.laws.plans_make_copies.Goals as goal

pub returns : goal.returns
returns c = plans_make
