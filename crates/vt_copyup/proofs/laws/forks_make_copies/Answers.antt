use Rattle.vt_copyup.proofs.ForksCopied.{forks_make}
use Rattle.vt_copyup.proofs.laws.forks_make_copies.Goals as goal

pub returns : goal.returns
returns c = forks_make
