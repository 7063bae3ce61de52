use Rattle.vt_later.proofs.PastNothing.{worlds_ask_mounters}
use Rattle.vt_later.proofs.laws.mounters_stay_asked.Goals as goal

pub returns : goal.returns
returns c = worlds_ask_mounters
