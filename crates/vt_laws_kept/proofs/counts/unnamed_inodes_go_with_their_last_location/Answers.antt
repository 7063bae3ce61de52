use Rattle.vt_laws_kept.proofs.counts.Swept.{unnamed_go_with_their_last_location}
use Rattle.vt_laws_kept.proofs.counts.unnamed_inodes_go_with_their_last_location.Goals as goal

pub returns : goal.returns
returns c = unnamed_go_with_their_last_location
