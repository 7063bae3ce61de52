use Rattle.vt_laws_members.proofs.changes.Common.{unlinks_end_alike}
use Rattle.vt_laws_members.proofs.changes.names.calls_of_theirs_that_take_names_end_alike.Goals as goal

pub returns : goal.returns
returns c = record { unlink = unlinks_end_alike }
