use Rattle.vt_laws_members.proofs.each_call.EachCall.{each_call_ends_alike}
use Rattle.vt_laws_members.proofs.each_call.each_call_of_theirs_ends_alike.Goals as goal

pub returns : goal.returns
returns c = record { each = each_call_ends_alike }
