use Rattle.vt_laws_later_calls.proofs.limits.full_namespace.FullReceiver.{full_receiver_is_refused}
use Rattle.vt_laws_later_calls.proofs.limits.full_namespace.a_full_receiver_refuses_a_mount.Goals as goal

pub returns : goal.returns
returns c = full_receiver_is_refused
