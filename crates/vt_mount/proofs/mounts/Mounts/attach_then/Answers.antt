use Rattle.std.proofs.Common.{inr, refl}
use Rattle.vt_mount.proofs.mounts.Mounts.attach_then.Goals as goal

pub returns-in-Err-clause-last_err : goal.returns-in-Err-clause-last_err
returns-in-Err-clause-last_err g c =
    inr (record { shown = _; shows = refl; left = _; met = c.in-Err.ensures; leaves = refl })
