use Rattle.vt_laws_members.proofs.new_overlays.Mounting.{overlay_mounts_end_alike}
use Rattle.vt_laws_members.proofs.new_overlays.calls_of_theirs_that_mount_overlays_end_alike.Goals as goal

pub returns : goal.returns
returns c = record { mount_overlay = overlay_mounts_end_alike }
