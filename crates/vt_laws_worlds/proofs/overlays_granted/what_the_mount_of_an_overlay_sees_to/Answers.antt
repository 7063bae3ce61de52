use Rattle.vt_laws_worlds.proofs.overlays_granted.Mounts.{given_overlays_may_be_mounted}
use Rattle.vt_laws_worlds.proofs.overlays_granted.what_the_mount_of_an_overlay_sees_to.Goals as goal

pub returns : goal.returns
returns c = given_overlays_may_be_mounted
