use Rattle.vt_laws_worlds.proofs.overlays_let_go.mounting.NewOverlays.{new_mounts_of_overlays_keep_all, new_overlays_are_named}
use Rattle.vt_laws_worlds.proofs.overlays_let_go.mounting.what_is_mounted_as_an_overlay_keeps_all.Goals as goal

pub returns-clause-named : goal.returns-clause-named
returns-clause-named c = new_overlays_are_named

pub returns-clause-new_mount : goal.returns-clause-new_mount
returns-clause-new_mount c = new_mounts_of_overlays_keep_all
