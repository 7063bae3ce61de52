use Rattle.vt_laws_members.proofs.overlay_names.names.OverlayEnding.{overlay_unlinks_end_alike}
use Rattle.vt_laws_members.proofs.overlay_names.names.OverlayRemovals.{overlay_renames_end_alike, overlay_rmdirs_end_alike}
use Rattle.vt_laws_members.proofs.overlay_names.names.calls_of_theirs_that_take_names_through_overlays_end_alike.Goals as goal

pub returns-clause-unlink : goal.returns-clause-unlink
returns-clause-unlink c = overlay_unlinks_end_alike

pub returns-clause-rmdir : goal.returns-clause-rmdir
returns-clause-rmdir c = overlay_rmdirs_end_alike

pub returns-clause-rename : goal.returns-clause-rename
returns-clause-rename c = overlay_renames_end_alike
