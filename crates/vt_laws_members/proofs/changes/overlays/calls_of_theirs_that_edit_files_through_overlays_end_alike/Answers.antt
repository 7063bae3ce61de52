use Rattle.vt_laws_members.proofs.changes.Common.{overlay_chmods_end_alike, overlay_chowns_end_alike, overlay_part_writes_end_alike, overlay_writes_end_alike}
use Rattle.vt_laws_members.proofs.changes.overlays.OverlayOpens.{overlay_opens_end_alike}
use Rattle.vt_laws_members.proofs.changes.overlays.calls_of_theirs_that_edit_files_through_overlays_end_alike.Goals as goal

pub returns-clause-write : goal.returns-clause-write
returns-clause-write c = overlay_writes_end_alike

pub returns-clause-chmod : goal.returns-clause-chmod
returns-clause-chmod c = overlay_chmods_end_alike

pub returns-clause-chown : goal.returns-clause-chown
returns-clause-chown c = overlay_chowns_end_alike

pub returns-clause-pwrite : goal.returns-clause-pwrite
returns-clause-pwrite c = overlay_part_writes_end_alike

pub returns-clause-open : goal.returns-clause-open
returns-clause-open c = overlay_opens_end_alike
