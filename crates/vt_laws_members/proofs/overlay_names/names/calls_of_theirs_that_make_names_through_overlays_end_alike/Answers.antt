use Rattle.vt_laws_members.proofs.overlay_names.names.OverlayEnding.{overlay_links_end_alike, overlay_mkdirs_end_alike, overlay_new_files_end_alike, overlay_symlinks_end_alike}
use Rattle.vt_laws_members.proofs.overlay_names.names.OverlayNewOpens.{overlay_new_opens_end_alike}
use Rattle.vt_laws_members.proofs.overlay_names.names.calls_of_theirs_that_make_names_through_overlays_end_alike.Goals as goal

pub returns-clause-mkdir : goal.returns-clause-mkdir
returns-clause-mkdir c = overlay_mkdirs_end_alike

pub returns-clause-symlink : goal.returns-clause-symlink
returns-clause-symlink c = overlay_symlinks_end_alike

pub returns-clause-write : goal.returns-clause-write
returns-clause-write c = overlay_new_files_end_alike

pub returns-clause-open : goal.returns-clause-open
returns-clause-open c = overlay_new_opens_end_alike

pub returns-clause-link : goal.returns-clause-link
returns-clause-link c = overlay_links_end_alike
