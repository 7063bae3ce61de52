use Rattle.vt_laws_kept.proofs.overlaps.Found.{overlaps_are_found}
use Rattle.vt_laws_kept.proofs.overlaps.Live.{overlaps_with_changed_are_found, overlaps_with_live_are_found}
use Rattle.vt_laws_kept.proofs.overlaps.Nested.{files_lie_by_their_names}
use Rattle.vt_laws_kept.proofs.overlaps.overlaps_are_found_by_directories.Goals as goal

pub returns-clause-files : goal.returns-clause-files
returns-clause-files c = files_lie_by_their_names

pub returns-clause-overlaps : goal.returns-clause-overlaps
returns-clause-overlaps c = overlaps_are_found

pub returns-clause-live : goal.returns-clause-live
returns-clause-live c = overlaps_with_live_are_found

pub returns-clause-changed : goal.returns-clause-changed
returns-clause-changed c = overlaps_with_changed_are_found
