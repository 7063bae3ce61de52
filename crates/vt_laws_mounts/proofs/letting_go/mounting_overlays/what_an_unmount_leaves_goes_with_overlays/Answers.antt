use Rattle.vt_laws_mounts.proofs.letting_go.mounting_overlays.MountingWithOverlays.{lazy_unmounts_with_overlays_let_go, mounts_on_directories_with_overlays_let_go, unmounts_with_overlays_let_go}
use Rattle.vt_laws_mounts.proofs.letting_go.mounting_overlays.what_an_unmount_leaves_goes_with_overlays.Goals as goal

pub returns-clause-unmount : goal.returns-clause-unmount
returns-clause-unmount c = unmounts_with_overlays_let_go

pub returns-clause-lazy : goal.returns-clause-lazy
returns-clause-lazy c = lazy_unmounts_with_overlays_let_go

pub returns-clause-directory : goal.returns-clause-directory
returns-clause-directory c = mounts_on_directories_with_overlays_let_go
