use Rattle.vt_laws_mounts.proofs.counts.overlays.NamedStay.{named_overlay_stays, named_overlays_stay}
use Rattle.vt_laws_mounts.proofs.counts.overlays.overlays_whose_inodes_have_names_stay.Goals as goal

pub returns-clause-all : goal.returns-clause-all
returns-clause-all c = named_overlays_stay

pub returns-clause-one : goal.returns-clause-one
returns-clause-one c = named_overlay_stays
