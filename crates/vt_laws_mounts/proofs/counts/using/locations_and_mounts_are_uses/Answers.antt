use Rattle.vt_laws_mounts.proofs.counts.using.Places.{locations_are_uses, mount_is_placed, mounts_are_uses, others_use_nothing}
use Rattle.vt_laws_mounts.proofs.counts.using.locations_and_mounts_are_uses.Goals as goal

pub returns-clause-locations : goal.returns-clause-locations
returns-clause-locations c = locations_are_uses

pub returns-clause-mounts : goal.returns-clause-mounts
returns-clause-mounts c = mounts_are_uses

pub returns-clause-place : goal.returns-clause-place
returns-clause-place c = mount_is_placed

pub returns-clause-others : goal.returns-clause-others
returns-clause-others c = others_use_nothing
