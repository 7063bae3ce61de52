use Rattle.vt_laws_mounts.proofs.counts.using.Places.{locations_use_mounts, mounts_use_filesystems}
use Rattle.vt_laws_mounts.proofs.counts.going.mounts_and_filesystems_count_their_uses.Goals as goal

pub returns-clause-locations : goal.returns-clause-locations
returns-clause-locations c = locations_use_mounts

pub returns-clause-mounts : goal.returns-clause-mounts
returns-clause-mounts c = mounts_use_filesystems
