use Rattle.vt_laws_mounts.proofs.counts.using.MountRoots as Roots
use Rattle.vt_laws_mounts.proofs.counts.using.mounts_leave_their_roots.Goals as goal
use Rattle.vt_laws_mounts.proofs.letting_go.sweeps.OfWorlds.{locations_of_worlds_stand}

pub returns-clause-locations : goal.returns-clause-locations
returns-clause-locations c = locations_of_worlds_stand

pub returns-clause-places : goal.returns-clause-places
returns-clause-places c = Roots.places_stand

pub returns-clause-root : goal.returns-clause-root
returns-clause-root c = Roots.mounts_leave_their_roots
