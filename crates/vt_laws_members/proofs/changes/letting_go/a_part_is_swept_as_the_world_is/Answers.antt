use Rattle.vt_laws_members.proofs.changes.letting_go.Sweeping.{less_is_seen_alike, sweeps_alike}
use Rattle.vt_laws_members.proofs.changes.letting_go.a_part_is_swept_as_the_world_is.Goals as goal

pub returns-clause-less : goal.returns-clause-less
returns-clause-less c = less_is_seen_alike

pub returns-clause-sweep : goal.returns-clause-sweep
returns-clause-sweep c = sweeps_alike
