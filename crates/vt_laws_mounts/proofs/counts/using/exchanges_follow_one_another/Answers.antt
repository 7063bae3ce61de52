use Rattle.vt_laws_mounts.proofs.counts.using.Exchanged.{exchanges_turn}
use Rattle.vt_laws_mounts.proofs.counts.using.Places.{exchanges_follow}
use Rattle.vt_laws_mounts.proofs.counts.using.exchanges_follow_one_another.Goals as goal

pub returns-clause-turned : goal.returns-clause-turned
returns-clause-turned c = exchanges_turn

pub returns-clause-both : goal.returns-clause-both
returns-clause-both c = exchanges_follow
