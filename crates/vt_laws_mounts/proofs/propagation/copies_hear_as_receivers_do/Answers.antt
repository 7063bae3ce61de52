use Rattle.vt_laws_mounts.proofs.propagation.PropagationHeard.{copies_hear_as_their_origins, copies_hear_one_another}
use Rattle.vt_laws_mounts.proofs.propagation.copies_hear_as_receivers_do.Goals as goal

pub returns-clause-one_another : goal.returns-clause-one_another
returns-clause-one_another c = copies_hear_one_another

pub returns-clause-origins : goal.returns-clause-origins
returns-clause-origins c = copies_hear_as_their_origins
