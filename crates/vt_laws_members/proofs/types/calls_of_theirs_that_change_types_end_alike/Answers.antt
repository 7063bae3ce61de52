use Rattle.vt_laws_members.proofs.types.Retyping.{other_types_end_alike, types_end_alike}
use Rattle.vt_laws_members.proofs.types.calls_of_theirs_that_change_types_end_alike.Goals as goal

pub returns-clause-types : goal.returns-clause-types
returns-clause-types c = types_end_alike

pub returns-clause-other_types : goal.returns-clause-other_types
returns-clause-other_types c = other_types_end_alike
