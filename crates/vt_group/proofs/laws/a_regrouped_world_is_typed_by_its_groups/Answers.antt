use Rattle.vt_group.proofs.Typed.{regrouped_is_typed}
use Rattle.vt_group.proofs.laws.a_regrouped_world_is_typed_by_its_groups.Goals as goal

pub returns : goal.returns
returns c = regrouped_is_typed
