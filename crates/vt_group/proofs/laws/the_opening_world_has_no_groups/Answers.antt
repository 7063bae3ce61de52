use Rattle.vt_group.proofs.Showing.{opening_has_no_groups}
use Rattle.vt_group.proofs.laws.the_opening_world_has_no_groups.Goals as goal

pub returns : goal.returns
returns c = opening_has_no_groups
