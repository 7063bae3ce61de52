use Rattle.vt_group.proofs.Reserving.{values_ascend}
use Rattle.vt_group.proofs.by_number.ByNumber.new.Goals as goal

pub returns-clause-ordered : goal.returns-clause-ordered
returns-clause-ordered g c = values_ascend c.new.result.entries
