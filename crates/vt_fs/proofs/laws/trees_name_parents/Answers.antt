use Rattle.vt_fs.proofs.Parents.{parents_named}
use Rattle.vt_fs.proofs.laws.trees_name_parents.Goals as goal

pub returns : goal.returns
returns c = parents_named
