use Rattle.vt_laws_mounts.proofs.letting_go.mounting.AttachedSwept.{moved_trees_let_go, moves_let_go}
use Rattle.vt_laws_mounts.proofs.letting_go.mounting.what_a_move_leaves_goes.Goals as goal

pub returns-clause-trees : goal.returns-clause-trees
returns-clause-trees c = moved_trees_let_go

pub returns-clause-moves : goal.returns-clause-moves
returns-clause-moves c = moves_let_go
