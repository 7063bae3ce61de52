use Rattle.vt_laws_mounts.proofs.letting_go.mounting.Pivoted.{pivoted_lets_go, pivots_let_go}
use Rattle.vt_laws_mounts.proofs.letting_go.mounting.what_a_pivot_leaves_goes.Goals as goal

pub returns-clause-pivoted : goal.returns-clause-pivoted
returns-clause-pivoted c = pivoted_lets_go

pub returns-clause-pivot : goal.returns-clause-pivot
returns-clause-pivot c = pivots_let_go
