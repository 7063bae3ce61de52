use Rattle.vt_laws_mounts.proofs.letting_go.mounting_overlays.MountingWithOverlays.{moves_with_overlays_let_go, pivots_with_overlays_let_go}
use Rattle.vt_laws_mounts.proofs.letting_go.mounting_overlays.what_a_move_leaves_goes_with_overlays.Goals as goal

pub returns-clause-moves : goal.returns-clause-moves
returns-clause-moves c = moves_with_overlays_let_go

pub returns-clause-pivot : goal.returns-clause-pivot
returns-clause-pivot c = pivots_with_overlays_let_go
