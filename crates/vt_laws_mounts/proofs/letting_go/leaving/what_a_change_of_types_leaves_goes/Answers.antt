use Rattle.vt_laws_mounts.proofs.letting_go.leaving.Retyped
use Rattle.vt_laws_mounts.proofs.letting_go.leaving.what_a_change_of_types_leaves_goes.Goals as goal

pub returns : goal.returns
returns c = Retyped.set_types_let_go
