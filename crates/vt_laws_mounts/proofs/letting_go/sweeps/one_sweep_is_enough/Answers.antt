use Rattle.vt_laws_mounts.proofs.letting_go.sweeps.InUse.{nothing_goes, one_sweep_is_enough, what_is_left_is_in_use}
use Rattle.vt_laws_mounts.proofs.letting_go.sweeps.one_sweep_is_enough.Goals as goal

pub returns-clause-nothing : goal.returns-clause-nothing
returns-clause-nothing c = nothing_goes

pub returns-clause-left : goal.returns-clause-left
returns-clause-left c = what_is_left_is_in_use

pub returns-clause-twice : goal.returns-clause-twice
returns-clause-twice c = one_sweep_is_enough
