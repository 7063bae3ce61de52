use Rattle.std.proofs.Common.{arith, inl, inr, refl, ℕ, ◌<◌, ◌⊎◌}
use Rattle.std.specs.Prelude.{⊤}
use Rattle.vt_spec.proofs.Common.{Fresh, One, everything, numbers_for}
use Rattle.vt_request.specs.declared.task.TheConstants.{INLINE_NUMBERS}
use Rattle.vt_script.specs.Examples.{made, making}
use Rattle.vt_script.specs.Refused.{LineMayFail, world_left}
use Rattle.vt_script.proofs.examples.mkdir_of_a_name_that_exists.Goals as goal

-- its words keep nothing, and its refusal is by a rule that is not checked after receivers are gathered
keeps_nothing : (⊥ ⊎ (INLINE_NUMBERS < 0)) ⊎ (⊤ × ⊥) → ⊥
keeps_nothing (inl (inl kept)) = kept
keeps_nothing (inl (inr long)) = absurd (omega arith)
keeps_nothing (inr refused) = refused.1

cannot_fail : (fresh : Fresh ℕ) → LineMayFail One made fresh making → ⊥
unfolding everything world_left
cannot_fail fresh may = keeps_nothing may.1

pub returns-clause-refused : goal.returns-clause-refused
returns-clause-refused c = λ may. cannot_fail (numbers_for 2) may.0

pub returns-clause-handed : goal.returns-clause-handed
returns-clause-handed c = λ handed. cannot_fail handed.0.new handed.2

pub returns-clause-granted : goal.returns-clause-granted
unfolding everything world_left
returns-clause-granted c =
    (((omega arith, refl), inr (tt, tt)), (((omega arith, refl), inr (tt, tt)), tt))
