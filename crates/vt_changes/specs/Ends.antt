-- How a call ends, change numbers included.
use Rattle.std.specs.Prelude.{Err, Ok, Result, false, nat_eq, true, ℕ, ◌≡◌, ◌⊎◌}
use Rattle.vt_spec.specs.declared.errors.Deny.{Deny}
use Rattle.vt_spec.specs.declared.errors.Rule.TheVariants.{S5}
use Rattle.vt_spec.specs.Errors.{denial}
use Rattle.vt_spec.specs.Language.Calls.{Call, TaskName}
use Rattle.vt_spec.specs.Machine.Outcomes.{Outcome}
use Rattle.vt_spec.specs.Machine.Policy.{only_looks, policy}
use Rattle.vt_laws_rules.specs.Numbers.{Allotment}
use Rattle.vt_laws_trees.specs.Runs.Handed.{may_be_given}
use Rattle.vt_laws_trees.specs.Runs.Runs.{ServesInHand}
use Rattle.vt_laws_turns.specs.Dated.{SameDated}
use Rattle.vt_request.specs.declared.answer.Answer.{Answer}
use Rattle.vt_request.specs.Answers.{answer_of, result_of}
use Rattle.vt_permits.specs.Allocating.{TakesMemory}
use Rattle.vt_answers.specs.Ends.{HasNumbers, MayBeRefusedMemory}
use Rattle.vt_policy.specs.PermitValue.{PermitValue}
use Rattle.vt_calls.specs.Permitted.{IsPermitted}
use Rattle.vt_changes.specs.DatedValue.{DatedValue, dated_world}

-- as the outcome says, with all change numbers, or refused memory; a denial changes nothing
abbrev pub MeetsDated : Call → Outcome ℕ → Result Answer Deny → DatedValue → DatedValue → Type 0
MeetsDated call outcome (Ok answer) old new = (outcome.answer ≡ Ok (answer_of answer))
    × SameDated outcome.world (dated_world new)
MeetsDated call outcome (Err deny) old new =
    ((outcome.answer ≡ Err deny) ⊎ ((deny ≡ denial S5) × MayBeRefusedMemory call outcome.answer)) × (new ≡ old)

-- How a call of a task ends: as the policy says, for some numbers that serve the world and leave endless numbers over,
-- and with numbers for what is made next. A call that only looks may be refused memory where it allocates; any other, as
-- its change numbers need room.
pub record EndsDated (old : DatedValue) (name : TaskName) (call : Call) (result : Result Answer Deny)
    (new : DatedValue) : Type 0 where
  pub allotment : Allotment
  pub serves : ServesInHand may_be_given (dated_world old) allotment
  pub outcome : MeetsDated call (policy nat_eq allotment.new (dated_world old) name call) result old new
  pub memory : only_looks call ≡ true → ¬ TakesMemory call
      → result_of result ≡ (policy nat_eq allotment.new (dated_world old) name call).answer
  pub numbers : HasNumbers (dated_world new)

-- a call of the task of this name that does not only look has this permit
abbrev pub IsPermittedToChange : DatedValue → TaskName → PermitValue → Type 0
IsPermittedToChange value name permit = (call : Call) × (only_looks call ≡ false)
    × IsPermitted value.kernel.world value.kernel.change name call permit
