-- How a call ends in a world with change numbers, as the definitions see it.
use Rattle.std.specs.Prelude.{Err, Ok, Result, nat_eq, true, ℕ, ◌≡◌, ◌⊎◌}
use Rattle.vt_spec.specs.declared.errors.Deny.{Deny}
use Rattle.vt_spec.specs.declared.errors.Rule.TheVariants.{S5}
use Rattle.vt_spec.specs.Errors.{denial}
use Rattle.vt_spec.specs.Language.Calls.{Call, TaskName}
use Rattle.vt_spec.specs.Machine.Invariants.{IsWorld}
use Rattle.vt_spec.specs.Machine.Outcomes.{Outcome}
use Rattle.vt_spec.specs.Machine.Policy.{only_looks, policy}
use Rattle.vt_spec.specs.Machine.World.{World}
use Rattle.vt_laws_rules.specs.Numbers.{Allotment}
use Rattle.vt_laws_trees.specs.Runs.Handed.{may_be_given}
use Rattle.vt_laws_trees.specs.Runs.Runs.{ServesInHand}
use Rattle.vt_laws_turns.specs.Dated.{SameDated}
use Rattle.vt_request.specs.declared.answer.Answer.{Answer}
use Rattle.vt_request.specs.Answers.{answer_of, result_of}
use Rattle.vt_permits.specs.Allocating.{TakesMemory}
use Rattle.vt_answers.specs.Ends.{HasNumbers, MayBeRefusedMemory}

-- a world with all invariants, and with numbers for what is made next
abbrev pub IsReady : World ℕ → Type 0
IsReady world = HasNumbers world × IsWorld nat_eq world

-- of code's worlds, each of which the definitions see so
module _ {W : Type 0} (seen : W → World ℕ) where
  -- as the outcome says, with all change numbers, or refused memory; a denial changes nothing
  abbrev pub MeetsDated : Call → Outcome ℕ → Result Answer Deny → W → W → Type 0
  MeetsDated call outcome (Ok answer) old new = (outcome.answer ≡ Ok (answer_of answer))
      × SameDated outcome.world (seen new)
  MeetsDated call outcome (Err deny) old new =
      ((outcome.answer ≡ Err deny) ⊎ ((deny ≡ denial S5) × MayBeRefusedMemory call outcome.answer)) × (new ≡ old)

  -- How a call of a task ends: as the policy says, for some numbers that serve the world and leave endless numbers over,
  -- and a world that is ready for the next call. A call that only looks may be refused memory where it allocates; any
  -- other, as its change numbers need room.
  pub record EndsDated (old : W) (name : TaskName) (call : Call) (result : Result Answer Deny) (new : W) : Type 0 where
    pub allotment : Allotment
    pub serves : ServesInHand may_be_given (seen old) allotment
    pub outcome : MeetsDated call (policy nat_eq allotment.new (seen old) name call) result old new
    pub memory : only_looks call ≡ true → ¬ TakesMemory call
        → result_of result ≡ (policy nat_eq allotment.new (seen old) name call).answer
    pub ready : IsReady (seen new)
