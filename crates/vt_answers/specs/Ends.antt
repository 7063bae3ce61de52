-- How a call of the code ends, as the definitions see it.
use Rattle.std.specs.Prelude.{Err, Ok, Result, if◌then◌else◌, ⊤, nat_eq, ℕ, ◌≡◌, ◌⊎◌}
use Rattle.vt_spec.specs.declared.errors.Deny.{Deny}
use Rattle.vt_spec.specs.declared.errors.Rule.TheVariants.{S5}
use Rattle.vt_spec.specs.Errors.{denial}
use Rattle.vt_spec.specs.Language.Answers as spec
use Rattle.vt_spec.specs.Language.Calls.{Call, Directive, TaskName}
use Rattle.vt_spec.specs.Language.Calls.Directive.{AskPeers}
use Rattle.vt_spec.specs.Machine.Filesystems.{raised}
use Rattle.vt_spec.specs.Machine.Outcomes.{Outcome}
use Rattle.vt_spec.specs.Machine.Policy.{only_looks, policy}
use Rattle.vt_spec.specs.Machine.SameWorlds.{SameWorlds}
use Rattle.vt_spec.specs.Machine.Sealed.{directed}
use Rattle.vt_spec.specs.Machine.World.{World}
use Rattle.vt_laws_rules.specs.Numbers.{Allotment}
use Rattle.vt_laws_trees.specs.Runs.Handed.{may_be_given}
use Rattle.vt_laws_trees.specs.Runs.Runs.{ServesInHand}
use Rattle.vt_request.specs.declared.answer.Answer.{Answer}
use Rattle.vt_request.specs.Answers.{answer_of, result_of}
use Rattle.vt_permits.specs.Allocating.{TakesMemory}
use Rattle.vt_permits.specs.Memory.{IsAfterReceivers}

-- S5 stands in place of a grant, or of a rule that is checked after receivers are gathered
abbrev pub MayBeRefusedMemory : Call → Result spec.Answer Deny → Type 0
MayBeRefusedMemory call (Ok answer) = ⊤
MayBeRefusedMemory call (Err refusal) = IsAfterReceivers call refusal

-- A directive answers so: as the definitions say, or it is refused memory for the list that it makes. What tells
-- whether tasks are sealed off takes none.
abbrev pub Directs : World ℕ → Directive → Result Answer Deny → Type 0
Directs world directive result = (result_of result ≡ (directed nat_eq world directive).answer)
    ⊎ ((result ≡ Err (denial S5)) × (directive ≡ AskPeers))

-- some numbers serve the world, and leave endless numbers over
abbrev pub HasNumbers : World ℕ → Type 0
HasNumbers world = (allotment : Allotment) × ServesInHand may_be_given world allotment

-- of code's worlds, each of which the definitions see so
module _ {W : Type 0} (seen : W → World ℕ) where
  -- as the outcome says, or refused memory; a denial changes nothing
  abbrev pub Meets : Call → Outcome ℕ → Result Answer Deny → W → W → Type 0
  Meets call outcome (Ok answer) old new = (outcome.answer ≡ Ok (answer_of answer))
      × SameWorlds outcome.world (seen new)
  Meets call outcome (Err deny) old new =
      ((outcome.answer ≡ Err deny) ⊎ ((deny ≡ denial S5) × MayBeRefusedMemory call outcome.answer)) × (new ≡ old)

  -- how a call of a task ends: as the policy says, for some numbers that serve the world and leave endless numbers over,
  -- and with numbers for what is made next
  pub record Ends (old : W) (name : TaskName) (call : Call) (result : Result Answer Deny) (new : W) : Type 0 where
    pub allotment : Allotment
    pub serves : ServesInHand may_be_given (seen old) allotment
    pub outcome : Meets call (policy nat_eq allotment.new (seen old) name call) result old new
    pub memory : ¬ TakesMemory call → result_of result ≡ (policy nat_eq allotment.new (seen old) name call).answer
    pub numbers : HasNumbers (seen new)

-- the world's change number after a call that succeeds: one more, unless the call only looks; the largest one stays
abbrev pub change_after : Call → ℕ → ℕ
change_after call change = if only_looks call then change else raised change
