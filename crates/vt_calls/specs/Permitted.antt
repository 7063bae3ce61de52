-- What a call is granted, and the permit for it, before it is applied.
use Rattle.std.specs.Prelude.{Ok, Result, Some, nat_eq, true, ℕ, ◌≡◌}
use Rattle.vt_spec.specs.declared.errors.Deny.{Deny}
use Rattle.vt_spec.specs.Language.Calls.{Call, TaskName}
use Rattle.vt_spec.specs.Machine.Judge.{judge_in}
use Rattle.vt_spec.specs.Machine.World.{Task, task_called}
use Rattle.vt_laws_trees.specs.Runs.Handed.{counts_from}
use Rattle.vt_laws_trees.specs.Trees.Limits.{names_few_groups}
use Rattle.vt_request.specs.Kinds.{kind_of}
use Rattle.vt_request.specs.declared.answer.Answer.{Answer}
use Rattle.vt_permits.specs.declared.grant.Grant.{Grant}
use Rattle.vt_permits.specs.GrantValue.{permit_of}
use Rattle.vt_world.specs.Held.{IsHeld}
use Rattle.vt_world.specs.WorldValue.{WorldValue, world_of}
use Rattle.vt_policy.specs.PermitValue.{PermitValue}
use Rattle.vt_calls.specs.Meets.{Ends}

-- a call of the task of this name is granted this
pub record IsGivenFor (value : WorldValue) (name : TaskName) (call : Call) (grant : Grant) : Type 0 where
  pub held : IsHeld value
  pub task : Task ℕ
  pub called : task_called (world_of value) name ≡ Some task
  pub few_groups : names_few_groups call ≡ true
  pub judged : judge_in nat_eq (counts_from value.next) (world_of value) task call ≡ Ok (permit_of task grant)

-- some call is granted it
abbrev pub IsGiven : WorldValue → TaskName → Grant → Type 0
IsGiven value name grant = (call : Call) × IsGivenFor value name call grant

-- a call that is granted it ends so
abbrev pub EndsGiven : WorldValue → TaskName → Grant → Result Answer Deny → WorldValue → Type 0
EndsGiven old name grant result new = (call : Call) → IsGivenFor old name call grant → Ends old name call result new

-- A call of the task of this name has this permit, in a world of this change number: no rule refuses that call there.
pub record IsPermitted (value : WorldValue) (change : ℕ) (name : TaskName) (call : Call) (permit : PermitValue)
    : Type 0 where
  pub given : IsGivenFor value name call permit.grant
  pub named : kind_of call ≡ permit.call
  pub number : permit.change ≡ change

-- some call has it, so that it may be spent
abbrev pub MayBeSpent : WorldValue → ℕ → TaskName → PermitValue → Type 0
MayBeSpent value change name permit = (call : Call) × IsPermitted value change name call permit

-- a call that has it ends so
abbrev pub EndsPermitted : WorldValue → ℕ → TaskName → PermitValue → Result Answer Deny → WorldValue → Type 0
EndsPermitted old change name permit result new =
    (call : Call) → IsPermitted old change name call permit → Ends old name call result new
