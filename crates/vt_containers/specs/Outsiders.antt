-- What a call of a task outside a sealed set leaves of the set (profile).
use Rattle.std.specs.Prelude.{List, Result, false, nat_eq, true, ℕ, ◌≡◌}
use Rattle.vt_spec.specs.declared.errors.Deny.{Deny}
use Rattle.vt_spec.specs.Language.Calls.{Call, TaskName, same_name}
use Rattle.vt_spec.specs.Language.Calls.Call.{Setns}
use Rattle.vt_spec.specs.Lists.{is_among}
use Rattle.vt_spec.specs.Machine.Invariants.{IsWorld}
use Rattle.vt_spec.specs.Machine.Sealed.{sealed}
use Rattle.vt_spec.specs.Machine.World.{World}
use Rattle.vt_laws_trees.specs.Trees.Limits.{names_few_groups}
use Rattle.vt_laws_sealed.specs.Outsiders.{are_all_called}
use Rattle.vt_laws_containers.specs.SameSets.Outsiders.{LeavesTheSameSealed}
use Rattle.vt_request.specs.declared.answer.Answer.{Answer}
use Rattle.vt_answers.specs.Ends.{Ends}

-- a call of a task outside a sealed set, each name of which is that of a task, that enters no namespace of theirs
pub record IsCallOfAnother (world : World ℕ) (names : List TaskName) (name : TaskName) (call : Call) : Type 0 where
  pub is : IsWorld nat_eq world
  pub sealed_off : sealed nat_eq world names ≡ true
  pub there : are_all_called world names ≡ true
  pub outside : is_among same_name name names ≡ false
  pub apart : (member : TaskName) → call ≡ Setns member → is_among same_name member names ≡ false
  pub few_groups : names_few_groups call ≡ true

-- However it ends, it leaves the set sealed off, with the same part, and others without a new foothold.
abbrev pub OutsidersLeaveSealedSets : {W : Type 0} → (W → World ℕ) → Type 0
OutsidersLeaveSealedSets {W} seen =
    (old new : W) (names : List TaskName) (name : TaskName) (call : Call) (result : Result Answer Deny)
    → IsCallOfAnother (seen old) names name call → Ends seen old name call result new
    → LeavesTheSameSealed (seen old) (seen new) names
