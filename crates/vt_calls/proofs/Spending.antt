-- What a permit that is spent grants is granted in the world of its number, and what applies it ends the call.
use Rattle.std.proofs.Common.{◌≡◌, sym, subst, ◌∙◌, ℕ, Result}
use Rattle.vt_spec.proofs.Common.{Call, TaskName}
use Rattle.vt_spec.specs.declared.errors.Deny.{Deny}
use Rattle.vt_permits.specs.declared.grant.Grant.{Grant}
use Rattle.vt_request.specs.declared.answer.Answer.{Answer}
use Rattle.vt_world.specs.WorldValue.{WorldValue}
use Rattle.vt_policy.specs.PermitValue.{PermitValue}
use Rattle.vt_calls.specs.Permitted.{EndsGiven, EndsPermitted, IsGiven, IsGivenFor, IsPermitted, MayBeSpent}

module _ (value : WorldValue) (change : ℕ) (name : TaskName) (permit : PermitValue) (spent grant : Grant)
    (granted : spent ≡ permit.grant) (is : spent ≡ grant) where
  granted_for : (call : Call) → IsPermitted value change name call permit → IsGivenFor value name call grant
  granted_for call permitted = subst (IsGivenFor value name call) (sym granted ∙ is) permitted.given

  pub is_granted : MayBeSpent value change name permit → IsGiven value name grant
  is_granted may = (may.0, granted_for may.0 may.1)

  pub ends : (new : WorldValue) (result : Result Answer Deny) → EndsGiven value name grant result new
      → EndsPermitted value change name permit result new
  ends new result applied call permitted = applied call (granted_for call permitted)
