-- A permit as contracts see it.
use Rattle.std.specs.Prelude.{Err, Ok, Result, ℕ}
use Rattle.vt_spec.specs.declared.errors.Deny.{Deny}
use Rattle.vt_permits.specs.declared.grant.Grant.{Grant}
use Rattle.vt_request.specs.declared.kind.CallKind.{CallKind}

-- what is granted, the call to which it is, and the change number of the world in which it was judged
pub record PermitValue : Type 0 where
  pub grant : Grant
  pub call : CallKind
  pub change : ℕ

-- what is granted, or the refusal
abbrev pub grant_in : Result PermitValue Deny → Result Grant Deny
grant_in (Ok permit) = Ok permit.grant
grant_in (Err deny) = Err deny
