-- Tables of rules that refuse, and that let through.
use Rattle.std.proofs.Common.{◌≡◌, Result, Ok, Err, sym}
use Rattle.vt_spec.proofs.Common.{Rules, unless, unless-refused}
use Rattle.vt_spec.specs.declared.errors.Deny.{Deny}

pub unless-stopped : {B : Type 0} (rows : Rules) (other : Result B Deny) (deny : Deny)
    → Err deny ≡ unless {A = Unit {0}} rows (Ok tt) → unless rows other ≡ Err deny
unless-stopped rows other deny e = unless-refused rows tt other deny (sym e)
