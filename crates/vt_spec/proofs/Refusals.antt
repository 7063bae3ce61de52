-- Rules that refuse or let through.
use Rattle.std.proofs.Common.{Err, Ok, Result, [], false, refl, sym, true, true≢false, ◌∷◌, ◌≡◌}
use Rattle.vt_spec.specs.Errors.{NoneFails, Rules, unless}
use Rattle.vt_spec.specs.declared.errors.Deny.{Deny}

-- rules that refuse, refuse whatever follows
pub unless-refused : {A B : Type 0} (rows : Rules) (a : A) (other : Result B Deny) (deny : Deny)
    → unless rows (Ok a) ≡ Err deny → unless rows other ≡ Err deny
unless-refused [] a other deny e = absurd cc
unless-refused ((true, rule) ∷ rows) a other deny e = cc
unless-refused ((false, rule) ∷ rows) a other deny e = unless-refused rows a other deny e

-- rules that let one thing through let all through
pub unless-passed : {A B : Type 0} (rows : Rules) (a b : A) (other : Result B Deny) → unless rows (Ok a) ≡ Ok b
    → unless rows other ≡ other
unless-passed [] a b other e = refl
unless-passed ((true, rule) ∷ rows) a b other e = absurd cc
unless-passed ((false, rule) ∷ rows) a b other e = unless-passed rows a b other e

-- rules that let nothing through do nothing
pub unless-let_through : {B : Type 0} (rows : Rules) (other : Result B Deny)
    → Ok tt ≡ unless {A = Unit {0}} rows (Ok tt) → unless rows other ≡ other
unless-let_through rows other e = unless-passed rows tt tt other (sym e)

-- where a table lets pass, it answers what it was given
pub passed : {A : Type 0} (rows : Rules) (answer : Result A Deny) → NoneFails rows → unless rows answer ≡ answer
passed [] answer pass = refl
passed ((true, rule) ∷ rows) answer pass = absurd (true≢false pass.0)
passed ((false, rule) ∷ rows) answer pass = passed rows answer pass.1

-- and where it gave an answer, it let pass
pub passing : {A : Type 0} (rows : Rules) (answer : Result A Deny) (a : A) → unless rows answer ≡ Ok a
    → NoneFails rows × (answer ≡ Ok a)
passing [] answer a e = (tt, e)
passing ((true, rule) ∷ rows) answer a e = cc
passing ((false, rule) ∷ rows) answer a e = let rest = passing rows answer a e in ((refl, rest.0), rest.1)

-- two answers that are the same are of the same thing
pub same_ok : {A : Type 0} (a b : A) → Path (Result A Deny) (Ok a) (Ok b) → a ≡ b
same_ok a b e = cc
