-- Rows of tables of rules, one after another.
use Rattle.std.proofs.Common.{◌≡◌, Bool, true, false, [], ◌∷◌, ◌++◌, Result, Err, refl}
use Rattle.vt_spec.proofs.Common.{Rules, denial, unless}
use Rattle.vt_spec.specs.declared.errors.Deny.{Deny}
use Rattle.vt_spec.specs.declared.errors.Rule.{Rule}

-- a row whose rule does not fail
pub skipped : {A : Type 0} (fails : Bool) (rule : Rule) (rows : Rules) (answer : Result A Deny)
    → fails ≡ false → unless ((fails, rule) ∷ rows) answer ≡ unless rows answer
skipped true rule rows answer e = absurd cc
skipped false rule rows answer e = refl

-- a row whose rule fails
pub stopped : {A : Type 0} (fails : Bool) (rule : Rule) (rows : Rules) (answer : Result A Deny)
    → fails ≡ true → unless ((fails, rule) ∷ rows) answer ≡ Err (denial rule)
stopped true rule rows answer e = refl
stopped false rule rows answer e = absurd cc

-- a row that stays, before others that come to the same
pub kept : {A : Type 0} (fails : Bool) (rule : Rule) (rows others : Rules) (answer other : Result A Deny)
    → unless rows answer ≡ unless others other
    → unless ((fails, rule) ∷ rows) answer ≡ unless ((fails, rule) ∷ others) other
kept true rule rows others answer other e = refl
kept false rule rows others answer other e = e

-- rows after rows
pub one_by_one : {A : Type 0} (rows others : Rules) (answer : Result A Deny)
    → unless (rows ++ others) answer ≡ unless rows (unless others answer)
one_by_one [] others answer = refl
one_by_one ((true, rule) ∷ rows) others answer = refl
one_by_one ((false, rule) ∷ rows) others answer = one_by_one rows others answer
