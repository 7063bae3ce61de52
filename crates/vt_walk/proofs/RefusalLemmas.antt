-- Rules that refuse, and answers that go on.
use Rattle.std.proofs.Common.{◌≡◌, true, false, [], ◌∷◌, Result, Ok, Err, refl, sym}
use Rattle.vt_spec.proofs.Common.{Rules, and_then, unless, unless-refused}
use Rattle.vt_spec.specs.declared.errors.Deny.{Deny}

pub and_then-ok : {A : Type 0} (r : Result A Deny) → and_then r (λ a. Ok a) ≡ r
and_then-ok (Ok a) = refl
and_then-ok (Err deny) = refl

pub and_then-and_then : {A B C : Type 0} (r : Result A Deny) (f : A → Result B Deny) (h : B → Result C Deny)
    → and_then (and_then r f) h ≡ and_then r (λ a. and_then (f a) h)
and_then-and_then (Ok a) f h = refl
and_then-and_then (Err deny) f h = refl

-- what follows an answer that rules stand before is behind them too
pub unless-and_then : {A B : Type 0} (rows : Rules) (a : A) (f : A → Result B Deny)
    → unless rows (f a) ≡ and_then (unless rows (Ok a)) f
unless-and_then [] a f = refl
unless-and_then ((true, rule) ∷ rows) a f = refl
unless-and_then ((false, rule) ∷ rows) a f = unless-and_then rows a f

-- what they let through is the answer
pub unless-answer : {A : Type 0} (rows : Rules) (a b : A) → unless rows (Ok a) ≡ Ok b → a ≡ b
unless-answer [] a b e = cc
unless-answer ((true, rule) ∷ rows) a b e = absurd cc
unless-answer ((false, rule) ∷ rows) a b e = unless-answer rows a b e

pub unless-stopped : {B : Type 0} (rows : Rules) (other : Result B Deny) (deny : Deny)
    → Err deny ≡ unless {A = Unit {0}} rows (Ok tt) → Err deny ≡ unless rows other
unless-stopped rows other deny e = sym (unless-refused rows tt other deny (sym e))

pub unless-inverted : {A : Type 0} (rows : Rules) (answer : Result A Deny) (a : A) → unless rows answer ≡ Ok a
    → answer ≡ Ok a
unless-inverted [] answer a e = e
unless-inverted ((true, rule) ∷ rows) answer a e = absurd cc
unless-inverted ((false, rule) ∷ rows) answer a e = unless-inverted rows answer a e
