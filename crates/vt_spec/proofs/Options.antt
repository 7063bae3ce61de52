-- What is there or is not: options, results, lists.
use Rattle.std.proofs.Common.{Bool, Err, List, None, Ok, OnOk, Option, Result, Some, ap, cond, false, is_some, option_and_then, refl, sym, true, true≢false, ℕ, ◌∙◌, ◌∷◌, ◌≡◌}
use Rattle.vt_spec.specs.Errors.{and_then}
use Rattle.vt_spec.specs.Tree.{Node}
use Rattle.vt_spec.specs.declared.errors.Deny.{Deny}

-- nothing is not something
pub none_is_some : {A P : Type 0} (a : A) → None ≡ Some a → P
none_is_some a e = absurd (true≢false (sym (ap is_some e)))

-- what is not something is nothing
pub none_from_not_some : {A : Type 0} (o : Option A) → is_some o ≡ false → o ≡ None
none_from_not_some None e = refl
none_from_not_some (Some a) e = absurd (true≢false e)

-- a step that gives what it is given
pub option_and_then-Some : (o : Option ℕ) → option_and_then (λ next. Some next) o ≡ o
option_and_then-Some None = refl
option_and_then-Some (Some next) = refl

-- what is there exactly where another is is nothing where that is nothing
pub none_before : (a b : Option (Node ℕ)) → is_some b ≡ is_some a → b ≡ None → a ≡ None
none_before None b e n = refl
none_before (Some a) b e n = absurd (true≢false (sym e ∙ ap is_some n))

-- two steps that gave
pub and_then-Ok : {A B : Type 0} (first : Result A Deny) (next : A → Result B Deny) (b : B) → and_then first next ≡ Ok b
    → (a : A) × (first ≡ Ok a) × (next a ≡ Ok b)
and_then-Ok (Ok a) next b e = (a, refl, e)
and_then-Ok (Err deny) next b e = cc

-- what follows from a result that is there
pub OnOk_then : {A E P Q : Type 0} (r : Result A E) → (P → Q) → OnOk r P → OnOk r Q
OnOk_then (Ok a) so p = so p
OnOk_then (Err e) so p = tt

-- lists that are one begin alike
pub cons-first : {A : Type 0} (a b : A) (ones others : List A) → (a ∷ ones) ≡ (b ∷ others) → a ≡ b
cons-first a b ones others e = cc

-- and go on alike
pub cons-rest : {A : Type 0} (a b : A) (ones others : List A) → (a ∷ ones) ≡ (b ∷ others) → ones ≡ others
cons-rest a b ones others e = cc

-- what is not nothing is something
pub some_from_is_some : {A : Type 0} (o : Option A) → is_some o ≡ true → (a : A) × (o ≡ Some a)
some_from_is_some None e = absurd (true≢false (sym e))
some_from_is_some (Some a) e = (a, refl)

-- a choice between nothing and nothing is nothing
pub cond-None : {A : Type 0} (b : Bool) (o : Option A) → o ≡ None → cond b o None ≡ None
cond-None true o e = e
cond-None false o e = refl
