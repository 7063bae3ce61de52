-- What stands behind an answer: walks that end, steps that are taken, and tables of which no rule fails.
use Rattle.std.proofs.Common.{◌≡◌, refl, sym, subst, Bool, Err, None, Ok, Option, Result, Some, [], false, true, ◌++◌, ◌∷◌, cond, find, ok_or, ℕ, ◌∙◌}
use Rattle.std.specs.Prelude.{⊤, option_to_list}
use Rattle.vt_spec.specs.declared.errors.Deny.{Deny}
use Rattle.vt_spec.specs.Errors.{NoneFails, Rules, and_then, unless, denial}
use Rattle.vt_spec.specs.Machine.Walking.{Stop, walk_end}
use Rattle.vt_spec.specs.Machine.Rules.Descriptors.{descriptor_at, descriptor_numbered}
use Rattle.vt_spec.specs.Machine.World.{Descriptor, Task}
use Rattle.vt_spec.specs.declared.errors.Rule.TheVariants.{S4}
use Rattle.vt_spec.proofs.Refusals.{passed}

-- if there is an answer, this holds of it
abbrev pub Gives : {A : Type 0} → (A → Type 0) → Result A Deny → Type 0
Gives P (Ok a) = P a
Gives P (Err deny) = ⊤

pub given : {A : Type 0} (P : A → Type 0) (answer : Result A Deny) (a : A) → Gives P answer → answer ≡ Ok a → P a
given P answer a gives e = subst (Gives P) e gives

pub behind_rules : {A : Type 0} (P : A → Type 0) (rules : Rules) (answer : Result A Deny)
    → (NoneFails rules → Gives P answer) → Gives P (unless rules answer)
behind_rules P [] answer h = h tt
behind_rules P ((true, rule) ∷ rows) answer h = tt
behind_rules P ((false, rule) ∷ rows) answer h = behind_rules P rows answer (λ rest. h (refl, rest))

pub behind_walk : {N A B : Type 0} (P : A → Type 0) (walk : Result B (Stop N)) (next : B → Result A Deny)
    → ((b : B) → walk ≡ Ok b → Gives P (next b)) → Gives P (and_then (walk_end walk) next)
behind_walk P (Ok b) next h = h b refl
behind_walk P (Err stop) next h = tt

pub behind_step : {A B : Type 0} (P : A → Type 0) (step : Result B Deny) (next : B → Result A Deny)
    → ((b : B) → step ≡ Ok b → Gives P (next b)) → Gives P (and_then step next)
behind_step P (Ok b) next h = h b refl
behind_step P (Err deny) next h = tt

pub behind_test : {A : Type 0} (P : A → Type 0) (test : Bool) (next : Bool → Result A Deny)
    → (test ≡ true → Gives P (next true)) → (test ≡ false → Gives P (next false)) → Gives P (next test)
behind_test P true next h k = h refl
behind_test P false next h k = k refl

pub behind_option : {A B : Type 0} (P : A → Type 0) (o : Option B) (next : Option B → Result A Deny)
    → ((b : B) → o ≡ Some b → Gives P (next (Some b))) → (o ≡ None → Gives P (next None)) → Gives P (next o)
behind_option P (Some b) next some none = some b refl
behind_option P None next some none = none refl

-- and back
pub by_rules : {A : Type 0} (rules : Rules) (answer other : Result A Deny) → NoneFails rules → answer ≡ other
    → unless rules answer ≡ other
by_rules rules answer other pass e = passed rules answer pass ∙ e

pub by_walk : {N A B : Type 0} (walk : Result B (Stop N)) (b : B) (next : B → Result A Deny) (other : Result A Deny)
    → walk ≡ Ok b → next b ≡ other → and_then (walk_end walk) next ≡ other
by_walk {N} {B = B} walk b next other e f =
    subst (λ (w : Result B (Stop N)). and_then (walk_end w) next ≡ other) (sym e) f

pub by_step : {A B : Type 0} (step : Result B Deny) (b : B) (next : B → Result A Deny) (other : Result A Deny)
    → step ≡ Ok b → next b ≡ other → and_then step next ≡ other
by_step {B = B} step b next other e f = subst (λ (s : Result B Deny). and_then s next ≡ other) (sym e) f

-- two tables in one
pub joined_tables : {A : Type 0} (rules more : Rules) (answer : Result A Deny)
    → unless rules (unless more answer) ≡ unless (rules ++ more) answer
joined_tables [] more answer = refl
joined_tables ((true, rule) ∷ rows) more answer = refl
joined_tables ((false, rule) ∷ rows) more answer = joined_tables rows more answer

-- what comes after a step is the same
pub same_then : {A B : Type 0} (step : Result A Deny) (next other : A → Result B Deny) → ((a : A) → next a ≡ other a)
    → and_then step next ≡ and_then step other
same_then (Ok a) next other e = e a
same_then (Err deny) next other e = refl

-- a descriptor that is found is the task's, and opened for what is asked
pub descriptor_found : {N : Type 0} (task : Task N) (number : ℕ) (fits : Descriptor N → Bool)
    (descriptor : Descriptor N) → descriptor_at task number fits ≡ Ok descriptor
    → (descriptor_numbered task number ≡ Some descriptor) × (fits descriptor ≡ true)
descriptor_found {N} task number fits descriptor = by (descriptor_numbered task number)
  where
    by : (o : Option (Descriptor N)) → ok_or (find fits (option_to_list o)) (denial S4) ≡ Ok descriptor
        → (o ≡ Some descriptor) × (fits descriptor ≡ true)
    by None e = cc
    by (Some other) e = by_test (fits other) refl e
      where
        by_test : (b : Bool) → fits other ≡ b → ok_or (cond b (Some other) None) (denial S4) ≡ Ok descriptor
            → (Some other ≡ Some descriptor) × (fits descriptor ≡ true)
        by_test true f g =
            let same : other ≡ descriptor = cc in
            (λ i. Some (same i), subst (λ d. fits d ≡ true) same f)
        by_test false f g = cc
