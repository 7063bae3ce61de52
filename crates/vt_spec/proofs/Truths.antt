-- Tests: what follows where they pass or fail.
use Rattle.std.proofs.Common.{Bool, List, T, ap, arith, cond, eq-eqb, false, inl, inr, nat_eq, ne_eqb, not, refl, sym, true, true≢false, ℕ, ◌&&◌, ◌+◌, ◌||◌, ◌∙◌, ◌≡◌, ◌≤◌, ◌⊎◌}
use Rattle.std.proofs.lemmas.Bool.{eqb-false, eqb-true}
use Rattle.std.proofs.lemmas.Bool.Decides.{eqb_tells, nat_tests}
use Rattle.std.specs.Cmp.Lexicographic.{bytes_decides}
use Rattle.std.specs.Ordering.{is_eq, is_lt}
use Rattle.std.specs.Prelude.{nat_lt}
use Rattle.std.specs.Str.{bytes_eq}
use Rattle.std.specs.declared.cmp.Ordering.{Ordering}
use Rattle.std.specs.declared.cmp.Ordering.TheVariants.{Equal, Greater, Less}

-- a choice that fails fails on both sides
pub or_false_left : (a b : Bool) → (a || b) ≡ false → a ≡ false
or_false_left true b e = e
or_false_left false b e = refl

-- and on the right
pub or_false_right : (a b : Bool) → (a || b) ≡ false → b ≡ false
or_false_right true b e = absurd (true≢false e)
or_false_right false b e = e

-- what holds together holds alone
pub and_true_left : (a b : Bool) → (a && b) ≡ true → a ≡ true
and_true_left true b e = refl
and_true_left false b e = absurd (true≢false (sym e))

-- and the second of the two
pub and_true_right : (a b : Bool) → (a && b) ≡ true → b ≡ true
and_true_right true b e = e
and_true_right false b e = absurd (true≢false (sym e))

-- tests that pass together are one
pub same_truth : (a b : Bool) → (a ≡ true → b ≡ true) → (b ≡ true → a ≡ true) → a ≡ b
same_truth true b there back = sym (there refl)
same_truth false true there back = back refl
same_truth false false there back = refl

-- of three that hold together the first holds
pub and_true_first : (a b c : Bool) → (a && b && c) ≡ true → a ≡ true
and_true_first true b c e = refl
and_true_first false b c e = e

-- three that hold hold together
pub and_from_three : (a b c : Bool) → a ≡ true → b ≡ true → c ≡ true → (a && b && c) ≡ true
and_from_three a b c p q r = (λ i. p i && q i && r i)

-- a choice of one
pub or_false_alone : (c : Bool) → (c || false) ≡ true → c ≡ true
or_false_alone true e = e
or_false_alone false e = e

-- a test is the negation of its negation
pub not_turned : (b c : Bool) → c ≡ not b → b ≡ not c
not_turned true c e = sym (ap not e)
not_turned false c e = sym (ap not e)

-- the same of tests as facts
pub T_and : (a b : Bool) → T a → T b → T (a && b)
T_and true b p q = q
T_and false b p q = absurd p

-- the first of two
pub T_and_left : (a b : Bool) → T (a && b) → T a
T_and_left true b p = tt
T_and_left false b p = absurd p

-- the second of two
pub T_and_right : (a b : Bool) → T (a && b) → T b
T_and_right true b p = p
T_and_right false b p = absurd p

-- a choice by a negated test is turned
pub cond-not : {X : Type 0} (b : Bool) (x y : X) → cond b x y ≡ cond (not b) y x
cond-not true x y = refl
cond-not false x y = refl

-- a number is zero, or one at least
pub zero_or_some : (n : ℕ) → (n ≡ 0) ⊎ (1 ≤ n)
zero_or_some Rattle.std.proofs.Common.zero = inl refl
zero_or_some (Rattle.std.proofs.Common.suc n) = inr (omega arith)

-- the two numbers of a test may be turned
pub nat_eq_turned : (a b : ℕ) → nat_eq a b ≡ nat_eq b a
nat_eq_turned a b = by (nat_eq a b) (nat_eq b a) refl refl
  where
    by : (x y : Bool) → nat_eq a b ≡ x → nat_eq b a ≡ y → x ≡ y
    by true true e f = refl
    by false false e f = refl
    by true false e f = sym (eq-eqb b a (sym (eqb-true a b e))) ∙ f
    by false true e f = sym e ∙ eq-eqb a b (sym (eqb-true b a f))

-- numbers that differ differ both ways
pub nat_eq_false_turned : (a b : ℕ) → nat_eq a b ≡ false → nat_eq b a ≡ false
nat_eq_false_turned a b e = nat_eq_turned b a ∙ e

-- a number is itself
pub nat_eq_itself : (n : ℕ) → nat_eq n n ≡ true
nat_eq_itself n = grind (arith, eqb_tells)

-- one more is some
pub one_more_is_some : (n : ℕ) → true ≡ nat_lt 0 (1 + n)
one_more_is_some n = grind (arith, nat_tests)

-- none more is as many
pub as_many_with_none : (n : ℕ) → nat_lt 0 n ≡ nat_lt 0 (0 + n)
as_many_with_none n = ap (nat_lt 0) (omega arith)

-- what ties is equal
pub Equal_from_is_eq : (o : Ordering) → is_eq o ≡ true → o ≡ Equal
Equal_from_is_eq Less e = cc
Equal_from_is_eq Equal e = refl
Equal_from_is_eq Greater e = cc

-- what is less does not tie
pub less_is_not_equal : (o : Ordering) → is_lt o ≡ true → is_eq o ≡ false
less_is_not_equal Less e = refl
less_is_not_equal Equal e = absurd (true≢false (sym e))
less_is_not_equal Greater e = refl

-- bytes are themselves
pub bytes_eq_itself : (bytes : List ℕ) → bytes_eq bytes bytes ≡ true
bytes_eq_itself bytes = (bytes_decides bytes bytes).1 refl

-- a comparison of numbers comes out the same the other way round
pub nat_eq-swapped : (a b : ℕ) (t : Bool) → nat_eq a b ≡ t → nat_eq b a ≡ t
nat_eq-swapped a b true e = eq-eqb b a (sym (eqb-true a b e))
nat_eq-swapped a b false e = ne_eqb b a (λ same. eqb-false a b e (sym same))

-- two tests of which the second fails do not hold together
pub and_false_right : (a b : Bool) → b ≡ false → (a && b) ≡ false
and_false_right true b e = e
and_false_right false b e = refl
