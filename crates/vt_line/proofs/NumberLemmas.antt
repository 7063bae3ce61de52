-- Numbers of the grammar, read from left to right.
use Rattle.std.proofs.Common.{◌≡◌, ℕ, ◌+◌, ◌-◌, ◌*◌, ◌≤◌, ◌<◌, ◌&&◌, Bool, true, false, not, cond, leb, List, [], ◌∷◌, length, Option, Some, None, refl, arith}
use Rattle.vt_spec.proofs.Common.{is_empty, nat_tests, value_from}
use Rattle.std.proofs.Math.Nat.{mul-le-mul_right}
use Rattle.vt_spec.specs.Language.Script.{number_in, digits_below}

-- a number grows with each digit
pub value_from-grows : (base value : ℕ) (text : List ℕ) → 1 ≤ base → value ≤ value_from base value text
value_from-grows base value [] some_base = omega arith
value_from-grows base value (byte ∷ bytes) some_base =
    let more = value_from-grows base (base * value + (byte - 48)) bytes some_base in
    let once = mul-le-mul_right value some_base in
    omega (arith, more, once)

none_by_fourth : (a b c d : Bool) (v : ℕ) → d ≡ false → cond (a && b && c && d) (Some v) None ≡ None
none_by_fourth false b c d v e = refl
none_by_fourth true false c d v e = refl
none_by_fourth true true false d v e = refl
none_by_fourth true true true true v e = cc
none_by_fourth true true true false v e = refl

pub number_in-large : (base most limit : ℕ) (text : List ℕ) → limit < value_from base 0 text
    → number_in base most limit text ≡ None
number_in-large base most limit text large =
    none_by_fourth (not (is_empty text)) (leb (length text) most) (digits_below base text)
    (leb (value_from base 0 text) limit) (value_from base 0 text) (grind (arith, nat_tests))

-- what a digit is read as
pub digit-value : {r : Option ℕ} (t : Bool) (v d : ℕ) → r ≡ cond t (Some v) None → r ≡ Some d → d ≡ v
digit-value true v d e f = cc
digit-value false v d e f = cc
