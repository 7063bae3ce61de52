-- The numbers of what is counted, and of inodes in their slots, are different where those are.
use Rattle.std.proofs.Common.{◌≡◌, ◌≢◌, ◌<◌, ◌≤◌, ◌+◌, ◌-◌, ◌*◌, ℕ, Bool, true, false, not, nat_eq, nat_lt, ◌&&◌, refl, sym, ap, ◌∙◌, arith, lt-ltb, le-ltb, eq-eqb, if◌then◌else◌, ◌/◌, eqb-true, ltb-true, ltb-false}
use Rattle.vt_spec.proofs.Common.{and_true_first, and_true_left, and_true_right, not-true, same_truth}
use Rattle.vt_location.specs.Numbers.{counted, exchanged, inode_number, is_inode_of, is_own_number}
use Rattle.vt_spec.proofs.Truths.{and_from_three}

pub counted_same : (a b : ℕ) → counted a ≡ counted b → a ≡ b
counted_same a b e = omega arith

-- slots of two filesystems
pub inode_same : (f g a b : ℕ) → a < 18446744073709551616 → b < 18446744073709551616
    → inode_number f a ≡ inode_number g b → (f ≡ g) × (a ≡ b)
inode_same f g a b a_small b_small e = (omega arith, omega arith)

-- no inode has the number of what is counted
pub counted_inode : (c f slot : ℕ) → counted c ≢ inode_number f slot
counted_inode c f slot e = omega arith

pub exchanged_slot : (f slot : ℕ) → slot < 18446744073709551616 → exchanged f slot ≡ inode_number f slot
exchanged_slot f slot small =
    ap (λ b. if b then inode_number f slot else if is_inode_of f slot then slot / 2 - 18446744073709551616 * (f + 1)
    else slot) (lt-ltb slot 18446744073709551616 small)

negated : (b : Bool) → b ≡ false → not b ≡ true
negated b e = ap not e

pub is_inode : (f slot : ℕ) → slot < 18446744073709551616 → is_inode_of f (inode_number f slot) ≡ true
is_inode f slot small = and_from_three _ _ _ (negated _ (le-ltb (inode_number f slot) (inode_number f 0) (omega arith)))
    (lt-ltb (inode_number f slot) (inode_number (f + 1) 0) (omega arith))
    (eq-eqb (2 * (inode_number f slot / 2)) (inode_number f slot) (omega arith))

pub own_number : (f n : ℕ) → f < 18446744073709551616 → is_inode_of f n ≡ true → is_own_number f n ≡ true
own_number f n small e = λ i. lt-ltb f 18446744073709551616 small i && e i

pub own_inode : (f n : ℕ) → is_own_number f n ≡ true → is_inode_of f n ≡ true
own_inode f n e = and_true_right (nat_lt f 18446744073709551616) _ e

pub is_own : (f slot : ℕ) → f < 18446744073709551616 → slot < 18446744073709551616
    → is_own_number f (inode_number f slot) ≡ true
is_own f slot small slot_small = own_number f (inode_number f slot) small (is_inode f slot slot_small)

at_number : (f n slot : ℕ) → nat_lt n 18446744073709551616 ≡ false → is_inode_of f n ≡ true → n ≡ inode_number f slot
    → exchanged f n ≡ slot
at_number f n slot large inode is =
    ap (λ b. if b then inode_number f n else if is_inode_of f n then n / 2 - 18446744073709551616 * (f + 1)
    else n) large ∙ ap (λ b. if b then n / 2 - 18446744073709551616 * (f + 1) else n) inode ∙ last
  where
    last : n / 2 - 18446744073709551616 * (f + 1) ≡ slot
    last = omega arith

pub exchanged_number : (f slot : ℕ) → slot < 18446744073709551616 → exchanged f (inode_number f slot) ≡ slot
exchanged_number f slot small =
    at_number f (inode_number f slot) slot (le-ltb (inode_number f slot) 18446744073709551616 (omega arith))
    (is_inode f slot small) refl

-- what stands for no slot stays
stays : (f n : ℕ) → nat_lt n 18446744073709551616 ≡ false → is_inode_of f n ≡ false → exchanged f n ≡ n
stays f n large other =
    ap (λ b. if b then inode_number f n else if is_inode_of f n then n / 2 - 18446744073709551616 * (f + 1)
    else n) large ∙ ap (λ b. if b then n / 2 - 18446744073709551616 * (f + 1) else n) other

second_of : (a b c : Bool) → (a && b && c) ≡ true → b ≡ true
second_of true true c e = refl
second_of true false c e = e
second_of false b c e = absurd cc

third_of : (a b c : Bool) → (a && b && c) ≡ true → c ≡ true
third_of true true c e = e
third_of true false c e = absurd cc
third_of false b c e = absurd cc

-- a number of an inode is the number of a slot
pub slot_of : (f n : ℕ) → is_inode_of f n ≡ true
    → (slot : ℕ) × (slot < 18446744073709551616) × (n ≡ inode_number f slot)
slot_of f n e =
    let low : Bool = nat_lt n (inode_number f 0) in
    let high : Bool = nat_lt n (inode_number (f + 1) 0) in
    let doubled : Bool = nat_eq (2 * (n / 2)) n in
    let above = ltb-false n (inode_number f 0) (not-true low (and_true_first (not low) high doubled e)) in
    let below = ltb-true n (inode_number (f + 1) 0) (second_of (not low) high doubled e) in
    let even = eqb-true (2 * (n / 2)) n (third_of (not low) high doubled e) in
    (n / 2 - 18446744073709551616 * (f + 1), omega (arith, above, below, even), omega (arith, above, below, even))

-- what stands for no slot and is no inode of the filesystem is exchanged with no slot
pub no_slot : (f n : ℕ) → is_inode_of f n ≡ false → 18446744073709551616 ≤ exchanged f n
no_slot f n other = by (nat_lt n 18446744073709551616) refl
  where
    by : (small : Bool) → nat_lt n 18446744073709551616 ≡ small → 18446744073709551616 ≤ exchanged f n
    by true e = let is = exchanged_slot f n (ltb-true n 18446744073709551616 e) in omega (arith, is)
    by false e = let is = stays f n e other in omega (arith, is, ltb-false n 18446744073709551616 e)

-- exchanged twice, a number is what it was
pub exchanged_back : (f n : ℕ) → exchanged f (exchanged f n) ≡ n
exchanged_back f n = by (nat_lt n 18446744073709551616) (is_inode_of f n) refl refl
  where
    by : (small inode : Bool) → nat_lt n 18446744073709551616 ≡ small → is_inode_of f n ≡ inode
        → exchanged f (exchanged f n) ≡ n
    by true inode e i =
        let below = ltb-true n 18446744073709551616 e in
        ap (exchanged f) (exchanged_slot f n below) ∙ exchanged_number f n below
    by false false e i = ap (exchanged f) (stays f n e i) ∙ stays f n e i
    by false true e i =
        let slot = slot_of f n i in
        ap (exchanged f) (at_number f n slot.0 e i slot.2) ∙ exchanged_slot f slot.0 slot.1 ∙ sym slot.2

-- different numbers are exchanged with different ones
pub exchanged_same : (f a b : ℕ) → exchanged f a ≡ exchanged f b → a ≡ b
exchanged_same f a b e = sym (exchanged_back f a) ∙ ap (exchanged f) e ∙ exchanged_back f b

-- the tests of code, and those of the definitions
pub counted_test : (a b : ℕ) → nat_eq (counted a) (counted b) ≡ nat_eq a b
counted_test a b = same_truth _ _ (λ e. eq-eqb a b (counted_same a b (eqb-true (counted a) (counted b) e)))
    (λ e. eq-eqb (counted a) (counted b) (ap counted (eqb-true a b e)))

-- which of two counted numbers is less
pub counted_less : (a b : ℕ) → nat_lt (counted a) (counted b) ≡ nat_lt a b
counted_less a b = by (nat_lt a b) (ltb-true a b) (ltb-false a b)
  where
    by : (t : Bool) → (t ≡ true → a < b) → (t ≡ false → b ≤ a) → nat_lt (counted a) (counted b) ≡ t
    by true less more = lt-ltb (counted a) (counted b) (omega (arith, less refl))
    by false less more = le-ltb (counted a) (counted b) (omega (arith, more refl))

pub inode_test : (f g a b : ℕ) → a < 18446744073709551616 → b < 18446744073709551616
    → nat_eq (inode_number f a) (inode_number g b) ≡ (nat_eq f g && nat_eq a b)
inode_test f g a b a_small b_small = same_truth _ _
    (λ e. let same = inode_same f g a b a_small b_small (eqb-true (inode_number f a) (inode_number g b) e) in
    (λ i. eq-eqb f g same.0 i && eq-eqb a b same.1 i))
    (λ e. let same = two e in eq-eqb (inode_number f a) (inode_number g b) (λ i. inode_number (same.0 i) (same.1 i)))
  where
    two : (nat_eq f g && nat_eq a b) ≡ true → (f ≡ g) × (a ≡ b)
    two e = (
      eqb-true f g (and_true_left (nat_eq f g) (nat_eq a b) e),
      eqb-true a b (and_true_right (nat_eq f g) (nat_eq a b) e),
    )
