-- Numbers in lists: how often each stands there.
use Rattle.std.proofs.Common.{◌≡◌, refl, sym, ap, subst, ⊎_elim, ℕ, ◌+◌, ◌≤◌, nat_eq, eq-eqb, Bool, true, false, cond, ◌||◌, List, [], ◌∷◌, arith, IsPermutation}
use Rattle.vt_spec.proofs.Common.{IsPermutation-cons, IsPermutation-middle, IsPermutation-refl, IsPermutation-sym, IsPermutation-trans, any_pair, common_steps, eqb_tells, is_among, or_parts}
use Rattle.vt_laws_mounts.proofs.counts.counting.Entries.{one_if}
use Rattle.vt_laws_mounts.proofs.counts.counting.Times.{among_times, removed, times_among, times_in, times_removed}
use Rattle.vt_laws_mounts.specs.Counts.Numbers.{SameNumbersArePermuted}

-- what is not in a list is there no times
pub none_times : (n : ℕ) (list : List ℕ) → is_among nat_eq n list ≡ false → times_in n list ≡ 0
none_times n [] e = refl
none_times n (first ∷ rest) e =
    let parts = or_parts _ _ e in
    let here : one_if n first ≡ 0 = ap (λ b. cond b 1 0) parts.0 in
    let later = none_times n rest parts.1 in omega arith

-- in a list without repeats each stands once
pub once_times : (n : ℕ) (list : List ℕ) → any_pair nat_eq list ≡ false → times_in n list ≤ 1
once_times n [] e = omega arith
once_times n (first ∷ rest) e = grind (arith, common_steps, one_if, none_times, eqb_tells, or_parts, once_times n rest)

pub once_or_none : (n : ℕ) (list : List ℕ) → any_pair nat_eq list ≡ false
    → times_in n list ≡ cond (is_among nat_eq n list) 1 0
once_or_none n list e = grind (arith, common_steps, among_times, once_times, none_times)

-- and a list in which each stands once has no repeats
pub no_repeats : (list : List ℕ) → ((n : ℕ) → times_in n list ≤ 1) → any_pair nat_eq list ≡ false
no_repeats [] few = refl
no_repeats (first ∷ rest) few = by _ refl
    (no_repeats rest (λ n. let all : one_if n first + times_in n rest ≤ 1 = few n in omega arith))
  where
    by : (b : Bool) → is_among nat_eq first rest ≡ b → any_pair nat_eq rest ≡ false
        → (b || any_pair nat_eq rest) ≡ false
    by true e later =
        let some = among_times first rest e in let own : one_if first first ≡ 1 =
        ap (λ b. cond b 1 0) (eq-eqb first first refl) in
        let all : one_if first first + times_in first rest ≤ 1 = few first in absurd (omega arith)
    by false e later = later

-- Lists that have each as often are permutations of each other.

to_front : (n : ℕ) (list : List ℕ) → 1 ≤ times_in n list → IsPermutation (n ∷ removed n list) list
to_front n [] some = absurd (omega arith)
to_front n (first ∷ rest) some = ⊎_elim
    (λ t. subst (λ l. IsPermutation l (first ∷ rest)) (sym ((λ i. t.1 i ∷ cond (t.0 i) rest (first ∷ removed n rest))))
    (IsPermutation-refl (first ∷ rest)))
    (λ t. subst (λ b. IsPermutation (n ∷ cond b rest (first ∷ removed n rest)) (first ∷ rest)) (sym t.0)
    (IsPermutation-trans (n ∷ first ∷ removed n rest) (first ∷ n ∷ removed n rest) (first ∷ rest)
    (IsPermutation-sym (first ∷ n ∷ removed n rest) (n ∷ first ∷ removed n rest)
    (IsPermutation-middle (first ∷ []) n (removed n rest)))
    (IsPermutation-cons first (n ∷ removed n rest) rest (to_front n rest (let here : one_if n first ≡ 0 = ap
    (λ b. cond b 1 0) t.0 in let all : 1 ≤ one_if n first + times_in n rest = some in omega arith)))))
    (eqb_tells n first)

pub permuted : (one other : List ℕ) → ((n : ℕ) → times_in n one ≡ times_in n other) → IsPermutation one other
permuted [] [] same = IsPermutation-refl []
permuted [] (first ∷ rest) same =
    let own : one_if first first ≡ 1 = ap (λ b. cond b 1 0) (eq-eqb first first refl) in
    let none : 0 ≡ one_if first first + times_in first rest = same first in absurd (omega arith)
permuted (first ∷ rest) other same = IsPermutation-trans _ _ other
    (IsPermutation-cons first rest (removed first other) (permuted rest _ (λ n.
    let all : one_if n first + times_in n (removed first other) ≡ times_in n other =
    times_removed first n other found in
    let both : one_if n first + times_in n rest ≡ times_in n other = same n in omega arith)))
    (to_front first other found)
  where
    found : 1 ≤ times_in first other
    found =
        let own : one_if first first ≡ 1 = ap (λ b. cond b 1 0) (eq-eqb first first refl) in
        let all : one_if first first + times_in first rest ≡ times_in first other = same first in omega arith

pub same_numbers_are_permuted : SameNumbersArePermuted
same_numbers_are_permuted one other first second same =
    permuted one other (λ n. cc (once_or_none n one first, same n, once_or_none n other second))

-- what stands in a list once, or not
pub among_by_times : (n : ℕ) (list : List ℕ) (b : Bool) → times_in n list ≡ cond b 1 0 → is_among nat_eq n list ≡ b
among_by_times n list b e = grind (arith, common_steps, times_among, among_times)
