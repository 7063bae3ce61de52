-- How often a number stands in a list.
use Rattle.std.proofs.Common.{◌≡◌, refl, subst, ℕ, suc, ◌+◌, ◌≤◌, nat_eq, eq-eqb, Bool, true, cond, List, [], ◌∷◌, ◌++◌, length, filter, arith}
use Rattle.vt_spec.proofs.Common.{common_steps, eqb_tells, is_among, list_all}
use Rattle.vt_laws_mounts.specs.LettingGo.Counts.{times}

-- how often this number stands in a list
abbrev pub times_in : ℕ → List ℕ → ℕ
times_in number = times (nat_eq number)

-- what stands in a list, and what does not
pub among_times : (number : ℕ) (list : List ℕ) → is_among nat_eq number list ≡ true → 1 ≤ times_in number list
among_times number [] e = cc
among_times number (other ∷ rest) e = grind (arith, common_steps, among_times number rest)

pub times_among : (number : ℕ) (list : List ℕ) → 1 ≤ times_in number list → is_among nat_eq number list ≡ true
times_among number [] e = absurd (omega arith)
times_among number (other ∷ rest) e = grind (arith, common_steps, times_among number rest)

-- a list without the first place of a number
abbrev pub removed : ℕ → List ℕ → List ℕ
removed number [] = []
removed number (other ∷ rest) = cond (nat_eq number other) rest (other ∷ removed number rest)

pub times_removed : (number z : ℕ) (list : List ℕ) → 1 ≤ times_in number list
    → times_in z (number ∷ removed number list) ≡ times_in z list
times_removed number z [] e = absurd (omega arith)
times_removed number z (other ∷ rest) e = grind (arith, common_steps, eqb_tells, times_removed number z rest)

pub length_removed : (number : ℕ) (list : List ℕ) → 1 ≤ times_in number list
    → suc (length (removed number list)) ≡ length list
length_removed number [] e = absurd (omega arith)
length_removed number (other ∷ rest) e = grind (arith, common_steps, length_removed number rest)

-- a list that has no number more often than another is no longer
pub no_longer : (list other : List ℕ) → ((number : ℕ) → times_in number list ≤ times_in number other)
    → length list ≤ length other
no_longer [] other less = omega arith
no_longer (first ∷ list) other less =
    let own : nat_eq first first ≡ true = eq-eqb first first refl in
    let here : cond (nat_eq first first) 1 0 + times_in first list ≤ times_in first other = less first in
    let there : 1 + times_in first list ≤ times_in first other =
    subst (λ b. cond b 1 0 + times_in first list ≤ times_in first other) own here in
    let found : 1 ≤ times_in first other = omega arith in
    let shorter : length list ≤ length (removed first other) = no_longer list _ (λ number.
    let same : cond (nat_eq number first) 1 0 + times_in number (removed first other) ≡ times_in number other =
    times_removed first number other found in
    let all : cond (nat_eq number first) 1 0 + times_in number list ≤ times_in number other = less number in
    omega arith) in
    let long : suc (length (removed first other)) ≡ length other = length_removed first other found in
    omega arith

-- so lists that have each number as often are as long
pub as_long : (list other : List ℕ) → ((number : ℕ) → times_in number list ≡ times_in number other)
    → length list ≡ length other
as_long list other same =
    let one : length list ≤ length other = no_longer list other (λ number. let e = same number in omega arith) in
    let two : length other ≤ length list = no_longer other list (λ number. let e = same number in omega arith) in
    omega arith

pub times_append : (number : ℕ) (list other : List ℕ)
    → times_in number (list ++ other) ≡ times_in number list + times_in number other
times_append number [] other = omega arith
times_append number (first ∷ list) other =
    let e : times_in number (list ++ other) ≡ times_in number list + times_in number other =
    times_append number list other in omega arith

-- a list of which all pass, and of which some do not
filter_all : (p : ℕ → Bool) (list : List ℕ) → list_all p list ≡ true → filter p list ≡ list
filter_all p [] e = refl
filter_all p (first ∷ rest) e = grind (arith, common_steps, filter_all p rest)

pub times_filter : (p : ℕ → Bool) (number : ℕ) (list : List ℕ)
    → times_in number (filter p list) ≡ cond (p number) (times_in number list) 0
times_filter p number [] = grind (arith, common_steps)
times_filter p number (first ∷ rest) = grind (arith, common_steps, eqb_tells, times_filter p number rest)
