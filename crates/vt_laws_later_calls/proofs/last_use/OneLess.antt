-- One less in a list: whether some of it pass a test, and how many did.
use Rattle.std.proofs.Common.{◌≡◌, sym, ap, ◌∙◌, ⊎_elim, ℕ, Bool, true, false, not, ◌+◌, ◌++◌, List, [], ◌∷◌, filter, map, arith, nat_lt}
use Rattle.vt_spec.proofs.Common.{any_pair, common_steps, list_any, list_any-append, nat_tests, or_parts, same_truth}
use Rattle.vt_laws_later_calls.proofs.Common.{Among, any_counted, filter_all, filter_here, filter_skip, map_same, none_among, times, times_around}

-- where one of them goes, some are left just where there was more than one
pub some_left : (before after : ℕ) → before ≡ after + 1 → nat_lt 0 after ≡ nat_lt 1 before
some_left before after e = grind (arith, common_steps, same_truth, nat_tests)

module _ {A : Type 0} (test : A → Bool) where
  -- without one that passes, some pass just where more than one did
  pub some_without_it : (a : A) → test a ≡ true → (front back : List A)
      → list_any test (front ++ back) ≡ nat_lt 1 (times test (front ++ (a ∷ back)))
  some_without_it a e front back = any_counted test (front ++ back) ∙ some_left _
      _ (cc (times_around test front back a))

  -- without one that does not pass, some pass just where some did
  pub some_without_another : (a : A) → test a ≡ false → (front back : List A)
      → list_any test (front ++ back) ≡ list_any test (front ++ (a ∷ back))
  some_without_another a e front back = cc (list_any-append test front back, list_any-append test front (a ∷ back))

-- A list around one of it, of which no two are the same: without it, and with another in its place
pub record IsSplit {A : Type 0} (same : A → A → Bool) (list : List A) (it : A) : Type 0 where
  pub front : List A
  pub back : List A
  pub whole : list ≡ front ++ (it ∷ back)
  pub left : filter (λ a. not (same it a)) list ≡ front ++ back
  pub changed : (change : A → A) → ((a : A) → same it a ≡ false → change a ≡ a)
      → map change list ≡ front ++ (change it ∷ back)

module _ {A : Type 0} (same : A → A → Bool) (itself : (a : A) → same a a ≡ true)
    (turned : (a b : A) → same a b ≡ false → same b a ≡ false) where
  pub split_around : (list : List A) → any_pair same list ≡ false → (it : A) → Among it list → IsSplit same list it
  split_around [] one it m = absurd m
  split_around (first ∷ rest) one it m = ⊎_elim at_first (λ n. later n (split_around rest parts.1 it n)) m
    where
      parts : (list_any (same first) rest ≡ false) × (any_pair same rest ≡ false)
      parts = or_parts (list_any (same first) rest) (any_pair same rest) one

      at_first : it ≡ first → IsSplit same (first ∷ rest) it
      at_first is = record {
        front = [];
        back = rest;
        whole = cc;
        left = filter_skip (λ a. not (same it a)) first rest (cc (itself it))
            ∙ filter_all (λ a. not (same it a)) rest (λ a n. ap not (differs a n));
        changed = λ change stays. λ i. change (sym is i) ∷ map_same change rest (λ a n. stays a (differs a n)) i;
      }
        where
          differs : (a : A) → Among a rest → same it a ≡ false
          differs a n = cc (none_among (same first) rest parts.0 a n)

      later : Among it rest → IsSplit same rest it → IsSplit same (first ∷ rest) it
      later n next = record {
        front = first ∷ next.front;
        back = next.back;
        whole = cc next.whole;
        left = cc (filter_here (λ a. not (same it a)) first rest (ap not differs), next.left);
        changed = λ change stays. λ i. stays first differs i ∷ next.changed change stays i;
      }
        where
          differs : same it first ≡ false
          differs = turned first it (none_among (same first) rest parts.0 it n)
