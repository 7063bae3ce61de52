-- Where the first that passes stands in a list, and what notes it.
use Rattle.std.proofs.Common.{◌≡◌, ℕ, Bool, true, false, cond, List, [], ◌∷◌, ◌++◌, ◌+◌, ◌<◌, ◌||◌, map, nat_eq, Option, None, Some, refl, sym, ap, ◌∙◌, arith, get_or, length, take, eq-eqb, ne_eqb, is_some, true≢false, if◌then◌else◌, unwrap_or, eqb-true, length-take-le}
use Rattle.vt_spec.proofs.Common.{Mount, common_steps, eqb-false, index_from, length-map, list_any, map-append, or_else, same_Some, take_more}
use Rattle.std.specs.List.{position_from}
use Rattle.vt_location.specs.declared.mounts.Mount.{Mount as Kept}
use Rattle.vt_location.specs.MountValue.{mount_of}

-- a choice with nothing in second place is the first
pub or_none : {A : Type 0} (o : Option A) → or_else o None ≡ o
or_none None = refl
or_none (Some a) = refl

-- an index is noted under a key
module _ {K : Type 0} (count : K → ℕ) (one : (a b : K) → count a ≡ count b → a ≡ b) where
  -- what is noted of a key is found at it, and what was noted of others stays
  pub noted : (before after : K → Option ℕ) (key : K) (index : ℕ)
      → ((q : K) → after q ≡ cond (nat_eq (count key) (count q)) (Some index) (before q)) → before key ≡ None
      → (q : K) → after q ≡ or_else (before q) (if nat_eq (count q) (count key) then Some index else None)
  noted before after key index updates none q = grind (arith, common_steps, eqb-true, eq-eqb, eqb-false, ne_eqb)

module _ {A : Type 0} (test : A → Bool) where
  index_from-last : (k : ℕ) (list : List A) (a : A) → index_from test k (list ++ a ∷ [])
      ≡ or_else (index_from test k list) (if test a then Some (k + length list) else None)
  index_from-last k [] a = by (test a)
    where
      by : (b : Bool) → (if b then Some k else None) ≡ (if b then Some (k + 0) else None)
      by true = ap Some (omega arith)
      by false = refl
  index_from-last k (first ∷ list) a = by (test first) (index_from-last (k + 1) list a)
    where
      later : (b : Bool) → (if b then Some ((k + 1) + length list) else None)
          ≡ (if b then Some (k + length (first ∷ list)) else None)
      later true = ap Some (omega arith)
      later false = refl

      by : (b : Bool) → index_from test (k + 1) (list ++ a ∷ [])
          ≡ or_else (index_from test (k + 1) list) (if test a then Some ((k + 1) + length list) else None)
          → (if b then Some k else index_from test (k + 1) (list ++ a ∷ []))
          ≡ or_else (if b then Some k else index_from test (k + 1) list)
          (if test a then Some (k + length (first ∷ list)) else None)
      by true rest = refl
      by false rest = rest ∙ ap (or_else (index_from test (k + 1) list)) (later (test a))

-- one more of the mounts
pub place_more : (test : Mount ℕ → Bool) (mounts : List Kept) (i : ℕ) (default : Kept) → i < length mounts
    → index_from test 0 (map mount_of (take (i + 1) mounts))
    ≡ or_else (index_from test 0 (map mount_of (take i mounts)))
    (if test (mount_of (get_or mounts i default)) then Some i else None)
place_more test mounts i default less = ap (λ l. index_from test 0 (map mount_of l)) (take_more mounts i default less)
    ∙ ap (index_from test 0) (map-append mount_of (take i mounts) (get_or mounts i default ∷ []))
    ∙ index_from-last test 0 (map mount_of (take i mounts)) (mount_of (get_or mounts i default))
    ∙ ap (λ n. or_else (index_from test 0 (map mount_of (take i mounts))) (if test (mount_of (get_or mounts i default))
    then Some n else None)) sized
  where
    sized : 0 + length (map mount_of (take i mounts)) ≡ i
    sized = omega (arith, length-map (take i mounts) mount_of, length-take-le i mounts (omega (arith, less)))

-- what is noted of one more mount
pub place_noted : (test : Mount ℕ → Bool) (mounts : List Kept) (i : ℕ) (default : Kept) → i < length mounts
    → {before after : Option ℕ} {b : Bool}
    → after ≡ or_else before (if b then Some i else None) → b ≡ test (mount_of (get_or mounts i default))
    → before ≡ index_from test 0 (map mount_of (take i mounts))
    → after ≡ index_from test 0 (map mount_of (take (i + 1) mounts))
place_noted test mounts i default less is tested sofar =
    is ∙ (λ j. or_else (sofar j) (if tested j then Some i else None)) ∙ sym (place_more test mounts i default less)

-- a place is found just where some element passes
pub is_some-place : {A : Type 0} (test : A → Bool) (k : ℕ) (list : List A)
    → is_some (index_from test k list) ≡ list_any test list
is_some-place test k [] = refl
is_some-place test k (a ∷ list) = by (test a) (is_some-place test (k + 1) list)
  where
    by : (b : Bool) → is_some (index_from test (k + 1) list) ≡ list_any test list
        → is_some (if b then Some k else index_from test (k + 1) list) ≡ (b || list_any test list)
    by true rest = refl
    by false rest = rest

below_length : (test : Mount ℕ → Bool) (k : ℕ) (list : List Kept) (i : ℕ)
    → index_from test k (map mount_of list) ≡ Some i → i < k + length list
below_length test k [] i e = absurd (true≢false (sym (ap is_some e)))
below_length test k (a ∷ list) i e = by (test (mount_of a)) e (below_length test (k + 1) list i)
  where
    by : (b : Bool) → (if b then Some k else index_from test (k + 1) (map mount_of list)) ≡ Some i
        → (index_from test (k + 1) (map mount_of list) ≡ Some i → i < (k + 1) + length list) → i < k + length (a ∷ list)
    by true same later = let at : k ≡ i = same_Some k i same in omega (arith, at)
    by false found later = let rest : i < (k + 1) + length list = later found in omega (arith, rest)

-- the place of a mount, or 0, is a place of the list
pub place_within : (test : Mount ℕ → Bool) (mounts : List Kept) (n : ℕ)
    → n ≡ unwrap_or (index_from test 0 (map mount_of mounts)) 0 → 0 < length mounts → n < length mounts
place_within test mounts n is some = by (index_from test 0 (map mount_of mounts)) (below_length test 0 mounts) is
  where
    by : (o : Option ℕ) → ((i : ℕ) → o ≡ Some i → i < 0 + length mounts) → n ≡ unwrap_or o 0 → n < length mounts
    by None within same = omega (arith, same, some)
    by (Some i) within same = let less : i < 0 + length mounts = within i refl in omega (arith, same, less)

-- the first that passes by what is seen of it stands where the first of those that are seen does
pub place_at : {A B : Type 0} (seen : A → B) (here : A → Bool) (test : B → Bool) → ((a : A) → here a ≡ test (seen a))
    → (k : ℕ) (list : List A) → position_from here k list ≡ index_from test k (map seen list)
place_at seen here test same k [] = refl
place_at seen here test same k (a ∷ list) = λ i. cond (same a i) (Some k) (place_at seen here test same (k + 1) list i)
