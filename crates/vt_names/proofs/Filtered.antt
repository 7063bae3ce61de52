-- Filters as what removes and promotes the pair of a key, and what they leave to be found.
use Rattle.std.proofs.Common.{Bool, Contains, List, None, Option, Some, [], ap, cond, false, filter, inl, inr, length, map, not, refl, subst, sym, true, true≢false, ◌+◌, ◌++◌, ◌∙◌, ◌∷◌, ◌≡◌, arith}
use Rattle.std.specs.Cmp.{IsEquivalence}
use Rattle.std.specs.List.{IsDistinct, find}
use Rattle.std.specs.Map.{keys_of, lookup_entry, remove_entry}
use Rattle.std.specs.Option.{option_map_or}
use Rattle.std.proofs.lemmas.Map.{NonePasses}
use Rattle.std.proofs.lemmas.Map.Entries.{none_past_head}
use Rattle.std.proofs.lemmas.Map.Keys.{IsDistinct-tail}
use Rattle.lru.specs.LruCache.{promoted}
use Rattle.lru.proofs.Splits.{Contains-cons, Contains-head, Contains-nil, Contains-tail}
use Rattle.vt_spec.proofs.Common.{common_steps}

module _ {A : Type 0} where
  -- what a filter leaves was there
  pub Contains-filter : (p : A → Bool) (xs : List A) (x : A) → Contains (filter p xs) x → Contains xs x
  Contains-filter p [] x there = there
  Contains-filter p (y ∷ ys) x there = by (p y) there (Contains-filter p ys x)
    where
      by : (b : Bool) → Contains (cond b (y ∷ filter p ys) (filter p ys)) x → (Contains (filter p ys) x → Contains ys x)
          → Contains (y ∷ ys) x
      by true is rest = elim (Contains-cons y (filter p ys) x is) [
        | inl same ↦ subst (Contains (y ∷ ys)) same (Contains-head y ys)
        | inr on ↦ Contains-tail y ys x (rest on)
      ]
      by false is rest = Contains-tail y ys x (rest is)

  -- and passes
  pub passes-filter : (p : A → Bool) (xs : List A) (x : A) → Contains (filter p xs) x → p x ≡ true
  passes-filter p [] x there = absurd (Contains-nil x there)
  passes-filter p (y ∷ ys) x there = by (p y) refl there (passes-filter p ys x)
    where
      by : (b : Bool) → p y ≡ b → Contains (cond b (y ∷ filter p ys) (filter p ys)) x
          → (Contains (filter p ys) x → p x ≡ true) → p x ≡ true
      by true passes is rest = elim (Contains-cons y (filter p ys) x is) [
        | inl same ↦ ap p (sym same) ∙ passes
        | inr on ↦ rest on
      ]
      by false _ is rest = rest is

  -- a filter that passes all that a search does, or nothing of it
  pub find-filter : (t q : A → Bool) (b : Bool) (xs : List A) → ((x : A) → t x ≡ true → q x ≡ b)
      → find t (filter q xs) ≡ cond b (find t xs) None
  find-filter t q true [] alike = refl
  find-filter t q false [] alike = refl
  find-filter t q b (x ∷ xs) alike = grind (arith, common_steps, alike x, find-filter t q b xs alike)

-- a filter of what is read of elements
pub filter-map : {X Y : Type 0} (f : X → Y) (p : X → Bool) (q : Y → Bool) (xs : List X)
    → ((x : X) → Contains xs x → q (f x) ≡ p x) → filter q (map f xs) ≡ map f (filter p xs)
filter-map f p q [] alike = refl
filter-map f p q (x ∷ xs) alike = by (q (f x)) (p x) (alike x (Contains-head x xs))
    (filter-map f p q xs (λ y there. alike y (Contains-tail x xs y there)))
  where
    by : (a b : Bool) → a ≡ b → filter q (map f xs) ≡ map f (filter p xs)
        → cond a (f x ∷ filter q (map f xs)) (filter q (map f xs)) ≡ map f (cond b (x ∷ filter p xs) (filter p xs))
    by true true same rest = ap (λ l. f x ∷ l) rest
    by true false same rest = absurd (true≢false same)
    by false true same rest = absurd (true≢false (sym same))
    by false false same rest = rest

-- The pair of a key, where no two keys are equal

module _ {K V : Type 0} {eq : K → K → Bool} (laws : IsEquivalence eq) (k : K) where
  -- it, if it is there
  abbrev pub of_key : List (K × V) → List (K × V)
  of_key es = filter (λ e. eq k e.0) es

  -- and all others
  abbrev pub of_others : List (K × V) → List (K × V)
  of_others es = filter (λ e. not (eq k e.0)) es

  none_of_key : (es : List (K × V)) → NonePasses (eq k) es → of_key es ≡ []
  none_of_key [] none = refl
  none_of_key (e ∷ es) none = ap (λ b. cond b (e ∷ of_key es) (of_key es)) none.0 ∙ none_of_key es none.1

  all_others : (es : List (K × V)) → NonePasses (eq k) es → of_others es ≡ es
  all_others [] none = refl
  all_others (e ∷ es) none =
      ap (λ b. cond (not b) (e ∷ of_others es) (of_others es)) none.0 ∙ ap (λ l. e ∷ l) (all_others es none.1)

  pub others-removed : (es : List (K × V)) → IsDistinct eq (keys_of es) → of_others es ≡ remove_entry (eq k) es
  others-removed [] distinct = refl
  others-removed (e ∷ es) distinct =
      by (eq k e.0) refl (others-removed es (IsDistinct-tail eq e.0 (keys_of es) distinct))
    where
      by : (b : Bool) → eq k e.0 ≡ b → of_others es ≡ remove_entry (eq k) es
          → cond (not b) (e ∷ of_others es) (of_others es) ≡ cond b es (e ∷ remove_entry (eq k) es)
      by true is rest = all_others es (none_past_head laws k e es distinct is)
      by false is rest = ap (λ l. e ∷ l) rest

  of_key-found : (es : List (K × V)) → IsDistinct eq (keys_of es)
      → of_key es ≡ option_map_or (λ e. e ∷ []) (lookup_entry (eq k) es) []
  of_key-found [] distinct = refl
  of_key-found (e ∷ es) distinct =
      by (eq k e.0) refl (of_key-found es (IsDistinct-tail eq e.0 (keys_of es) distinct))
    where
      by : (b : Bool) → eq k e.0 ≡ b → of_key es ≡ option_map_or (λ e. e ∷ []) (lookup_entry (eq k) es) []
          → cond b (e ∷ of_key es) (of_key es)
          ≡ option_map_or (λ e. e ∷ []) (cond b (Some e) (lookup_entry (eq k) es)) []
      by true is rest = ap (λ l. e ∷ l) (none_of_key es (none_past_head laws k e es distinct is))
      by false is rest = rest

  pub nothing_removed : (es : List (K × V)) → lookup_entry (eq k) es ≡ None → remove_entry (eq k) es ≡ es
  nothing_removed [] none = refl
  nothing_removed (e ∷ es) none = by (eq k e.0) none (nothing_removed es)
    where
      by : (b : Bool) → cond b (Some e) (lookup_entry (eq k) es) ≡ None
          → (lookup_entry (eq k) es ≡ None → remove_entry (eq k) es ≡ es)
          → cond b es (e ∷ remove_entry (eq k) es) ≡ e ∷ es
      by true is rest = cc
      by false is rest = ap (λ l. e ∷ l) (rest is)

  pub one_removed : (es : List (K × V)) (e : K × V) → lookup_entry (eq k) es ≡ Some e
      → length (remove_entry (eq k) es) + 1 ≡ length es
  one_removed [] e there = cc
  one_removed (f ∷ es) e there = by (eq k f.0) there (one_removed es e)
    where
      by : (b : Bool) → cond b (Some f) (lookup_entry (eq k) es) ≡ Some e
          → (lookup_entry (eq k) es ≡ Some e → length (remove_entry (eq k) es) + 1 ≡ length es)
          → length (cond b es (f ∷ remove_entry (eq k) es)) + 1 ≡ length (f ∷ es)
      by true is rest = omega arith
      by false is rest = let one = rest is in omega (arith, one)

  pub promoted-first : (es : List (K × V)) → IsDistinct eq (keys_of es)
      → promoted (eq k) es ≡ of_key es ++ of_others es
  promoted-first es distinct = by (lookup_entry (eq k) es) refl
      ∙ (λ i. sym (of_key-found es distinct) i ++ sym (others-removed es distinct) i)
    where
      by : (found : Option (K × V)) → lookup_entry (eq k) es ≡ found
          → option_map_or (λ e. e ∷ remove_entry (eq k) es) found es
          ≡ option_map_or (λ e. e ∷ []) found [] ++ remove_entry (eq k) es
      by None is = sym (nothing_removed es is)
      by (Some e) is = refl
