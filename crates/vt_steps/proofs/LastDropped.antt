-- A list without its last item.
use Rattle.std.proofs.Common.{◌≡◌, refl, sym, ap, ◌∙◌, ℕ, zero, suc, ◌+◌, ◌-◌, ◌==◌, Bool, true, false, cond, ◌&&◌, List, [], ◌∷◌, length, map, take, None, Some, Option, option_map, slice_get, arith, add-one}
use Rattle.std.proofs.Math.Dec.{eqb-suc-suc, eqb-suc-zero, eqb-zero-suc}
use Rattle.vt_spec.proofs.Common.{length-map, slice_get-map}

module _ {A : Type 0} where
  none_either : (gone : Bool) → None ≡ cond gone None (slice_get {X = A} [] 0)
  none_either true = refl
  none_either false = refl

  but_the_last : (a : A) (list : List A) (place : ℕ) → slice_get (take (length list) (a ∷ list)) place
      ≡ cond (length list == place) None (slice_get (a ∷ list) place)
  but_the_last a [] zero = refl
  but_the_last a [] (suc place) = sym (ap (λ t. cond t None (slice_get (a ∷ []) (suc place))) (eqb-zero-suc place))
  but_the_last a (b ∷ list) zero = sym (ap (λ t. cond t None (Some a)) (eqb-suc-zero (length list)))
  but_the_last a (b ∷ list) (suc place) = but_the_last b list place
      ∙ sym (ap (λ t. cond t None (slice_get (b ∷ list) place)) (eqb-suc-suc (length list) place))

  without_last : (list : List A) (place : ℕ) → slice_get (take (length list - 1) list) place
      ≡ cond (length list == place + 1) None (slice_get list place)
  without_last [] place = none_either (0 == place + 1)
  without_last (a ∷ list) place =
      let count : length (a ∷ list) - 1 ≡ length list = omega arith in
      ap (λ n. slice_get (take n (a ∷ list)) place) count ∙ but_the_last a list place
      ∙ sym (ap (λ t. cond t None (slice_get (a ∷ list) place)) (eqb-suc-suc (length list) place))
      ∙ sym (ap (λ n. cond (length (a ∷ list) == n) None (slice_get (a ∷ list) place)) (add-one place))

module _ {A B : Type 0} (meaning : A → B) where
  none_so : (gone : Bool) (found : Option A) → option_map meaning (cond gone None found)
      ≡ cond gone None (option_map meaning found)
  none_so true found = refl
  none_so false found = refl

  -- what items mean, but for the last one
  pub last_dropped : (list left : List A) (fails : Bool) → fails ≡ true → left ≡ take (length list - 1) list
      → (place : ℕ) → slice_get (map meaning left) place
      ≡ cond (fails && length (map meaning list) == place + 1) None (slice_get (map meaning list) place)
  last_dropped list left fails e is place =
      ap (λ l. slice_get (map meaning l) place) is
      ∙ slice_get-map meaning (take (length list - 1) list) place
      ∙ ap (option_map meaning) (without_last list place)
      ∙ none_so (length list == place + 1) (slice_get list place)
      ∙ ap (λ n. cond (n == place + 1) None (option_map meaning (slice_get list place))) (sym (length-map list meaning))
      ∙ ap (λ o. cond (length (map meaning list) == place + 1) None o) (sym (slice_get-map meaning list place))
      ∙ ap (λ b. cond (b && length (map meaning list) == place + 1) None (slice_get (map meaning list) place)) (sym e)
