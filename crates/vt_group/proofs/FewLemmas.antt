-- What is in a list, once one was put into it or taken out of it.
use Rattle.std.proofs.Common.{◌≡◌, ◌<◌, ◌+◌, ℕ, zero, suc, Bool, true, false, List, [], ◌∷◌, ◌++◌, ◌||◌, drop, get_or, length, remove, take, refl, sym, ap, ◌∙◌, arith, take-append-drop}
use Rattle.vt_spec.proofs.Common.{IsEquivalence, list_any, list_any-append}
use Rattle.std.proofs.Math.Seq.{drop-cons}

-- a list without the one at a place has the parts before it and behind it
parts_without : {T : Type 0} (list : List T) (i : ℕ) → i < length list
    → remove list i ≡ take i list ++ drop (suc i) list
parts_without [] i within = absurd (omega (arith, within))
parts_without (x ∷ list) zero within = refl
parts_without (x ∷ list) (suc i) within = ap (λ rest. x ∷ rest) (parts_without list i (omega (arith, within)))

pub remove_parts : {T : Type 0} (list : List T) (i : ℕ) → i < length list
    → remove list i ≡ take i list ++ drop (i + 1) list
remove_parts list i within =
    let next : suc i ≡ i + 1 = omega arith in
    parts_without list i within ∙ ap (λ n. take i list ++ drop n list) next

-- some pass a test in the parts of a list
any-parted : {T : Type 0} (test : T → Bool) (i : ℕ) (list : List T)
    → list_any test list ≡ (list_any test (take i list) || list_any test (drop i list))
any-parted test i list =
    ap (list_any test) (sym (take-append-drop i list)) ∙ list_any-append test (take i list) (drop i list)

module _ {T : Type 0} {eq : T → T → Bool} (laws : IsEquivalence eq) where
  -- one that was put in is there
  pub any-put : (one : T) (list : List T) (i : ℕ) → list_any (eq one) (take i list ++ one ∷ drop i list) ≡ true
  any-put one list i = list_any-append (eq one) (take i list) (one ∷ drop i list)
      ∙ ap (λ b. list_any (eq one) (take i list) || (b || list_any (eq one) (drop i list))) (laws.refl one)
      ∙ by (list_any (eq one) (take i list))
    where
      by : (a : Bool) → (a || true) ≡ true
      by true = refl
      by false = refl

  -- and what was there stays
  pub any-beside : (one other : T) (list : List T) (i : ℕ) → list_any (eq other) list ≡ true
      → list_any (eq other) (take i list ++ one ∷ drop i list) ≡ true
  any-beside one other list i there = list_any-append (eq other) (take i list) (one ∷ drop i list)
      ∙ by (list_any (eq other) (take i list)) (eq other one) (list_any (eq other) (drop i list))
      (sym (any-parted (eq other) i list) ∙ there)
    where
      by : (a b c : Bool) → (a || c) ≡ true → (a || (b || c)) ≡ true
      by true b c any = refl
      by false true c any = refl
      by false false c any = any

  -- the others stay where one is taken out
  pub any-left : (one other d : T) (list now : List T) (i : ℕ) → i < length list → eq (get_or list i d) one ≡ true
      → now ≡ take i list ++ drop (i + 1) list → eq one other ≡ false
      → list_any (eq other) list ≡ true → list_any (eq other) now ≡ true
  any-left one other d list now i within same left apart there =
      let next : suc i ≡ i + 1 = omega arith in
      ap (list_any (eq other)) left ∙ list_any-append (eq other) (take i list) (drop (i + 1) list)
      ∙ by (list_any (eq other) (take i list)) (eq other (get_or list i d)) (list_any (eq other) (drop (i + 1) list))
      (laws.symm other (get_or list i d) ∙ laws.congr (get_or list i d) one other same ∙ apart)
      (sym (any-parted (eq other) i list ∙ ap (λ l. list_any (eq other) (take i list) || list_any (eq other) l)
      (drop-cons list i d within ∙ ap (λ n. get_or list i d ∷ drop n list) next)) ∙ there)
    where
      by : (a b c : Bool) → b ≡ false → (a || (b || c)) ≡ true → (a || c) ≡ true
      by true b c none any = refl
      by false b c none any = ap (λ b. b || c) (sym none) ∙ any
