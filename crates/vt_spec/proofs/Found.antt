-- What is found in a list, and numbers among numbers.
use Rattle.std.proofs.Common.{Bool, List, None, Option, Some, [], ap, cond, eq-eqb, false, inl, inr, length, map, nat_eq, refl, suc, sym, true, true≢false, zero, ℕ, ◌++◌, ◌||◌, ◌∙◌, ◌∷◌, ◌≡◌, filter}
use Rattle.std.proofs.lemmas.Bool.{or_right}
use Rattle.std.proofs.lemmas.List.Folds.{list_any-append}
use Rattle.std.proofs.lemmas.Option.{same_Some}
use Rattle.std.specs.List.{find, list_any}
use Rattle.std.specs.Ordering.{eq_by_cmp}
use Rattle.vt_spec.proofs.Lists.{Among, chain_ends, chain_goes_on, filter_here}
use Rattle.vt_spec.proofs.Nodes.{none_is_not}
use Rattle.vt_spec.proofs.Options.{none_is_some}
use Rattle.vt_spec.specs.Lists.{chain, is_among}
use Rattle.vt_spec.specs.Machine.Mounts.{Mount}
use Rattle.vt_spec.specs.Tree.{Entries, entry_named, name_cmp}

-- a number among the first is among all
pub is_among_left : (x : ℕ) (xs ys : List ℕ) → is_among nat_eq x xs ≡ true → is_among nat_eq x (xs ++ ys) ≡ true
is_among_left x xs ys h = list_any-append (nat_eq x) xs ys ∙ ap (λ b. b || list_any (nat_eq x) ys) h

-- and one among the last
pub is_among_right : (x : ℕ) (xs ys : List ℕ) → is_among nat_eq x ys ≡ true → is_among nat_eq x (xs ++ ys) ≡ true
is_among_right x xs ys h = list_any-append (nat_eq x) xs ys
    ∙ or_right (list_any (nat_eq x) xs) (list_any (nat_eq x) ys) h

-- what is found is there
pub found_among : {A : Type 0} (test : A → Bool) (list : List A) (a : A) → find test list ≡ Some a → Among a list
found_among test [] a e = none_is_some a e
found_among test (first ∷ list) a e = by (test first) e (found_among test list a)
  where
    by : (b : Bool) → cond b (Some first) (find test list) ≡ Some a → (find test list ≡ Some a → Among a list)
        → Among a (first ∷ list)
    by true e rest = inl (sym (same_Some first a e))
    by false e rest = inr (rest e)

-- and passes
pub found_passes : {A : Type 0} (test : A → Bool) (list : List A) (a : A) → find test list ≡ Some a → test a ≡ true
found_passes {A = A} test [] a e = absurd (true≢false (sym (ap is_there e)))
  where
    is_there : Option A → Bool
    is_there None = false
    is_there (Some x) = true
found_passes {A = A} test (first ∷ rest) a e = by (test first) refl e (found_passes test rest a)
  where
    value : Option A → A
    value None = a
    value (Some x) = x

    by : (b : Bool) → test first ≡ b → cond b (Some first) (find test rest) ≡ Some a
        → (find test rest ≡ Some a → test a ≡ true) → test a ≡ true
    by true f g later = ap test (sym (ap value g)) ∙ f
    by false f g later = later g

-- a chain that begins with what passes
pub find-chain_start : (p : ℕ → Bool) (next : ℕ → Option ℕ) (n a : ℕ) → p a ≡ true → find p (chain n next a) ≡ Some a
find-chain_start p next zero a e = ap (λ b. cond b (Some a) None) e
find-chain_start p next (suc n) a e = by (next a) refl
  where
    by : (found : Option ℕ) → next a ≡ found → find p (chain (suc n) next a) ≡ Some a
    by None f = ap (find p) (chain_ends next n a f) ∙ ap (λ b. cond b (Some a) None) e
    by (Some above) f = ap (find p) (chain_goes_on next n a above f)
        ∙ ap (λ b. cond b (Some a) (find p (chain n next above))) e

-- a list with something in it is not empty
pub length_from_among : (mounts : List (Mount ℕ)) (x : Mount ℕ) → Among x mounts → (n : ℕ) × (length mounts ≡ suc n)
length_from_among [] x m = absurd m
length_from_among (y ∷ ys) x m = (length ys, refl)

-- where a name leads is among where the entries lead
pub among_targets : (name : List ℕ) (entries : Entries ℕ) (number : ℕ) → entry_named name entries ≡ Some number
    → is_among nat_eq number (map (λ e. e.1) entries) ≡ true
among_targets name [] number e = none_is_not None number refl e
among_targets name (entry ∷ entries) number e =
    by (eq_by_cmp name_cmp name entry.0) (among_targets name entries number) e
  where
    by : (b : Bool) → (entry_named name entries ≡ Some number → is_among nat_eq number (map (λ e. e.1) entries) ≡ true)
        → cond b (Some entry.1) (entry_named name entries) ≡ Some number
        → (nat_eq number entry.1 || is_among nat_eq number (map (λ e. e.1) entries)) ≡ true
    by true rest is = ap (λ b. b || is_among nat_eq number (map (λ e. e.1) entries))
        (eq-eqb number entry.1 (sym (same_Some entry.1 number is)))
    by false rest is = or_right (nat_eq number entry.1) _ (rest is)

-- a filter that all pass takes nothing
pub filter_all : {A : Type 0} (p : A → Bool) (xs : List A) → ((x : A) → Among x xs → p x ≡ true) → filter p xs ≡ xs
filter_all p [] all = refl
filter_all p (y ∷ ys) all =
    filter_here p y ys (all y (inl refl)) ∙ ap (λ l. y ∷ l) (filter_all p ys (λ x m. all x (inr m)))

-- two tests that agree on a list keep the same of it
pub filter_alike : {A : Type 0} (p q : A → Bool) (xs : List A) → ((x : A) → Among x xs → p x ≡ q x)
    → filter p xs ≡ filter q xs
filter_alike p q [] same = refl
filter_alike p q (y ∷ ys) same = ap (λ b. cond b (y ∷ filter p ys) (filter p ys)) (same y (inl refl))
    ∙ ap (λ l. cond (q y) (y ∷ l) l) (filter_alike p q ys (λ x m. same x (inr m)))
