-- Births follow copies.
use Rattle.std.proofs.Common.{◌≡◌, ◌≢◌, ◌≤◌, refl, sym, ap, subst, ◌∙◌, true≢false, arith, ℕ, ◌+◌, nat_eq, eqb-true, Bool, true, false, cond, List, [], ◌∷◌, Option, Some, None, is_some}
use Rattle.std.specs.Prelude.{unwrap_or}
use Rattle.vt_spec.proofs.Common.{Fresh, Lower, Merge, Node, Real, Upper, copied_each, copied_up, copy_of, is_in_upper, line_to, nat_eq_itself, same_Some, upper_object, with_real}
use Rattle.vt_laws_upper_layers.specs.Births.{AreBirths, Births, birth_of, births_each, births_up, number_by, with_birth}

-- no inode has this upper object
abbrev pub IsUnused : (ℕ → Option (Real ℕ)) → ℕ → Type 0
IsUnused real copy = (number : ℕ) → real number ≢ Some (Upper copy)

-- what is born with one copy more
birth_by : (births : Births) (copy object upper : ℕ) (b : Bool) → nat_eq upper copy ≡ b
    → with_birth births copy object upper ≡ cond b (Some object) (births upper)
birth_by births copy object upper b e = ap (λ t. cond t (Some object) (births upper)) e

-- what has the real object after one copy
pub real_by : (real : ℕ → Option (Real ℕ)) (object copy number : ℕ) (b : Bool) → nat_eq number object ≡ b
    → with_real nat_eq real object (Upper copy) number ≡ cond b (Some (Upper copy)) (real number)
real_by real object copy number b e = ap (λ t. cond t (Some (Upper copy)) (real number)) e

pub same_upper : (a b : ℕ) (x : Option (Real ℕ)) → x ≡ Some (Upper a) → x ≡ Some (Upper b) → a ≡ b
same_upper a b x e f = same_Some a b (ap upper_object (sym e ∙ f))

module _ (born : Real ℕ → ℕ) where
  module _ (real : ℕ → Option (Real ℕ)) (births : Births) (object copy : ℕ) (spare : IsUnused real copy)
      (are : AreBirths born births real) where
    abbrev more : Births
    more = with_birth births copy object

    abbrev later : ℕ → Option (Real ℕ)
    later = with_real nat_eq real object (Upper copy)

    numbered_old : (number : ℕ) (r : Real ℕ) → real number ≡ Some r → number ≡ number_by born more r
    numbered_old number (Lower layer path) e = are.numbered number (Lower layer path) e
    numbered_old number (Upper u) e = by (nat_eq u copy) refl
      where
        by : (b : Bool) → nat_eq u copy ≡ b → number ≡ unwrap_or (more u) (born (Upper u))
        by true t = absurd (spare number (e ∙ ap (λ n. Some (Upper n)) (eqb-true u copy t)))
        by false t = are.numbered number (Upper u) e
            ∙ ap (λ o. unwrap_or o (born (Upper u))) (sym (birth_by births copy object u false t))

    numbered_new : (r : Real ℕ) → Some (Upper copy) ≡ Some r → object ≡ number_by born more r
    numbered_new r e = subst (λ x. object ≡ number_by born more x) (same_Some (Upper copy) r e)
        (ap (λ o. unwrap_or o (born (Upper copy)))
        (sym (birth_by births copy object copy true (nat_eq_itself copy))))

    numbered : (number : ℕ) (r : Real ℕ) → later number ≡ Some r → number ≡ number_by born more r
    numbered number r e = by (nat_eq number object) refl
      where
        by : (b : Bool) → nat_eq number object ≡ b → number ≡ number_by born more r
        by true t = eqb-true number object t ∙ numbered_new r (sym (real_by real object copy number true t) ∙ e)
        by false t = numbered_old number r (sym (real_by real object copy number false t) ∙ e)

    copies : ((u : ℕ) → real object ≢ Some (Upper u)) → (upper number : ℕ) → more upper ≡ Some number
        → later number ≡ Some (Upper upper)
    copies low upper number e = by (nat_eq upper copy) refl
      where
        old : births upper ≡ Some number → later number ≡ Some (Upper upper)
        old f = at (nat_eq number object) refl
          where
            at : (b : Bool) → nat_eq number object ≡ b → later number ≡ Some (Upper upper)
            at true t = absurd (low upper (ap real (sym (eqb-true number object t)) ∙ are.copies upper number f))
            at false t = real_by real object copy number false t ∙ are.copies upper number f

        by : (b : Bool) → nat_eq upper copy ≡ b → later number ≡ Some (Upper upper)
        by false t = old (sym (birth_by births copy object upper false t) ∙ e)
        by true t =
            let is : object ≡ number = same_Some object number
            (sym (birth_by births copy object upper true t) ∙ e) in
            ap later (sym is) ∙ real_by real object copy object true (nat_eq_itself object)
            ∙ ap (λ n. Some (Upper n)) (sym (eqb-true upper copy t))

  -- one of a list
  one_copied : (merge : Merge ℕ) (births : Births) (object copy : ℕ) (o : Option (Node ℕ)) (b : Bool)
      → is_in_upper merge object ≡ b → IsUnused merge.real copy → AreBirths born births merge.real
      → AreBirths born (birth_of births object copy o b) (copy_of nat_eq merge object copy o b).real
  one_copied merge births object copy None b is spare are = are
  one_copied merge births object copy (Some node) true is spare are = are
  one_copied merge births object copy (Some node) false is spare are = record {
    numbered = numbered merge.real births object copy spare are;
    copies = copies merge.real births object copy spare are
        (λ u e. true≢false (sym (ap (λ r. is_some (upper_object r)) e) ∙ is));
  }

-- a number that is no upper object stays so, unless it is handed in
kept_one : (merge : Merge ℕ) (object copy other : ℕ) (o : Option (Node ℕ)) (b : Bool) → other ≢ copy
    → IsUnused merge.real other → IsUnused (copy_of nat_eq merge object copy o b).real other
kept_one merge object copy other None b apart spare = spare
kept_one merge object copy other (Some node) true apart spare = spare
kept_one merge object copy other (Some node) false apart spare = λ number e. by number e (nat_eq number object) refl
  where
    by : (number : ℕ) → with_real nat_eq merge.real object (Upper copy) number ≡ Some (Upper other)
        → (t : Bool) → nat_eq number object ≡ t → ⊥
    by number e true t = apart (same_upper other copy _ e (real_by merge.real object copy number true t))
    by number e false t = spare number (sym (real_by merge.real object copy number false t) ∙ e)

pub kept_each : (fresh : Fresh ℕ) (other : ℕ) → ((j : ℕ) → other ≢ fresh j) → (list : List ℕ) (k : ℕ)
    (merge : Merge ℕ)
    → IsUnused merge.real other → IsUnused (copied_each nat_eq fresh k merge list).real other
kept_each fresh other apart [] k merge spare = spare
kept_each fresh other apart (object ∷ rest) k merge spare =
    kept_each fresh other apart rest (k + 1) _
    (kept_one merge object (fresh k) other (merge.files.tree.node object) (is_in_upper merge object) (apart k) spare)

module _ (born : Real ℕ → ℕ) (fresh : Fresh ℕ) (distinct : (j k : ℕ) → fresh j ≡ fresh k → j ≡ k) where
  each_copied : (list : List ℕ) (k : ℕ) (merge : Merge ℕ) (births : Births)
      → ((j : ℕ) → k ≤ j → IsUnused merge.real (fresh j)) → AreBirths born births merge.real
      → AreBirths born (births_each fresh k merge births list) (copied_each nat_eq fresh k merge list).real
  each_copied [] k merge births spare are = are
  each_copied (object ∷ rest) k merge births spare are =
      each_copied rest (k + 1) _ _
      (λ j more. kept_one merge object (fresh k) (fresh j) (merge.files.tree.node object) (is_in_upper merge object)
      (λ same. let is = distinct j k same in absurd (omega (arith, more, is)))
      (spare j (omega (arith, more))))
      (one_copied born merge births object (fresh k) (merge.files.tree.node object) (is_in_upper merge object) refl
      (spare k (omega arith)) are)

  pub up_copied : (merge : Merge ℕ) (births : Births) (object : ℕ) → ((k : ℕ) → IsUnused merge.real (fresh k))
      → AreBirths born births merge.real
      → AreBirths born (births_up fresh merge births object) (copied_up nat_eq fresh merge object).real
  up_copied merge births object spare are =
      each_copied (line_to nat_eq merge.files object) 0 merge births (λ j more number. spare j number) are
