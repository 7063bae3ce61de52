-- What is listed once the list under one key changed.
use Rattle.std.proofs.Common.{◌≡◌, ◌<◌, ℕ, zero, suc, Bool, true, false, cond, List, [], ◌∷◌, get_or, length, nat_eq, Option, None, Some, option_map, refl, sym, ap, ◌∙◌, arith, eqb-true, position, slice_get, IfSome, if◌then◌else◌, unwrap_or}
use Rattle.vt_spec.proofs.Common.{IsEquivalence, keys_of, lookup}
use Rattle.indexmap.specs.IndexMap.{set_value_at}
use Rattle.indexmap.proofs.MapLemmas.{Found-position, index-first}
use Rattle.indexmap.proofs.RemoveLemmas.{own_first}
use Rattle.std.specs.List.{IsDistinct}
use Rattle.std.specs.Map.{values_of}
use Rattle.std.proofs.lemmas.List.Quantifiers.{position-Some}
use Rattle.std.specs.declared.cmp.PartialEq as equal
use Rattle.vt_mount.specs.declared.ascending.Ordered as ordered
use Rattle.vt_mount.specs.declared.ascending.Ascending.{Ascending}
use Rattle.vt_mount.specs.Rising.{held}

-- what is in a list, if there is one
abbrev pub list_under : {T : Type 0} {o : ordered.Ghosts T} {e : equal.Ghosts T} → Option (Ascending T o e) → List T
list_under found = unwrap_or (option_map (λ list. held list.one list.many) found) []

-- an entry that is dropped is not found
pub dropped_list : {A : Type 0} (b : Bool) (now rest : Option A) → cond b None (cond b now rest) ≡ cond b None rest
dropped_list true now rest = refl
dropped_list false now rest = refl

-- what is listed under a key, where a new empty list stands for none
pub listed_or : {T : Type 0} {o : ordered.Ghosts T} {e : equal.Ghosts T} (found : Option (Ascending T o e))
    (fresh list : Ascending T o e) → held fresh.one fresh.many ≡ []
    → list ≡ unwrap_or found fresh → list_under found ≡ held list.one list.many
listed_or None fresh list none is = sym none ∙ ap (λ list. held list.one list.many) (sym is)
listed_or (Some was) fresh list none is = ap (λ list. held list.one list.many) (sym is)

pub on-some : {A : Type 0} {P Q : A → Type 0} (o : Option A) → IfSome o P → ((a : A) → P a → Q a) → IfSome o Q
on-some None p more = tt
on-some (Some a) p more = more a p

-- an empty list
pub no_mounts : {T : Type 0} (ids : List T) → nat_eq (length ids) 0 ≡ true → ids ≡ []
no_mounts [] none = refl
no_mounts (id ∷ ids) none = absurd (omega (arith, eqb-true (length (id ∷ ids)) 0 none))

module _ {K T : Type 0} {o : ordered.Ghosts T} {e : equal.Ghosts T} {eq : K → K → Bool}
    (laws : IsEquivalence eq) (es new : List (K × Ascending T o e)) (key : K)
    (was : List T) (found : list_under (lookup (eq key) es) ≡ was) (now : Option (Ascending T o e))
    (writes : (q : K) → lookup (eq q) new ≡ cond (eq key q) now (lookup (eq q) es)) where
  -- what is listed under the key changed, and nothing else
  pub listed_changed : (change : List T → List T) → list_under now ≡ change was
      → (q : K) → list_under (lookup (eq q) new)
      ≡ (if eq q key then change (list_under (lookup (eq q) es)) else list_under (lookup (eq q) es))
  listed_changed change is q = ap list_under (writes q) ∙ by (eq key q) refl
      ∙ ap (λ b. if b then change (list_under (lookup (eq q) es)) else list_under (lookup (eq q) es)) (laws.symm key q)
    where
      by : (b : Bool) → eq key q ≡ b → list_under (cond b now (lookup (eq q) es))
          ≡ (if b then change (list_under (lookup (eq q) es)) else list_under (lookup (eq q) es))
      by true same = is ∙ ap change (sym found ∙ (λ i. list_under (lookup (λ z. laws.congr key q z same i) es)))
      by false apart = refl

  -- nor does it, where what is listed stays
  pub listed_kept : list_under now ≡ was → (q : K) → list_under (lookup (eq q) new) ≡ list_under (lookup (eq q) es)
  listed_kept is q = ap list_under (writes q) ∙ by (eq key q) refl
    where
      by : (b : Bool) → eq key q ≡ b → list_under (cond b now (lookup (eq q) es)) ≡ list_under (lookup (eq q) es)
      by true same = is ∙ sym found ∙ (λ i. list_under (lookup (λ z. laws.congr key q z same i) es))
      by false apart = refl

-- the same where there is a list under the key
module _ {K T : Type 0} {o : ordered.Ghosts T} {e : equal.Ghosts T} {eq : K → K → Bool}
    (laws : IsEquivalence eq) (es new : List (K × Ascending T o e)) (key : K)
    (was : Ascending T o e) (found : lookup (eq key) es ≡ Some was) (now : Option (Ascending T o e))
    (writes : (q : K) → lookup (eq q) new ≡ cond (eq key q) now (lookup (eq q) es)) where
  pub list_changed : (change : List T → List T) → list_under now ≡ change (held was.one was.many)
      → (q : K) → list_under (lookup (eq q) new)
      ≡ (if eq q key then change (list_under (lookup (eq q) es)) else list_under (lookup (eq q) es))
  list_changed change is q = listed_changed laws es new key _ (ap list_under found) now writes change is q

  pub list_kept : list_under now ≡ held was.one was.many
      → (q : K) → list_under (lookup (eq q) new) ≡ list_under (lookup (eq q) es)
  list_kept is q = listed_kept laws es new key _ (ap list_under found) now writes is q

-- What is found under keys, once the list at the place of one changed

module _ {K T : Type 0} {o : ordered.Ghosts T} {e : equal.Ghosts T} {eq : K → K → Bool} (laws : IsEquivalence eq) (key : K) where
  found-set : (es : List (K × Ascending T o e)) (i : ℕ) (now : Ascending T o e) → i < length (keys_of es)
      → ((d : K) → eq key (get_or (keys_of es) i d) ≡ true)
      → ((k : ℕ) (d : K) → k < i → eq key (get_or (keys_of es) k d) ≡ false)
      → (q : K) → lookup (eq q) (set_value_at es i now) ≡ cond (eq key q) (Some now) (lookup (eq q) es)
  found-set [] i now within at before q = absurd (omega (arith, within))
  found-set (e ∷ es) zero now within at before q = by (eq q e.0)
      ∙ ap (λ b. cond b (Some now) (cond (eq q e.0) (Some e.1) (lookup (eq q) es)))
      (sym (laws.congr key e.0 q (at e.0) ∙ laws.symm e.0 q))
    where
      by : (b : Bool) → cond b (Some now) (lookup (eq q) es) ≡ cond b (Some now) (cond b (Some e.1) (lookup (eq q) es))
      by true = refl
      by false = refl
  found-set (e ∷ es) (suc i) now within at before q = ap (cond (eq q e.0) (Some e.1))
      (found-set es i now (omega (arith, within)) at (λ k d less. before (suc k) d (omega (arith, less))) q)
      ∙ by (eq key q) refl
    where
      by : (b : Bool) → eq key q ≡ b → cond (eq q e.0) (Some e.1) (cond b (Some now) (lookup (eq q) es))
          ≡ cond b (Some now) (cond (eq q e.0) (Some e.1) (lookup (eq q) es))
      by true same =
          ap (λ a. cond a (Some e.1) (Some now)) (sym (laws.congr key q e.0 same) ∙ before 0 e.0 (omega arith))
      by false apart = refl

  -- where the place is that of the key
  pub found-set_there : (es : List (K × Ascending T o e)) (i : ℕ) (now : Ascending T o e) → position (eq key) (keys_of es) ≡ Some i
      → (q : K) → lookup (eq q) (set_value_at es i now) ≡ cond (eq key q) (Some now) (lookup (eq q) es)
  found-set_there es i now there q =
      let at = λ (d : K). position-Some (eq key) (keys_of es) i d there in
      found-set es i now (at q).0 (λ d. (at d).1) (λ k d less. (at d).2 k less) q

  key-there : (es : List (K × Ascending T o e)) (i : ℕ) (one : K × Ascending T o e) (d : K) → slice_get es i ≡ Some one
      → get_or (keys_of es) i d ≡ one.0
  key-there [] i one d is = absurd cc
  key-there (e ∷ es) zero one d is =
      let here : e ≡ one = cc in
      ap (λ e. e.0) here
  key-there (e ∷ es) (suc i) one d is = key-there es i one d is

  keys-set : (es : List (K × Ascending T o e)) (i : ℕ) (now : Ascending T o e) → keys_of (set_value_at es i now) ≡ keys_of es
  keys-set [] i now = refl
  keys-set (e ∷ es) zero now = refl
  keys-set (e ∷ es) (suc i) now = ap (λ rest. e.0 ∷ rest) (keys-set es i now)

  value-there : (es : List (K × Ascending T o e)) (i : ℕ) (now : Ascending T o e) {P : Type 0} → i < length (keys_of es)
      → None ≡ slice_get (set_value_at es i now) i → P
  value-there [] i now within none = absurd (omega (arith, within))
  value-there (e ∷ es) zero now within none = absurd cc
  value-there (e ∷ es) (suc i) now within none = value-there es i now (omega (arith, within)) none

  -- and once the entry there is taken out
  pub found-dropped : (es left : List (K × Ascending T o e)) (i : ℕ) (now : Ascending T o e)
      → position (eq key) (keys_of es) ≡ Some i
      → (gone : Option (K × Ascending T o e)) → gone ≡ slice_get (set_value_at es i now) i
      → IfSome gone (λ one. (q : K) → lookup (eq q) left
      ≡ cond (eq one.0 q) None (lookup (eq q) (set_value_at es i now)))
      → (q : K) → lookup (eq q) left ≡ cond (eq key q) None (lookup (eq q) es)
  found-dropped es left i now there None is drops q =
      value-there es i now (position-Some (eq key) (keys_of es) i q there).0 is
  found-dropped es left i now there (Some one) is drops q =
      let its : get_or (keys_of es) i q ≡ one.0 =
      ap (λ keys. get_or keys i q) (sym (keys-set es i now)) ∙ key-there (set_value_at es i now) i one q (sym is) in
      let same : eq key one.0 ≡ true = ap (eq key) (sym its) ∙ (position-Some (eq key) (keys_of es) i q there).1 in
      drops q ∙ ap (λ b. cond b None (lookup (eq q) (set_value_at es i now))) (sym (laws.congr key one.0 q same))
      ∙ ap (cond (eq key q) None) (found-set_there es i now there q)
      ∙ dropped_list (eq key q) (Some now) (lookup (eq q) es)

  -- the place of an entry with an equal key is that of the key
  pub place-own : (es : List (K × Ascending T o e)) (i : ℕ) (one : K × Ascending T o e) → IsDistinct eq (keys_of es)
      → Some one ≡ slice_get es i → eq key one.0 ≡ true → position (eq key) (keys_of es) ≡ Some i
  place-own es i one distinct at same =
      (λ j. position (λ q. laws.congr key one.0 q same j) (keys_of es))
      ∙ index-first (eq one.0) es i (own_first eq laws es i one.0 one.1 distinct (sym at))

  -- what is found under the key at a place
  pub found-there : (es : List (K × Ascending T o e)) (i : ℕ) → position (eq key) (keys_of es) ≡ Some i
      → lookup (eq key) es ≡ slice_get (values_of es) i
  found-there es i there = (Found-position (eq key) es i there).value
