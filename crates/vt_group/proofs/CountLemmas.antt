-- Entries by counts, as contracts see them by numbers.
use Rattle.std.proofs.Common.{◌≡◌, ℕ, Bool, true, false, cond, List, [], ◌∷◌, map, nat_eq, nat_lt, Option, Some, None, option_map, refl, sym, ap, subst, ◌∙◌, arith, ne_eqb, ltb-true, filter_map, is_eq, nat_cmp, Ordering, Less, Equal, Greater}
use Rattle.vt_spec.proofs.Common.{cons_option, insert_entry, lookup, match_ordering, remove_entry}
use Rattle.std.specs.BTreeMap.{is_at}
use Rattle.std.specs.Map.Calls.{RetainsPairs}
use Rattle.vt_location.specs.Numbers.{counted}
use Rattle.vt_location.proofs.NumberLemmas.{counted_test, counted_less}

-- numbers of counts are ordered as the counts are
pub cmp_count : (a b : ℕ) → nat_cmp (counted a) (counted b) ≡ nat_cmp a b
cmp_count a b = rw (counted_less a b, counted_test a b)

-- an order that finds a count finds its number
pub at_count : (a b : ℕ) → is_at (nat_cmp a) b ≡ nat_eq (counted a) (counted b)
at_count a b = tied (nat_lt a b) (nat_eq a b) (λ e. ne_eqb a b (λ same. omega (arith, ltb-true a b e, same)))
    ∙ sym (counted_test a b)
  where
    tied : (less same : Bool) → (less ≡ true → same ≡ false) → is_eq (cond less Less (cond same Equal Greater)) ≡ same
    tied true true apart = sym (apart refl)
    tied true false apart = refl
    tied false true apart = refl
    tied false false apart = refl

module _ {V W : Type 0} (f : V → W) where
  -- an entry of a map by the number of its count, with what its value means
  abbrev pub numbered : ℕ × V → ℕ × W
  numbered entry = (counted entry.0, f entry.1)

  -- what a map has at a count is what its entries have at the number
  pub lookup-numbered : (count : ℕ) (es : List (ℕ × V))
      → lookup (nat_eq (counted count)) (map numbered es) ≡ option_map f (lookup (is_at (nat_cmp count)) es)
  lookup-numbered count [] = refl
  lookup-numbered count (e ∷ es) =
      ap (λ b. cond b (Some (f e.1)) (lookup (nat_eq (counted count)) (map numbered es))) (sym (at_count count e.0))
      ∙ by (is_at (nat_cmp count) e.0) (lookup-numbered count es)
    where
      by : (b : Bool) → lookup (nat_eq (counted count)) (map numbered es)
          ≡ option_map f (lookup (is_at (nat_cmp count)) es)
          → cond b (Some (f e.1)) (lookup (nat_eq (counted count)) (map numbered es))
          ≡ option_map f (cond b (Some e.1) (lookup (is_at (nat_cmp count)) es))
      by true rest = refl
      by false rest = rest

  -- an entry that is put in is put in among the numbers
  pub inserted-numbered : (count : ℕ) (v : V) (es : List (ℕ × V))
      → map numbered (insert_entry nat_cmp es count v) ≡ insert_entry nat_cmp (map numbered es) (counted count) (f v)
  inserted-numbered count v [] = refl
  inserted-numbered count v (e ∷ es) = by (nat_cmp count e.0) (inserted-numbered count v es)
      ∙ ap (λ o. match_ordering o (numbered (count, v) ∷ map numbered (e ∷ es)) ((counted e.0, f v) ∷ map numbered es)
      (numbered e ∷ insert_entry nat_cmp (map numbered es) (counted count) (f v))) (sym (cmp_count count e.0))
    where
      by : (o : Ordering) → map numbered (insert_entry nat_cmp es count v)
          ≡ insert_entry nat_cmp (map numbered es) (counted count) (f v)
          → map numbered (match_ordering o ((count, v) ∷ e ∷ es) ((e.0, v) ∷ es) (e ∷ insert_entry nat_cmp es count v))
          ≡ match_ordering o (numbered (count, v) ∷ map numbered (e ∷ es)) ((counted e.0, f v) ∷ map numbered es)
          (numbered e ∷ insert_entry nat_cmp (map numbered es) (counted count) (f v))
      by Less rest = refl
      by Equal rest = refl
      by Greater rest = ap (λ l. numbered e ∷ l) rest

  -- and one that is removed is removed there
  pub removed-numbered : (count : ℕ) (es : List (ℕ × V))
      → map numbered (remove_entry (is_at (nat_cmp count)) es) ≡ remove_entry (nat_eq (counted count)) (map numbered es)
  removed-numbered count [] = refl
  removed-numbered count (e ∷ es) = by (is_at (nat_cmp count) e.0) (removed-numbered count es)
      ∙ ap (λ b. cond b (map numbered es) (numbered e ∷ remove_entry (nat_eq (counted count)) (map numbered es)))
      (at_count count e.0)
    where
      by : (b : Bool) → map numbered (remove_entry (is_at (nat_cmp count)) es)
          ≡ remove_entry (nat_eq (counted count)) (map numbered es)
          → map numbered (cond b es (e ∷ remove_entry (is_at (nat_cmp count)) es))
          ≡ cond b (map numbered es) (numbered e ∷ remove_entry (nat_eq (counted count)) (map numbered es))
      by true rest = refl
      by false rest = ap (λ l. numbered e ∷ l) rest

  -- what is left of each entry by a test that changes it
  pub kept-numbered : {F : Type 0} (T : F → ℕ → V → Bool → V → F → Type 0) (g : ℕ → W → Option W) (test : F)
      → ((k : ℕ) (v : V) (b : Bool) (w : V) (test' : F) → T test k v b w test'
      → (cond b (Some (f w)) None ≡ g (counted k) (f v)) × (test' ≡ test))
      → (es kept : List (ℕ × V)) → RetainsPairs T test es kept
      → map numbered kept ≡ filter_map (λ entry. option_map (λ x. (entry.0, x)) (g entry.0 entry.1)) (map numbered es)
  kept-numbered T g test says [] kept r = ap (map numbered) r
  kept-numbered T g test says (e ∷ es) kept r =
      let told = says e.0 e.1 r.0 r.1 r.2 r.4 in
      let rest = kept-numbered T g test says es r.3 (subst (λ u. RetainsPairs T u es r.3) told.1 r.5) in
      ap (map numbered) r.6 ∙ by r.0 rest ∙ ap (λ o. cons_option (option_map (λ x. (counted e.0, x)) o)
      (filter_map (λ entry. option_map (λ x. (entry.0, x)) (g entry.0 entry.1)) (map numbered es))) told.0
    where
      by : (b : Bool) → map numbered r.3
          ≡ filter_map (λ entry. option_map (λ x. (entry.0, x)) (g entry.0 entry.1)) (map numbered es)
          → map numbered (cond b ((e.0, r.1) ∷ r.3) r.3)
          ≡ cons_option (option_map (λ x. (counted e.0, x)) (cond b (Some (f r.1)) None))
          (filter_map (λ entry. option_map (λ x. (entry.0, x)) (g entry.0 entry.1)) (map numbered es))
      by true rest = ap (λ l. numbered (e.0, r.1) ∷ l) rest
      by false rest = rest
