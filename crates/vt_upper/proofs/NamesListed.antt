-- The entries of a directory one after the other, in the lists that a plan keeps of them.
use Rattle.std.proofs.Common.{◌≡◌, ◌∙◌, ◌+◌, ◌<◌, ◌++◌, ◌∷◌, [], All, ap, arith, drop, get_or, length, length-append, List, map, refl, Some, subst, sym, take, true, ℕ}
use Rattle.std.proofs.lemmas.List.{drop_more, get_or-map, get_or_append_left, get_or_push, take-append-drop, take_more}
use Rattle.std.proofs.lemmas.List.Elements.{All-get_or}
use Rattle.vt_spec.proofs.Common.{Entries, entry_named, is_sorted, length-map, name_cmp}
use Rattle.vt_upper.proofs.RowsEmptied.{named_in}

-- two lists that are seen alike: as long, and alike at each place
pub as_long : {A B C : Type 0} (look : A → C) (see : B → C) (xs : List A) (ys : List B) → map look xs ≡ map see ys
    → length xs ≡ length ys
as_long look see xs ys same = sym (length-map xs look) ∙ ap length same ∙ length-map ys see

pub alike_at : {A B C : Type 0} (look : A → C) (see : B → C) (xs : List A) (ys : List B) (k : ℕ) (x : A) (y : B)
    → map look xs ≡ map see ys → k < length xs → x ≡ get_or xs k x → look x ≡ see (get_or ys k y)
alike_at look see xs ys k x y same within at =
    let long = as_long look see xs ys same in
    let there : k < length ys = omega (arith, long, within) in
    ap look at ∙ sym (get_or-map look xs k x (look x) within) ∙ ap (λ l. get_or l k (look x)) same
    ∙ get_or-map see ys k y (look x) there

-- an entry at a place: its name, and what has that
pub record IsEntryAt (es : Entries ℕ) (k : ℕ) (word : List ℕ) (number : ℕ) : Type 0 where
  pub within : k < length es
  pub word_is : word ≡ (get_or es k ([], 0)).0
  pub number_is : number ≡ (get_or es k ([], 0)).1

module _ (es : Entries ℕ) (k : ℕ) (word : List ℕ) (number : ℕ) (is : IsEntryAt es k word number) where
  entry_is : get_or es k ([], 0) ≡ (word, number)
  entry_is = λ i. (sym is.word_is i, sym is.number_is i)

  pub front_more : take (k + 1) es ≡ take k es ++ (word, number) ∷ []
  front_more = take_more es k ([], 0) is.within ∙ ap (λ e. take k es ++ e ∷ []) entry_is

  pub rest_from : drop k es ≡ (word, number) ∷ drop (k + 1) es
  rest_from = drop_more es k ([], 0) is.within ∙ ap (λ e. e ∷ drop (k + 1) es) entry_is

  split : es ≡ take k es ++ (word, number) ∷ drop (k + 1) es
  split = sym (take-append-drop k es) ∙ ap (λ rest. take k es ++ rest) rest_from

  pub named_at : is_sorted name_cmp es ≡ true → entry_named word es ≡ Some number
  named_at order = ap (entry_named word) split
      ∙ named_in (take k es) (drop (k + 1) es) (word, number) (ap (is_sorted name_cmp) (sym split) ∙ order)

  -- what holds of all that is held
  pub holds_at : (Holds : ℕ → Type 0) (last : ℕ) → All Holds (map (λ (e : List ℕ × ℕ). e.1) es ++ last ∷ [])
      → Holds number
  holds_at Holds last all =
      let many = length-map es (λ (e : List ℕ × ℕ). e.1) in
      let longer = length-append (map (λ (e : List ℕ × ℕ). e.1) es) (last ∷ []) in
      let within = is.within in
      let there : k < length (map (λ (e : List ℕ × ℕ). e.1) es) = omega (arith, many, within) in
      let reach : k < length (map (λ (e : List ℕ × ℕ). e.1) es ++ last ∷ []) = omega (arith, longer, there) in
      subst Holds (get_or_append_left (map (λ (e : List ℕ × ℕ). e.1) es) (last ∷ []) 0 k there
      ∙ get_or-map (λ (e : List ℕ × ℕ). e.1) es k ([], 0) 0 within ∙ sym is.number_is)
      (All-get_or Holds (map (λ (e : List ℕ × ℕ). e.1) es ++ last ∷ []) k 0 reach all)

pub holds_last : (Holds : ℕ → Type 0) (xs : List ℕ) (last : ℕ) → All Holds (xs ++ last ∷ []) → Holds last
holds_last Holds xs last all =
    let longer = length-append xs (last ∷ []) in
    let within : length xs < length (xs ++ last ∷ []) = omega (arith, longer) in
    subst Holds (get_or_push xs last 0 (length xs) refl) (All-get_or Holds (xs ++ last ∷ []) (length xs) 0 within all)
