-- Open files in the order of their numbers.
use Rattle.std.proofs.Common.{◌≡◌, ◌≢◌, ℕ, ◌+◌, ◌≤◌, ◌<◌, Bool, true, false, cond, List, [], ◌∷◌, ◌++◌, map, filter, length, not, nat_eq, nat_lt, Some, None, option_map, refl, sym, ap, ◌∙◌, true≢false, arith, lt-ltb, le-ltb, ne_eqb, find, nat_le, insert, remove, slice_get, suc, zero, if◌then◌else◌, ◌-◌, eqb-true, leb-true, le-leb}
use Rattle.vt_spec.proofs.Common.{Descriptor, and_from, and_true_left, and_true_right, eqb-false, free_from, inserted, keys_of, lookup, opens_for_writing, option_map_or, remove_entry, values_of}
use Rattle.indexmap.specs.IndexMap.{IndexMap, get, index_before, insert_entry, insert_index, move_index}
use Rattle.indexmap.proofs.CallerLemmas.{insert_entry-new}
use Rattle.indexmap.proofs.MapLemmas.{absent_from_lookup, or_len-absent}
use Rattle.vt_tasks.specs.declared.descriptors.OpenFile.{OpenFile}
use Rattle.vt_location.specs.Locations.{location_of}
use Rattle.vt_request.specs.Requests.{access_of}
use Rattle.vt_tasks.specs.Open.{are_ascending, descriptor_of, numbered}

abbrev pub opened : List (ℕ × OpenFile) → List (Descriptor ℕ)
opened es = map descriptor_of es

-- a number finds the open file that it is under
pub find-opened : (number : ℕ) (es : List (ℕ × OpenFile))
    → option_map (numbered number) (lookup (nat_eq number) es) ≡ find (λ d. nat_eq number d.number) (opened es)
find-opened number [] = refl
find-opened number (e ∷ es) = by (nat_eq number e.0) (eqb-true number e.0) (find-opened number es)
  where
    by : (b : Bool) → (b ≡ true → number ≡ e.0)
        → option_map (numbered number) (lookup (nat_eq number) es) ≡ find (λ d. nat_eq number d.number) (opened es)
        → option_map (numbered number) (cond b (Some e.1) (lookup (nat_eq number) es))
        ≡ cond b (Some (descriptor_of e)) (find (λ d. nat_eq number d.number) (opened es))
    by true same rest = ap (λ n. Some (numbered n e.1)) (same refl)
    by false same rest = rest

-- the first number of a list that rises
first_number : (least : ℕ) (x : ℕ × OpenFile) (es : List (ℕ × OpenFile)) → are_ascending least (x ∷ es) ≡ true
    → least ≤ x.0
first_number least x es e = leb-true least x.0 (and_true_left _ _ e)

-- what rises from a number on rises from a lower one on
pub ascending_from : (low least : ℕ) (es : List (ℕ × OpenFile)) → low ≤ least → are_ascending least es ≡ true
    → are_ascending low es ≡ true
ascending_from low least [] lower e = refl
ascending_from low least (x ∷ es) lower e =
    and_from (nat_le low x.0) _ (le-leb low x.0 (omega (arith, lower, first_number least x es e)))
    (and_true_right _ _ e)

-- one that is taken out leaves the others rising
pub ascending-removed : (number least : ℕ) (es : List (ℕ × OpenFile)) → are_ascending least es ≡ true
    → are_ascending least (remove_entry (nat_eq number) es) ≡ true
ascending-removed number least [] e = refl
ascending-removed number least (x ∷ es) e = by (nat_eq number x.0)
    (ascending-removed number (x.0 + 1) es (and_true_right _ _ e))
  where
    by : (b : Bool) → are_ascending (x.0 + 1) (remove_entry (nat_eq number) es) ≡ true
        → are_ascending least (cond b es (x ∷ remove_entry (nat_eq number) es)) ≡ true
    by true rest = ascending_from least (x.0 + 1) es (omega (arith, first_number least x es e)) (and_true_right _ _ e)
    by false rest = and_from (nat_le least x.0) _ (and_true_left _ _ e) rest

-- greater numbers are all others
filter-above : (number least : ℕ) (es : List (ℕ × OpenFile)) → number < least → are_ascending least es ≡ true
    → filter (λ d. not (nat_eq number d.number)) (opened es) ≡ opened es
filter-above number least [] less e = refl
filter-above number least (x ∷ es) less e =
    by (nat_eq number x.0) (ne_eqb number x.0 (λ same. omega (arith, less, same, first_number least x es e)))
    (filter-above number (x.0 + 1) es (omega (arith, less, first_number least x es e)) (and_true_right _ _ e))
  where
    by : (b : Bool) → b ≡ false → filter (λ d. not (nat_eq number d.number)) (opened es) ≡ opened es
        → cond (not b) (descriptor_of x ∷ filter (λ d. not (nat_eq number d.number)) (opened es))
        (filter (λ d. not (nat_eq number d.number)) (opened es)) ≡ opened (x ∷ es)
    by true e rest = absurd (true≢false e)
    by false e rest = ap (λ ds. descriptor_of x ∷ ds) rest

pub opened-removed : (number least : ℕ) (es : List (ℕ × OpenFile)) → are_ascending least es ≡ true
    → opened (remove_entry (nat_eq number) es) ≡ filter (λ d. not (nat_eq number d.number)) (opened es)
opened-removed number least [] e = refl
opened-removed number least (x ∷ es) e =
    by (nat_eq number x.0) (eqb-true number x.0) (opened-removed number (x.0 + 1) es (and_true_right _ _ e))
  where
    by : (b : Bool) → (b ≡ true → number ≡ x.0)
        → opened (remove_entry (nat_eq number) es) ≡ filter (λ d. not (nat_eq number d.number)) (opened es)
        → opened (cond b es (x ∷ remove_entry (nat_eq number) es))
        ≡ cond (not b) (descriptor_of x ∷ filter (λ d. not (nat_eq number d.number)) (opened es))
        (filter (λ d. not (nat_eq number d.number)) (opened es))
    by true same rest = sym (filter-above number (x.0 + 1) es (omega (arith, same refl)) (and_true_right _ _ e))
    by false same rest = ap (λ ds. descriptor_of x ∷ ds) rest

-- An item behind all others that moves to an earlier place is put in there
module _ {X : Type 0} where
  slice_get-last : (xs : List X) (y : X) → slice_get (xs ++ y ∷ []) (length xs) ≡ Some y
  slice_get-last [] y = refl
  slice_get-last (x ∷ xs) y = slice_get-last xs y

  remove-last : (xs : List X) (y : X) → remove (xs ++ y ∷ []) (length xs) ≡ xs
  remove-last [] y = refl
  remove-last (x ∷ xs) y = ap (λ l. x ∷ l) (remove-last xs y)

  pub moved-last : (xs : List X) (y : X) (i : ℕ) → move_index (xs ++ y ∷ []) (length xs) i ≡ insert xs i y
  moved-last xs y i j = option_map_or (λ x. insert (remove-last xs y j) i x) (slice_get-last xs y j) (xs ++ y ∷ [])

-- the least free number is no smaller than the first number asked
free-least : (least : ℕ) (es : List (ℕ × OpenFile)) → least ≤ free_from least (opened es)
free-least least [] = omega arith
free-least least (x ∷ es) = by (nat_eq x.0 least) (free-least (least + 1) es)
  where
    by : (b : Bool) → least + 1 ≤ free_from (least + 1) (opened es)
        → least ≤ cond b (free_from (least + 1) (opened es)) least
    by true rest = omega (arith, rest)
    by false rest = omega arith

module _ (held : OpenFile) (free : ℕ) where
  put_before : (x : ℕ × OpenFile) (es : List (ℕ × OpenFile)) (b : Bool) → b ≡ true → opened ((free, held) ∷ x ∷ es)
      ≡ cond b (numbered free held ∷ descriptor_of x ∷ opened es)
      (descriptor_of x ∷ inserted (numbered free held) (opened es))
  put_before x es true e = refl
  put_before x es false e = absurd (true≢false (sym e))

  put_behind : (x : ℕ × OpenFile) (es new : List (ℕ × OpenFile)) (b : Bool) → b ≡ false
      → opened new ≡ inserted (numbered free held) (opened es)
      → opened (x ∷ new) ≡ cond b (numbered free held ∷ descriptor_of x ∷ opened es)
      (descriptor_of x ∷ inserted (numbered free held) (opened es))
  put_behind x es new true e rest = absurd (true≢false e)
  put_behind x es new false e rest = ap (λ ds. descriptor_of x ∷ ds) rest

-- Under the least free number a file stands in its place among the others
pub opened-inserted : (held : OpenFile) (free least gap : ℕ) (es : List (ℕ × OpenFile)) → are_ascending least es ≡ true
    → free_from least (opened es) ≡ free → free ≡ least + gap
    → opened (insert es gap (free, held)) ≡ inserted (numbered free held) (opened es)
opened-inserted held free least zero [] e here at = refl
opened-inserted held free least (suc gap) [] e here at = refl
opened-inserted held free least zero (x ∷ es) e here at =
    by (nat_eq x.0 least) (eqb-true x.0 least) (eqb-false x.0 least) here (free-least (least + 1) es)
  where
    by : (b : Bool) → (b ≡ true → x.0 ≡ least) → (b ≡ false → x.0 ≢ least)
        → cond b (free_from (least + 1) (opened es)) least ≡ free → least + 1 ≤ free_from (least + 1) (opened es)
        → opened ((free, held) ∷ x ∷ es) ≡ inserted (numbered free held) (opened (x ∷ es))
    by true same other found above = absurd (omega (arith, found, above, at))
    by false same other found above = put_before held free x es (nat_lt free x.0)
        (lt-ltb free x.0 (omega (arith, other refl, at, first_number least x es e)))
opened-inserted held free least (suc gap) (x ∷ es) e here at = by (nat_eq x.0 least) (eqb-true x.0 least) here
    (λ same found. opened-inserted held free (x.0 + 1) gap es (and_true_right _ _ e)
    (ap (λ n. free_from (n + 1) (opened es)) same ∙ found) (omega (arith, at, same)))
  where
    by : (b : Bool) → (b ≡ true → x.0 ≡ least) → cond b (free_from (least + 1) (opened es)) least ≡ free
        → (x.0 ≡ least → free_from (least + 1) (opened es) ≡ free
        → opened (insert es gap (free, held)) ≡ inserted (numbered free held) (opened es))
        → opened (x ∷ insert es gap (free, held)) ≡ inserted (numbered free held) (opened (x ∷ es))
    by true same found rest = put_behind held free x es (insert es gap (free, held)) (nat_lt free x.0)
        (le-ltb free x.0 (omega (arith, same refl, at))) (rest (same refl) found)
    by false same found rest = absurd (omega (arith, found, at))

-- and the numbers rise
pub ascending-inserted : (held : OpenFile) (free least gap : ℕ) (es : List (ℕ × OpenFile))
    → are_ascending least es ≡ true
    → free_from least (opened es) ≡ free → free ≡ least + gap → are_ascending least (insert es gap (free, held)) ≡ true
ascending-inserted held free least zero [] e here at = and_from (nat_le least free) true
    (le-leb least free (omega (arith, at))) refl
ascending-inserted held free least (suc gap) [] e here at = and_from (nat_le least free) true
    (le-leb least free (omega (arith, at))) refl
ascending-inserted held free least zero (x ∷ es) e here at =
    by (nat_eq x.0 least) (eqb-false x.0 least) here (free-least (least + 1) es)
  where
    by : (b : Bool) → (b ≡ false → x.0 ≢ least) → cond b (free_from (least + 1) (opened es)) least ≡ free
        → least + 1 ≤ free_from (least + 1) (opened es) → are_ascending least ((free, held) ∷ x ∷ es) ≡ true
    by true other found above = absurd (omega (arith, found, above, at))
    by false other found above = and_from (nat_le least free) _ (le-leb least free (omega (arith, at)))
        (and_from (nat_le (free + 1) x.0) _
        (le-leb (free + 1) x.0 (omega (arith, other refl, at, first_number least x es e))) (and_true_right _ _ e))
ascending-inserted held free least (suc gap) (x ∷ es) e here at = by (nat_eq x.0 least) (eqb-true x.0 least) here
    (λ same found. ascending-inserted held free (x.0 + 1) gap es (and_true_right _ _ e)
    (ap (λ n. free_from (n + 1) (opened es)) same ∙ found) (omega (arith, at, same)))
  where
    by : (b : Bool) → (b ≡ true → x.0 ≡ least) → cond b (free_from (least + 1) (opened es)) least ≡ free
        → (x.0 ≡ least → free_from (least + 1) (opened es) ≡ free
        → are_ascending (x.0 + 1) (insert es gap (free, held)) ≡ true)
        → are_ascending least (x ∷ insert es gap (free, held)) ≡ true
    by true same found rest = and_from (nat_le least x.0) _ (and_true_left _ _ e) (rest (same refl) found)
    by false same found rest = absurd (omega (arith, found, at))

-- The least free number: no more than there are open files, and under none of them
pub free-most : (least : ℕ) (es : List (ℕ × OpenFile)) → free_from least (opened es) ≤ least + length es
free-most least [] = omega arith
free-most least (x ∷ es) = by (nat_eq x.0 least) (free-most (least + 1) es)
  where
    by : (b : Bool) → free_from (least + 1) (opened es) ≤ least + 1 + length es
        → cond b (free_from (least + 1) (opened es)) least ≤ least + length (x ∷ es)
    by true rest = omega (arith, rest)
    by false rest = omega arith

lookup-above : (number least : ℕ) (es : List (ℕ × OpenFile)) → number < least → are_ascending least es ≡ true
    → lookup (nat_eq number) es ≡ None
lookup-above number least [] less e = refl
lookup-above number least (x ∷ es) less e = ap (λ b. cond b (Some x.1) (lookup (nat_eq number) es))
    (ne_eqb number x.0 (λ same. omega (arith, less, same, first_number least x es e)))
    ∙ lookup-above number (x.0 + 1) es (omega (arith, less, first_number least x es e)) (and_true_right _ _ e)

pub lookup-free : (free least : ℕ) (es : List (ℕ × OpenFile)) → are_ascending least es ≡ true
    → free_from least (opened es) ≡ free → lookup (nat_eq free) es ≡ None
lookup-free free least [] e here = refl
lookup-free free least (x ∷ es) e here =
    by (nat_eq x.0 least) (eqb-true x.0 least) (eqb-false x.0 least) here (free-least (least + 1) es)
    (λ same found. lookup-free free (x.0 + 1) es (and_true_right _ _ e)
    (ap (λ n. free_from (n + 1) (opened es)) same ∙ found))
  where
    by : (b : Bool) → (b ≡ true → x.0 ≡ least) → (b ≡ false → x.0 ≢ least)
        → cond b (free_from (least + 1) (opened es)) least ≡ free → least + 1 ≤ free_from (least + 1) (opened es)
        → (x.0 ≡ least → free_from (least + 1) (opened es) ≡ free → lookup (nat_eq free) es ≡ None)
        → lookup (nat_eq free) (x ∷ es) ≡ None
    by true same other found above rest = ap (λ b. cond b (Some x.1) (lookup (nat_eq free) es))
        (ne_eqb free x.0 (λ is. omega (arith, is, same refl, found, above))) ∙ rest (same refl) found
    by false same other found above rest = ap (λ b. cond b (Some x.1) (lookup (nat_eq free) es))
        (ne_eqb free x.0 (λ is. omega (arith, is, other refl, found)))
        ∙ lookup-above free (x.0 + 1) es (omega (arith, found, first_number least x es e)) (and_true_right _ _ e)

-- the least free number, from the numbers alone
abbrev pub free_in : ℕ → List ℕ → ℕ
free_in free [] = free
free_in free (number ∷ rest) = cond (nat_eq number free) (free_in (free + 1) rest) free

pub free_in-keys : (free : ℕ) (es : List (ℕ × OpenFile)) → free_in free (keys_of es) ≡ free_from free (opened es)
free_in-keys free [] = refl
free_in-keys free (x ∷ es) = ap (λ n. cond (nat_eq x.0 free) n free) (free_in-keys (free + 1) es)

pub length-opened : (es : List (ℕ × OpenFile)) → length (opened es) ≡ length es
length-opened [] = refl
length-opened (x ∷ es) = ap suc (length-opened es)

pub files-opened : (es : List (ℕ × OpenFile))
    → map (λ held. location_of held.location) (values_of es) ≡ map (λ d. d.location) (opened es)
files-opened [] = refl
files-opened (x ∷ es) = ap (λ fs. location_of x.1.location ∷ fs) (files-opened es)

pub writes-opened : (es : List (ℕ × OpenFile))
    → map (λ held. opens_for_writing (access_of held.access)) (values_of es) ≡ map (λ d. d.writes) (opened es)
writes-opened [] = refl
writes-opened (x ∷ es) = ap (λ fs. opens_for_writing (access_of x.1.access) ∷ fs) (writes-opened es)

-- A new number that is put before a place stands there
pub entries-inserted : {S : Type 0} (m : IndexMap ℕ OpenFile S) (free place : ℕ) (held : OpenFile)
    (new : List (ℕ × OpenFile))
    → get nat_eq m free ≡ None → free ≤ length m.entries → place ≡ index_before (insert_index nat_eq m free) free
    → new ≡ move_index (insert_entry nat_eq m.entries free held) (insert_index nat_eq m free) place
    → new ≡ insert m.entries free (free, held)
entries-inserted m free place held new none within at is =
    let last : insert_index nat_eq m free
    ≡ length m.entries = or_len-absent (nat_eq free) m.entries (absent_from_lookup (nat_eq free) m.entries none) in
    let here : place ≡ free = at ∙ ap (λ n. index_before n free) last
    ∙ ap (λ b. if b then free - 1 else free) (le-ltb (length m.entries) free within) in
    is ∙ (λ j. move_index (insert_entry-new nat_eq m free held none j) (last j) (here j))
    ∙ moved-last m.entries (free, held) free
