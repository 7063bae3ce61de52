-- The mounts that are attached in a namespace, by their identifiers: where one stands among them, and what is made of
-- them one after the other.
use Rattle.std.proofs.Common.{◌≡◌, ◌<◌, ◌≤◌, refl, sym, ap, ◌∙◌, ⊎_elim, inl, inr, ℕ, zero, suc, ◌+◌, Bool, true, false, cond, ◌&&◌, ◌||◌, nat_eq, eqb-true, eq-eqb, ne_eqb, List, [], ◌∷◌, ◌++◌, map, filter, find, length, take, get_or, Option, Some, None, option_map, unwrap_or, Result, Ok, Err, arith, filter_map, nat_lt, nat_cmp, lt-ltb, ltb-false, ltb-true, append-nil}
use Rattle.vt_spec.proofs.Common.{Among, Mount, among-from_filter, among_from_list_all, and_parts, cons_option, filter_map-append, holds_of, index_from, list_all, list_all_from_among, list_any, map-append, nat_tests, none_from_among, take_more}
use Rattle.std.specs.Result.{result_unwrap_or}
use Rattle.std.specs.List.Sorted.{IsBinarySearchResult, IsNonDecreasingBy, IsSearchInRange}
use Rattle.std.specs.Ordering.{ordering_index}
use Rattle.std.proofs.lemmas.Cmp.{ranked}
use Rattle.std.proofs.lemmas.List.Sorted.{IsNonDecreasingBy-from_default}
use Rattle.vt_location.specs.declared.numbers.MountId.{MountId}
use Rattle.vt_location.specs.Numbers.{counted}
use Rattle.vt_location.proofs.NumberLemmas.{counted_test}
use Rattle.vt_mount.specs.Attached.{AreOf, are_rising, attached_in}
use Rattle.vt_mount.specs.MountsValue.{MountEntry, are_ascending, mounts_in}

-- Places in a rising list

above : (a j : ℕ) (d : MountId) (ids : List MountId) → list_all (λ later. nat_lt a later.count) ids ≡ true
    → j < length ids → a < (get_or ids j d).count
above a j d [] all within = absurd (omega (arith, within))
above a zero d (id ∷ ids) all within = ltb-true a id.count (and_parts _ _ all).0
above a (suc j) d (id ∷ ids) all within = above a j d ids (and_parts (nat_lt a id.count) _ all).1
    (omega (arith, within))

rises : (i j : ℕ) (d : MountId) (ids : List MountId) → are_rising ids ≡ true → i ≤ j → j < length ids
    → (get_or ids i d).count ≤ (get_or ids j d).count
rises i j d [] rising le within = absurd (omega (arith, within))
rises zero zero d (id ∷ ids) rising le within = omega arith
rises zero (suc j) d (id ∷ ids) rising le within =
    let less = above id.count j d ids (and_parts _ (are_rising ids) rising).0 (omega (arith, within)) in omega
    (arith, less)
rises (suc i) zero d (id ∷ ids) rising le within = absurd (omega (arith, le))
rises (suc i) (suc j) d (id ∷ ids) rising le within =
    rises i j d ids (and_parts (list_all (λ (later : MountId). nat_lt id.count later.count) ids) _ rising).1
    (omega (arith, le)) (omega (arith, within))

abbrev pub place_of : ℕ → ℕ → List MountId → Option ℕ
place_of count k ids = index_from (λ (other : MountId). nat_eq count other.count) k ids

placed : (count k i : ℕ) (d : MountId) (ids : List MountId) → are_rising ids ≡ true → i < length ids
    → (get_or ids i d).count ≡ count → place_of count k ids ≡ Some (k + i)
placed count k i d [] rising within same = absurd (omega (arith, within))
placed count k zero d (id ∷ ids) rising within same =
    ap (λ b. cond b (Some k) (place_of count (k + 1) ids)) (eq-eqb count id.count (sym same))
    ∙ ap Some (let none : k ≡ k + 0 = omega arith in none)
placed count k (suc i) d (id ∷ ids) rising within same =
    let parts = and_parts (list_all (λ (later : MountId). nat_lt id.count later.count) ids) (are_rising ids) rising in
    let less = above id.count i d ids parts.0 (omega (arith, within)) in
    ap (λ b. cond b (Some k) (place_of count (k + 1) ids))
    (ne_eqb count id.count (λ e. absurd (omega (arith, less, same, e))))
    ∙ placed count (k + 1) i d ids parts.1 (omega (arith, within)) same
    ∙ ap Some (let sum : k + 1 + i ≡ k + suc i = omega arith in sum)

missing : (count k : ℕ) (ids : List MountId)
    → ((j : ℕ) (d : MountId) → j < length ids → nat_eq count (get_or ids j d).count ≡ false)
    → place_of count k ids ≡ None
missing count k [] none = refl
missing count k (id ∷ ids) none = ap (λ b. cond b (Some k) (place_of count (k + 1) ids)) (none 0 id (omega arith))
    ∙ missing count (k + 1) ids (λ j d within. none (suc j) d (omega (arith, within)))

-- what a binary search by counts finds
module _ (ids : List MountId) (rising : are_rising ids ≡ true) (count : ℕ) where
  comparisons_rise : (default : MountId)
      → IsNonDecreasingBy (λ (id : MountId). ordering_index (nat_cmp id.count count)) ids
  comparisons_rise default = IsNonDecreasingBy-from_default
      (λ (id : MountId). ordering_index (nat_cmp id.count count)) ids default
      (λ i j le within. let keys = rises i j default ids rising le within in grind (arith, nat_tests, keys))

  -- the place that is found, from a number on
  pub found_from : (k : ℕ) (default : MountId) (r : Result ℕ ℕ) → IsSearchInRange r (length ids)
      → IsBinarySearchResult (λ (id : MountId). nat_cmp id.count count) ids r
      → elim r [ Ok i ↦ Some (k + i) | Err i ↦ None ] ≡ place_of count k ids
  found_from k default (Ok i) within equal =
      let same : (get_or ids i default).count ≡ count = ranked _ count _ (sym (equal default)) in
      sym (placed count k i default ids rising within same)
  found_from k default (Err i) within parted = sym (missing count k ids none)
    where
      none : (j : ℕ) (d : MountId) → j < length ids → nat_eq count (get_or ids j d).count ≡ false
      none j d inside = by (nat_lt j i) refl
        where
          by : (t : Bool) → nat_lt j i ≡ t → nat_eq count (get_or ids j d).count ≡ false
          by true e =
              let less : (get_or ids j d).count < count = ranked _ count _
              (sym ((parted (comparisons_rise default)).0 j d (omega arith) (ltb-true j i e))) in
              ne_eqb count (get_or ids j d).count (λ same. absurd (omega (arith, less, same)))
          by false e =
              let more : count < (get_or ids j d).count = ranked _ count _
              (sym ((parted (comparisons_rise default)).1 j d (ltb-false j i e) inside)) in
              ne_eqb count (get_or ids j d).count (λ same. absurd (omega (arith, more, same)))

  pub found_place : (default : MountId) (r : Result ℕ ℕ) → IsSearchInRange r (length ids)
      → IsBinarySearchResult (λ (id : MountId). nat_cmp id.count count) ids r
      → result_unwrap_or r 0 ≡ unwrap_or (place_of count 0 ids) 0
  found_place default r within searched = by r ∙ ap (λ o. unwrap_or o 0) (found_from 0 default r within searched)
    where
      by : (r : Result ℕ ℕ) → result_unwrap_or r 0 ≡ unwrap_or (elim r [ Ok i ↦ Some (0 + i) | Err i ↦ None ]) 0
      by (Ok i) = let sum : i ≡ 0 + i = omega arith in sum
      by (Err i) = refl

pub places_alike : (count k : ℕ) (originals : List MountId) (all : List (Mount ℕ)) → AreOf originals all
    → place_of count k originals ≡ index_from (λ mount. nat_eq (counted count) mount.number) k all
places_alike count k [] [] are = refl
places_alike count k [] (mount ∷ all) are = absurd cc
places_alike count k (id ∷ originals) [] are = absurd cc
places_alike count k (id ∷ originals) (mount ∷ all) are =
    let here : counted id.count ≡ mount.number = cc in
    let later : map (λ (id : MountId). counted id.count) originals ≡ map (λ (mount : Mount ℕ). mount.number) all = cc in
    λ i. cond ((sym (counted_test count id.count) ∙ ap (nat_eq (counted count)) here) i) (Some k)
    (places_alike count (k + 1) originals all later i)

-- Lists of mounts

pub ascending_filter : (p : Mount ℕ → Bool) (all : List (Mount ℕ)) → are_ascending all ≡ true
    → are_ascending (filter p all) ≡ true
ascending_filter p [] rising = refl
ascending_filter p (mount ∷ all) rising =
    let parts = and_parts (list_all (λ (later : Mount ℕ). nat_lt mount.number later.number) all)
    (are_ascending all) rising in
    by (p mount) parts.0 (ascending_filter p all parts.1)
  where
    by : (b : Bool) → list_all (λ (later : Mount ℕ). nat_lt mount.number later.number) all ≡ true
        → are_ascending (filter p all) ≡ true → are_ascending (cond b (mount ∷ filter p all) (filter p all)) ≡ true
    by true less rest = λ i. list_all_from_among (λ (later : Mount ℕ). nat_lt mount.number later.number) (filter p all)
        (λ x m. among_from_list_all (λ (later : Mount ℕ). nat_lt mount.number later.number) all less x
        (among-from_filter p all x m).0) i && rest i
    by false less rest = rest

pub rising_ids : (ids : List MountId) (all : List (Mount ℕ)) → AreOf ids all → are_ascending all ≡ true
    → are_rising ids ≡ true
rising_ids [] all are ascending = refl
rising_ids (id ∷ ids) [] are ascending = absurd cc
rising_ids (id ∷ ids) (mount ∷ all) are ascending =
    let here : counted id.count ≡ mount.number = cc in
    let later : map (λ (id : MountId). counted id.count) ids ≡ map (λ (mount : Mount ℕ). mount.number) all = cc in
    let parts = and_parts (list_all (λ (later : Mount ℕ). nat_lt mount.number later.number) all)
    (are_ascending all) ascending in
    λ i. less ids all later here parts.0 i && rising_ids ids all later parts.1 i
  where
    less : (others : List MountId) (mounts : List (Mount ℕ))
        → map (λ (id : MountId). counted id.count) others ≡ map (λ (mount : Mount ℕ). mount.number) mounts
        → counted id.count ≡ mount.number
        → list_all (λ (later : Mount ℕ). nat_lt mount.number later.number) mounts ≡ true
        → list_all (λ (later : MountId). nat_lt id.count later.count) others ≡ true
    less [] mounts are here all = refl
    less (other ∷ others) [] are here all = absurd cc
    less (other ∷ others) (one ∷ mounts) are here all =
        let same : counted other.count ≡ one.number = cc in
        let later : map (λ (id : MountId). counted id.count) others
        ≡ map (λ (mount : Mount ℕ). mount.number) mounts = cc in
        let parts = and_parts (nat_lt mount.number one.number)
        (list_all (λ (later : Mount ℕ). nat_lt mount.number later.number) mounts) all in
        let more = ltb-true mount.number one.number parts.0 in
        λ i. lt-ltb id.count other.count (omega (arith, here, same, more)) i && less others mounts later here parts.1 i

pub as_many : (ids : List MountId) (all : List (Mount ℕ)) → AreOf ids all → length ids ≡ length all
as_many [] [] are = refl
as_many [] (mount ∷ all) are = absurd cc
as_many (id ∷ ids) [] are = absurd cc
as_many (id ∷ ids) (mount ∷ all) are = let rest = as_many ids all cc in omega (arith, rest)

-- mounts of a list are found in it by their numbers
pub picked : {B : Type 0} (change : Mount ℕ → B) (mounts all : List (Mount ℕ)) (ids : List MountId) → AreOf ids all
    → ((mount : Mount ℕ) → Among mount all → find (λ x. nat_eq mount.number x.number) mounts ≡ Some mount)
    → filter_map (λ (id : MountId). option_map change (find (λ x. nat_eq (counted id.count) x.number) mounts)) ids
    ≡ map change all
picked change mounts [] [] are found = refl
picked change mounts (mount ∷ all) [] are found = absurd cc
picked change mounts [] (id ∷ ids) are found = absurd cc
picked change mounts (mount ∷ all) (id ∷ ids) are found =
    let here : counted id.count ≡ mount.number = cc in
    let later : map (λ (id : MountId). counted id.count) ids ≡ map (λ (mount : Mount ℕ). mount.number) all = cc in
    ap (λ o. cons_option (option_map change o)
    (filter_map (λ (id : MountId). option_map change (find (λ x. nat_eq (counted id.count) x.number) mounts)) ids))
    (ap (λ number. find (λ (x : Mount ℕ). nat_eq number x.number) mounts) here ∙ found mount (inl refl))
    ∙ ap (λ rest. change mount ∷ rest) (picked change mounts all ids later (λ x m. found x (inr m)))

pub ascending_found : (mounts : List (Mount ℕ)) → are_ascending mounts ≡ true → (mount : Mount ℕ) → Among mount mounts
    → find (λ x. nat_eq mount.number x.number) mounts ≡ Some mount
ascending_found [] rising mount m = absurd m
ascending_found (first ∷ rest) rising mount m =
    let parts = and_parts (list_all (λ (later : Mount ℕ). nat_lt first.number later.number) rest)
    (are_ascending rest) rising in
    ⊎_elim (λ same. ap (λ b. cond b (Some first) (find (λ x. nat_eq mount.number x.number) rest))
    (eq-eqb mount.number first.number (ap (λ (x : Mount ℕ). x.number) same)) ∙ ap Some (sym same)) (λ later.
    let less = ltb-true first.number mount.number
    (among_from_list_all (λ (later : Mount ℕ). nat_lt first.number later.number) rest parts.0 mount later) in
    ap (λ b. cond b (Some first) (find (λ x. nat_eq mount.number x.number) rest))
    (ne_eqb mount.number first.number (λ e. absurd (omega (arith, less, e))))
    ∙ ascending_found rest parts.1 mount later) m

-- the mount of a number is among those that pass if it is found, and passes
pub found_among : (n : ℕ) (p : Mount ℕ → Bool) (mounts : List (Mount ℕ)) → are_ascending mounts ≡ true
    → list_any (λ mount. nat_eq n mount.number) (filter p mounts)
    ≡ holds_of p (find (λ mount. nat_eq n mount.number) mounts)
found_among n p [] rising = refl
found_among n p (mount ∷ mounts) rising =
    let parts = and_parts (list_all (λ (later : Mount ℕ). nat_lt mount.number later.number) mounts)
    (are_ascending mounts) rising in
    by parts.0 (p mount) refl (nat_eq n mount.number) refl (found_among n p mounts parts.1)
  where
    others : list_all (λ (later : Mount ℕ). nat_lt mount.number later.number) mounts ≡ true
        → nat_eq n mount.number ≡ true → list_any (λ (x : Mount ℕ). nat_eq n x.number) (filter p mounts) ≡ false
    others all e = none_from_among (λ (x : Mount ℕ). nat_eq n x.number) (filter p mounts) (λ x m.
        let less = ltb-true mount.number x.number
        (among_from_list_all (λ (later : Mount ℕ). nat_lt mount.number later.number) mounts all x
        (among-from_filter p mounts x m).0) in
        let same = eqb-true n mount.number e in
        ne_eqb n x.number (λ is. absurd (omega (arith, less, same, is))))

    by : list_all (λ (later : Mount ℕ). nat_lt mount.number later.number) mounts ≡ true → (c : Bool) → p mount ≡ c
        → (b : Bool) → nat_eq n mount.number ≡ b → list_any (λ (x : Mount ℕ). nat_eq n x.number) (filter p mounts)
        ≡ holds_of p (find (λ (x : Mount ℕ). nat_eq n x.number) mounts)
        → list_any (λ (x : Mount ℕ). nat_eq n x.number) (cond c (mount ∷ filter p mounts) (filter p mounts))
        ≡ holds_of p (cond b (Some mount) (find (λ (x : Mount ℕ). nat_eq n x.number) mounts))
    by all true f true e later = ap (λ b. b || list_any (λ (x : Mount ℕ). nat_eq n x.number) (filter p mounts)) e
        ∙ sym f
    by all true f false e later = ap (λ b. b || list_any (λ (x : Mount ℕ). nat_eq n x.number) (filter p mounts)) e
        ∙ later
    by all false f true e later = others all e ∙ sym f
    by all false f false e later = later

-- Lists so far

-- one more of a list
pub picked_next : {A B : Type 0} (h : A → Option B) (i : ℕ) (d : A) (xs : List A) → i < length xs
    → filter_map h (take (i + 1) xs) ≡ filter_map h (take i xs) ++ cons_option (h (get_or xs i d)) []
picked_next h i d xs within =
    ap (filter_map h) (take_more xs i d within) ∙ filter_map-append h (take i xs) (get_or xs i d ∷ [])

-- what is made of a list so far, with the next one
module _ {A B C : Type 0} (view : C → B) (h : A → Option B) (i : ℕ) (d : A) (xs : List A) (within : i < length xs)
    (items : List C) (so_far : map view items ≡ filter_map h (take i xs)) where
  pub next_made : (made : C) → h (get_or xs i d) ≡ Some (view made)
      → map view (items ++ (made ∷ [])) ≡ filter_map h (take (i + 1) xs)
  next_made made is = map-append view items (made ∷ []) ∙ (λ j. so_far j ++ cons_option (sym is j) [])
      ∙ sym (picked_next h i d xs within)

  pub none_made : h (get_or xs i d) ≡ None → map view items ≡ filter_map h (take (i + 1) xs)
  none_made is = so_far ∙ sym (append-nil (filter_map h (take i xs)))
      ∙ (λ j. filter_map h (take i xs) ++ cons_option (sym is j) []) ∙ sym (picked_next h i d xs within)

-- The mounts that are attached in a namespace
module _ (namespace : ℕ) (entries : List MountEntry) (ascending : are_ascending (mounts_in entries) ≡ true)
    (ids : List MountId) (are : AreOf ids (attached_in namespace entries)) where
  abbrev is_attached : Mount ℕ → Bool
  is_attached mount = holds_of (nat_eq namespace) mount.namespace

  pub attached_rising : are_rising ids ≡ true
  attached_rising = rising_ids ids (attached_in namespace entries) are
      (ascending_filter is_attached (mounts_in entries) ascending)

  pub attached_picked : {B : Type 0} (change : Mount ℕ → B)
      → filter_map (λ (id : MountId). option_map change (find (λ x. nat_eq (counted id.count) x.number)
      (mounts_in entries))) ids ≡ map change (attached_in namespace entries)
  attached_picked change = picked change (mounts_in entries) (attached_in namespace entries) ids are
      (λ mount m. ascending_found (mounts_in entries) ascending mount
      (among-from_filter is_attached (mounts_in entries) mount m).0)
