-- What is listed for objects, as it is kept.
use Rattle.std.proofs.Common.{List, [], None, Some, nat_lt, not, ap, arith, cond, eq-eqb, false, length, nat_eq, refl, slice_index_or, slice_set, suc, sym, zero, Bool, true, ⊎_elim, ℕ, ◌++◌, ◌+◌, ◌-◌, ◌<◌, ◌∙◌, ◌∷◌, ◌≡◌, ◌≤◌, get_or-set_other, get_or-set_same}
use Rattle.std.proofs.lemmas.Bool.{ltb-false}
use Rattle.std.proofs.lemmas.List.{get_or_append_left, get_or-append_right, get_or_default, length-set}
use Rattle.std.proofs.lemmas.List.Sums.{sum_by-cons, sum_by-swap_remove}
use Rattle.std.specs.List.{position, prefix_len, refill, sum_by}
use Rattle.smallvec.specs.SmallVec.{SmallVec}
use Rattle.vt_spec.proofs.Common.{cases_lt, common_steps, eqb_tells, get_or_past, nat_eq_equiv}
use Rattle.vt_fs.specs.Trees.Names.{Lists, at_place, directories_for, how_often, less_at, list_for, listed_as, listings, more_at, none_at, one_if}

-- One list

pub often_is : (number : ℕ) (list : List ℕ) → how_often number list ≡ sum_by (one_if number) list
often_is number [] = refl
often_is number (other ∷ rest) = omega (arith, often_is number rest, sum_by-cons (one_if number) other rest)

pub often_pushed : (number : ℕ) (list : List ℕ) (other : ℕ)
    → how_often number (list ++ other ∷ []) ≡ how_often number list + one_if number other
often_pushed number [] other = omega arith
often_pushed number (first ∷ rest) other = omega (arith, often_pushed number rest other)

-- it stands there at least once, or nowhere
pub often_listed : (number : ℕ) (list : List ℕ) (place other : ℕ) → place < length list
    → one_if other (slice_index_or list place number) ≤ how_often other list
often_listed number list place other within = omega (
  arith,
  often_is other list,
  sum_by-swap_remove (one_if other) list place number within,
)

never_listed : (number : ℕ) (list : List ℕ) → length list ≤ prefix_len (λ other. not (nat_eq other number)) list
    → how_often number list ≡ 0
never_listed number [] past = refl
never_listed number (other ∷ rest) past =
    by (nat_eq other number) past (nat_eq_equiv.symm number other) (never_listed number rest)
  where
    by : (b : Bool) → suc (length rest) ≤ cond (not b) (1 + prefix_len (λ other. not (nat_eq other number)) rest) 0
        → nat_eq number other ≡ b
        → (length rest ≤ prefix_len (λ other. not (nat_eq other number)) rest → how_often number rest ≡ 0)
        → one_if number other + how_often number rest ≡ 0
    by true past same later = absurd (omega (arith, past))
    by false past same later = omega (arith, ap {B = ℕ} (λ b. cond b 1 0) same, later (omega (arith, past)))

pub absent_never : (number : ℕ) (list : List ℕ) → position (λ other. nat_eq other number) list ≡ None
    → how_often number list ≡ 0
absent_never number list none = never_listed number list (beyond _ _ none)
  where
    beyond : (place long : ℕ) → cond (nat_lt place long) (Some place) None ≡ None → long ≤ place
    beyond place long none = by (nat_lt place long) refl none
      where
        by : (b : Bool) → nat_lt place long ≡ b → cond b (Some place) None ≡ None → long ≤ place
        by true e none = cc
        by false e none = ltb-false place long e

-- a list that is written in place
pub written_back : (items : List ℕ) (place number : ℕ)
    → refill (length items) items (slice_set items place number) ≡ slice_set items place number
written_back items place number = refilled items (slice_set items place number) (length-set items place number)
  where
    refilled : (old new : List ℕ) → length new ≡ length old → refill (length old) old new ≡ new
    refilled old new same = grind (arith, common_steps)

-- All lists

-- of one object and one directory one, and of all others none
one_here : (object directory place : ℕ)
    → at_place directory (λ other. one_if other object) object place ≡ one_if place directory
one_here object directory place = ap (λ b. cond (nat_eq place directory) (cond b 1 0) 0) (eq-eqb object object refl)

one_elsewhere : (object directory other place : ℕ) → nat_eq other object ≡ false
    → at_place directory (λ other. one_if other object) other place ≡ 0
one_elsewhere object directory other place differ =
    ap (λ b. cond (nat_eq place directory) (cond b 1 0) 0) differ ∙ either_way (nat_eq place directory) 0
  where
    either_way : (b : Bool) (n : ℕ) → cond b n n ≡ n
    either_way true n = refl
    either_way false n = refl

-- the list that is lent
pub list_lent : (lists : Lists) (slot object : ℕ) (list : SmallVec ℕ) → slot ≡ object → object < length lists
    → list ≡ slice_index_or lists slot list → list ≡ list_for lists object
list_lent lists slot object list same within is = is ∙ ap (λ n. slice_index_or lists n list) same
    ∙ get_or_default lists object list (record { items = []; capacity = 0 }) within

-- the list of one object is another
module _ (lists : Lists) (object : ℕ) (list : SmallVec ℕ) (within : object < length lists) where
  set_here : list_for (slice_set lists object list) object ≡ list
  set_here = get_or-set_same lists object list (record { items = []; capacity = 0 }) within

  listings_at : (new : ℕ → ℕ → ℕ) → ((place : ℕ) → how_often place list.items ≡ new object place)
      → ((other place : ℕ) → nat_eq other object ≡ false → listings lists other place ≡ new other place)
      → listings (slice_set lists object list) ≡ new
  listings_at new here elsewhere = λ i other place. at other place i
    where
      at : (other place : ℕ) → listings (slice_set lists object list) other place ≡ new other place
      at other place = ⊎_elim (λ t. ap (λ n. listings (slice_set lists object list) n place) t.1
          ∙ ap (λ (l : SmallVec ℕ). how_often place l.items) set_here ∙ here place ∙ ap (λ n. new n place) (sym t.1))
          (λ t. ap (λ (l : SmallVec ℕ). how_often place l.items)
          (get_or-set_other lists object other list (record { items = []; capacity = 0 }) t.1)
          ∙ elsewhere other place t.0) (eqb_tells other object)

  pub listed_same : list.items ≡ directories_for lists object
      → listings (slice_set lists object list) ≡ listings lists
  listed_same same =
      listings_at (listings lists) (λ place. ap (how_often place) same) (λ other place differ. refl)

  pub listed_more : (directory : ℕ) → list.items ≡ directories_for lists object ++ directory ∷ []
      → listings (slice_set lists object list) ≡ more_at object directory (listings lists)
  listed_more directory pushed = listings_at (more_at object directory (listings lists))
      (λ place. omega (
        arith,
        ap (how_often place) pushed,
        often_pushed place (directories_for lists object) directory,
        one_here object directory place,
      )) (λ other place differ. omega (arith, one_elsewhere object directory other place differ))

  pub listed_first : (directory : ℕ) → list.items ≡ directory ∷ []
      → listings (slice_set lists object list) ≡ more_at object directory (none_at object (listings lists))
  listed_first directory first = listings_at (more_at object directory (none_at object (listings lists)))
      (λ place. omega (
        arith,
        ap (how_often place) first,
        one_here object directory place,
        ap (λ b. cond b 0 (listings lists object place)) (eq-eqb object object refl),
      )) (λ other place differ. omega (
        arith,
        one_elsewhere object directory other place differ,
        ap (λ b. cond b 0 (listings lists other place)) differ,
      ))

  pub listed_anew : (items : List ℕ) (directory : ℕ) → list.items ≡ items ++ directory ∷ []
      → listings (slice_set lists object list) ≡ more_at object directory (listed_as object items (listings lists))
  listed_anew items directory pushed = listings_at (more_at object directory (listed_as object items (listings lists)))
      (λ place. omega (
        arith,
        ap (how_often place) pushed,
        often_pushed place items directory,
        one_here object directory place,
        ap (λ b. cond b (how_often place items) (listings lists object place)) (eq-eqb object object refl),
      )) (λ other place differ. omega (
        arith,
        one_elsewhere object directory other place differ,
        ap (λ b. cond b (how_often place items) (listings lists other place)) differ,
      ))

  pub listed_less : (directory : ℕ)
      → ((place : ℕ) → how_often place list.items
      ≡ how_often place (directories_for lists object) - one_if place directory)
      → listings (slice_set lists object list) ≡ less_at object directory (listings lists)
  listed_less directory fewer = listings_at (less_at object directory (listings lists))
      (λ place. omega (arith, fewer place, one_here object directory place))
      (λ other place differ. omega (arith, one_elsewhere object directory other place differ))

  pub listed_instead : (from to : ℕ)
      → ((place : ℕ) → how_often place list.items
      ≡ how_often place (directories_for lists object) - one_if place from + one_if place to)
      → listings (slice_set lists object list) ≡ more_at object to (less_at object from (listings lists))
  listed_instead from to moved = listings_at (more_at object to (less_at object from (listings lists)))
      (λ place. omega (arith, moved place, one_here object from place, one_here object to place))
      (λ other place differ. omega (
        arith,
        one_elsewhere object from other place differ,
        one_elsewhere object to other place differ,
      ))

-- of an object that has no list nothing is listed
pub none_absent : (lists : Lists) (object directory : ℕ) → length lists ≤ object
    → listings lists object directory ≡ 0
none_absent lists object directory past = ap (λ (list : SmallVec ℕ). how_often directory list.items)
    (get_or_past lists object (record { items = []; capacity = 0 }) past)

-- so what is listed for has a list
pub listed_within : (lists : Lists) (object directory : ℕ) → 1 ≤ listings lists object directory
    → object < length lists
listed_within lists object directory some = ⊎_elim (λ within. within)
    (λ past. absurd (omega (arith, none_absent lists object directory past, some))) (cases_lt object (length lists))

pub listed_absent : (lists : Lists) (object directory : ℕ) → length lists ≤ object
    → listings lists ≡ less_at object directory (listings lists)
listed_absent lists object directory past = λ i other place. at other place i
  where
    at : (other place : ℕ) → listings lists other place ≡ less_at object directory (listings lists) other place
    at other place = ⊎_elim
        (λ t. omega (arith, ap (λ n. listings lists n place) t.1, none_absent lists object place past))
        (λ t. omega (arith, one_elsewhere object directory other place t.0)) (eqb_tells other object)

-- room is made with empty lists
pub listed_pushed : (lists : Lists) (list : SmallVec ℕ) → list.items ≡ []
    → listings (lists ++ list ∷ []) ≡ listings lists
listed_pushed lists list empty = λ i object place. at object place i
  where
    alone : (place : ℕ) → (slice_index_or (list ∷ []) place (record { items = []; capacity = 0 })).items ≡ []
    alone zero = empty
    alone (suc place) = refl

    at : (object place : ℕ) → listings (lists ++ list ∷ []) object place ≡ listings lists object place
    at object place = ap (how_often place) (⊎_elim
        (λ within. ap (λ (l : SmallVec ℕ). l.items)
        (get_or_append_left lists (list ∷ []) (record { items = []; capacity = 0 }) object within))
        (λ past. ap (λ (l : SmallVec ℕ). l.items)
        (get_or-append_right lists (list ∷ []) (length lists) object (record { items = []; capacity = 0 }) refl past)
        ∙ alone (object - length lists)
        ∙ sym (ap (λ (l : SmallVec ℕ). l.items)
        (get_or_past lists object (record { items = []; capacity = 0 }) past)))
        (cases_lt object (length lists)))
