-- Lists of filesystems, woven by their numbers.
use Rattle.std.proofs.Common.{◌≡◌, refl, sym, ap, subst, ◌∙◌, ℕ, nat_eq, nat_lt, Bool, true, false, cond, not, ◌&&◌, List, [], ◌∷◌, filter, find, arith, All, ltb-true}
use Rattle.vt_spec.proofs.Common.{All-head, All-tail, Filesystem, SameFilesystem, SameFilesystems, all-filter, and_parts, common_steps, list_all}
use Rattle.vt_laws_trees.specs.Overlays.InOrder.{put_in}
use Rattle.vt_laws_trees.proofs.runs.Permuted.{and_swapped}
use Rattle.vt_laws_worlds.specs.OverlaysStay.Woven.{PlainOnesAreFound, RisingListsAreWoven, WovenListsAreAlike, WovenListsAreFailing, WovenListsAreFiltered, WovenListsArePassing, WovenListsPassAll, are_rising, woven}

abbrev is_before : Filesystem ℕ → Filesystem ℕ → Bool
is_before first other = nat_lt first.number other.number

abbrev fails : (Filesystem ℕ → Bool) → Filesystem ℕ → Bool
fails test filesystem = not (test filesystem)

-- Numbers

not_both : (a b : ℕ) → nat_lt a b ≡ true → nat_lt b a ≡ false
not_both a b less = grind (arith, common_steps, ltb-true)

-- Putting in

-- one before all others stands first
put_first : (f : Filesystem ℕ) (list : List (Filesystem ℕ)) → list_all (is_before f) list ≡ true
    → put_in f list ≡ f ∷ list
put_first f [] before = refl
put_first f (first ∷ rest) before = cc (not_both f.number first.number
    (and_parts (is_before f first) (list_all (is_before f) rest) before).0)

-- what is before all that are put in stands first
woven_first : (first : Filesystem ℕ) (plain overlays : List (Filesystem ℕ)) → list_all (is_before first) overlays ≡ true
    → woven (first ∷ plain) overlays ≡ first ∷ woven plain overlays
woven_first first plain [] before = refl
woven_first first plain (overlay ∷ rest) before =
    let parts = and_parts (is_before first overlay) (list_all (is_before first) rest) before in
    cc (woven_first first plain rest parts.1)

pub rising_lists_are_woven : RisingListsAreWoven
rising_lists_are_woven test [] rising = refl
rising_lists_are_woven test (first ∷ rest) rising =
    let parts = and_parts (list_all (is_before first) rest) (are_rising rest) rising in
    by _ parts.0 (rising_lists_are_woven test rest parts.1)
  where
    by : (b : Bool) → list_all (is_before first) rest ≡ true
        → woven (filter (fails test) rest) (filter test rest) ≡ rest
        → woven (cond (not b) (first ∷ filter (fails test) rest) (filter (fails test) rest))
        (cond b (first ∷ filter test rest) (filter test rest)) ≡ first ∷ rest
    by true before later = cc (put_first first rest before)
    by false before later = cc (woven_first first (filter (fails test) rest) (filter test rest)
        (all-filter (is_before first) test rest before))

-- Taking apart

none_pass : {A : Type 0} (test : A → Bool) (list : List A) → All (λ a. test a ≡ false) list → filter test list ≡ []
none_pass test [] none = refl
none_pass test (first ∷ rest) none = cc (
  All-head (λ a. test a ≡ false) first rest none,
  none_pass test rest (All-tail (λ a. test a ≡ false) first rest none),
)

all_fail : {A : Type 0} (test : A → Bool) (list : List A) → All (λ a. test a ≡ false) list
    → filter (λ a. not (test a)) list ≡ list
all_fail test [] none = refl
all_fail test (first ∷ rest) none = cc (
  All-head (λ a. test a ≡ false) first rest none,
  all_fail test rest (All-tail (λ a. test a ≡ false) first rest none),
)

put_failing : (test : Filesystem ℕ → Bool) (f : Filesystem ℕ) → test f ≡ true → (list : List (Filesystem ℕ))
    → filter (fails test) (put_in f list) ≡ filter (fails test) list
put_failing test f passes [] = cc
put_failing test f passes (first ∷ rest) = grind (arith, common_steps, put_failing test f passes rest)

pub woven_lists_are_failing : WovenListsAreFailing
woven_lists_are_failing test plain [] parted = all_fail test plain parted.fail
woven_lists_are_failing test plain (overlay ∷ rest) parted =
    put_failing test overlay (All-head (λ f. test f ≡ true) overlay rest parted.pass) (woven plain rest)
    ∙ woven_lists_are_failing test plain rest
    (record { fail = parted.fail; pass = All-tail (λ f. test f ≡ true) overlay rest parted.pass })

put_passing : (test : Filesystem ℕ → Bool) (f : Filesystem ℕ) → test f ≡ true → (list : List (Filesystem ℕ))
    → list_all (is_before f) (filter test list) ≡ true → filter test (put_in f list) ≡ f ∷ filter test list
put_passing test f passes [] before = cc
put_passing test f passes (first ∷ rest) before =
    grind (arith, common_steps, put_passing test f passes rest, and_parts, not_both)

pub woven_lists_are_passing : WovenListsArePassing
woven_lists_are_passing test plain [] parted rising = none_pass test plain parted.fail
woven_lists_are_passing test plain (overlay ∷ rest) parted rising =
    let parts = and_parts (list_all (is_before overlay) rest) (are_rising rest) rising in
    let later = woven_lists_are_passing test plain rest
    (record { fail = parted.fail; pass = All-tail (λ f. test f ≡ true) overlay rest parted.pass }) parts.1 in
    put_passing test overlay (All-head (λ f. test f ≡ true) overlay rest parted.pass) (woven plain rest)
    (ap (list_all (is_before overlay)) later ∙ parts.0) ∙ ap (λ list. overlay ∷ list) later

-- Filters

pub rising_filtered : (stays : Filesystem ℕ → Bool) (list : List (Filesystem ℕ)) → are_rising list ≡ true
    → are_rising (filter stays list) ≡ true
rising_filtered stays [] rising = refl
rising_filtered stays (first ∷ rest) rising =
    let parts = and_parts (list_all (is_before first) rest) (are_rising rest) rising in
    by _ parts.0 (rising_filtered stays rest parts.1)
  where
    by : (b : Bool) → list_all (is_before first) rest ≡ true → are_rising (filter stays rest) ≡ true
        → are_rising (cond b (first ∷ filter stays rest) (filter stays rest)) ≡ true
    by true before later = λ i. all-filter _ stays rest before i && later i
    by false before later = later

-- filters by two tests, in whatever order
pub filters_swapped : {A : Type 0} (p q : A → Bool) (list : List A)
    → filter p (filter q list) ≡ filter q (filter p list)
filters_swapped p q [] = refl
filters_swapped {A} p q (first ∷ rest) = grind (arith, common_steps, filters_swapped p q rest)

pub woven_lists_are_filtered : WovenListsAreFiltered
woven_lists_are_filtered test stays plain overlays parted overlays_rise rising =
    sym (rising_lists_are_woven test (filter stays (woven plain overlays))
    (rising_filtered stays (woven plain overlays) rising)) ∙ (λ i. woven
    ((filters_swapped (fails test) stays (woven plain overlays)
    ∙ ap (filter stays) (woven_lists_are_failing test plain overlays parted)) i)
    ((filters_swapped test stays (woven plain overlays)
    ∙ ap (filter stays) (woven_lists_are_passing test plain overlays parted overlays_rise)) i))

-- Tests

put_tested : (test : Filesystem ℕ → Bool) (f : Filesystem ℕ) (list : List (Filesystem ℕ))
    → list_all test (put_in f list) ≡ (test f && list_all test list)
put_tested test f [] = refl
put_tested test f (first ∷ rest) = grind (arith, common_steps, put_tested test f rest, and_swapped)

pub woven_lists_pass_all : WovenListsPassAll
woven_lists_pass_all test plain [] = grind (arith, common_steps)
woven_lists_pass_all test plain (overlay ∷ rest) = cc (
  put_tested test overlay (woven plain rest),
  woven_lists_pass_all test plain rest,
  and_swapped (test overlay) (list_all test plain) (list_all test rest),
)

-- Sameness

put_alike : (f g : Filesystem ℕ) → SameFilesystem f g → (ones others : List (Filesystem ℕ))
    → SameFilesystems ones others → SameFilesystems (put_in f ones) (put_in g others)
put_alike f g here [] [] same = (here, tt)
put_alike f g here [] (other ∷ others) same = absurd same
put_alike f g here (one ∷ ones) [] same = absurd same
put_alike f g here (one ∷ ones) (other ∷ others) same =
    subst (λ b. SameFilesystems (cond (is_before one f) (one ∷ put_in f ones) (f ∷ one ∷ ones))
    (cond b (other ∷ put_in g others) (g ∷ other ∷ others))) (λ i. nat_lt (same.0.number i) (here.number i))
    (by _ (put_alike f g here ones others same.1))
  where
    by : (b : Bool) → SameFilesystems (put_in f ones) (put_in g others)
        → SameFilesystems (cond b (one ∷ put_in f ones) (f ∷ one ∷ ones))
        (cond b (other ∷ put_in g others) (g ∷ other ∷ others))
    by true later = (same.0, later)
    by false later = (here, same)

pub woven_lists_are_alike : WovenListsAreAlike
woven_lists_are_alike plain [] others [] same same_overlays = same
woven_lists_are_alike plain [] others (another ∷ rest) same same_overlays = absurd same_overlays
woven_lists_are_alike plain (overlay ∷ rest) others [] same same_overlays = absurd same_overlays
woven_lists_are_alike plain (overlay ∷ rest) others (another ∷ more) same same_overlays =
    put_alike _ _ same_overlays.0 _ _ (woven_lists_are_alike plain rest others more same same_overlays.1)

-- Numbers

put_passed : (number : ℕ) (f : Filesystem ℕ) → nat_eq number f.number ≡ false → (list : List (Filesystem ℕ))
    → find (λ g. nat_eq number g.number) (put_in f list) ≡ find (λ g. nat_eq number g.number) list
put_passed number f other [] = cc
put_passed number f other (first ∷ rest) = grind (arith, common_steps, put_passed number f other rest)

pub plain_ones_are_found : PlainOnesAreFound
plain_ones_are_found plain [] number others = refl
plain_ones_are_found plain (overlay ∷ rest) number others =
    put_passed number overlay (All-head (λ f. nat_eq number f.number ≡ false) overlay rest others) (woven plain rest)
    ∙ plain_ones_are_found plain rest number (All-tail (λ f. nat_eq number f.number ≡ false) overlay rest others)
