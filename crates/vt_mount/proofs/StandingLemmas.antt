-- What is listed over an inode: the mounts that stand there, as often as they do.
use Rattle.std.proofs.Common.{◌≡◌, ◌<◌, ◌≤◌, ◌+◌, ℕ, zero, suc, Bool, true, false, true≢false, cond, not, ◌&&◌, ◌||◌, T, List, [], ◌∷◌, Option, None, Some, option_and_then, filter, length, map, arith, nat_lt, refl, sym, ap, subst, ◌∙◌, slice_get}
use Rattle.std.specs.List.Sorted.{IsPartitionPoint, IsPartitionedBy}
use Rattle.vt_spec.proofs.Common.{T_and_left, T_and_right, and_true_left, and_true_right, below_all, eq_by_cmp, holds_of, list_any, nat_tests, not-true}
use Rattle.vt_location.specs.Numbers.{same_id}
use Rattle.vt_location.specs.declared.locations.Location.{Location}
use Rattle.vt_location.specs.declared.locations.NodeRef.{NodeRef}
use Rattle.vt_location.specs.declared.mounts.Mount.{Mount}
use Rattle.vt_location.specs.declared.numbers.MountId.{MountId}
use Rattle.vt_location.specs.SameNodes.{same_node}
use Rattle.vt_mount.specs.declared.mounted.Mounted.{Mounted}
use Rattle.vt_mount.specs.declared.standing.Standing.{Standing}
use Rattle.vt_mount.specs.Indexed.{numbers_where}
use Rattle.vt_mount.specs.Indexes.{count_put, is_at, is_over}
use Rattle.vt_mount.specs.Listed.{count_of}
use Rattle.vt_mount.specs.MountsValue.{id_cmp, mount_kept}
use Rattle.vt_mount.specs.Orders.{numbers_order, standing_order}
use Rattle.vt_mount.specs.Rising.{none_below, precedes, rises}
use Rattle.vt_mount.specs.Standing.{first_listed, listed_upon, same_standing, stands_before, upon}
use Rattle.vt_mount.proofs.IndexLemmas.{below-none, cons-numbers, passes, same_mount_id, turned}
use Rattle.vt_mount.proofs.MoveLemmas.{less-than}
use Rattle.vt_mount.proofs.OrderLemmas as kept_order
use Rattle.vt_mount.proofs.OrderLemmas.{found, tied}
use Rattle.vt_mount.proofs.RisingLemmas.{both, climbing}

-- Where the first mount that stands on another is

-- those before a place pass a test, and none from there on does
abbrev pub parted_where : {X : Type 0} → (X → Bool) → ℕ → List X → Bool
parted_where test zero [] = true
parted_where test zero (x ∷ list) = not (test x) && parted_where test zero list
parted_where test (suc place) [] = true
parted_where test (suc place) (x ∷ list) = test x && parted_where test place list

pub parted_where-there : {X : Type 0} (test : X → Bool) (list : List X) (place : ℕ)
    → IsPartitionPoint (λ x. test x ≡ true) (λ x. test x ≡ false) list place → parted_where test place list ≡ true
parted_where-there test [] zero point = refl
parted_where-there test (x ∷ list) zero point = both _ _ (ap not (point.1 0 x (omega arith) (omega arith)))
    (parted_where-there test list zero (
      (λ k d low high. absurd (omega (arith, high))),
      (λ k d low high. point.1 (suc k) d (omega arith) (omega (arith, high))),
    ))
parted_where-there test [] (suc place) point = refl
parted_where-there test (x ∷ list) (suc place) point = both _ _ (point.0 0 x (omega arith) (omega arith))
    (parted_where-there test list place (
      (λ k d low high. point.0 (suc k) d (omega arith) (omega (arith, high))),
      (λ k d low high. point.1 (suc k) d (omega (arith, low)) (omega (arith, high))),
    ))

-- nothing is behind the end
pub none_at : {X : Type 0} (list : List X) (place : ℕ) → length list ≤ place → slice_get list place ≡ None
none_at [] place end = refl
none_at (x ∷ list) zero end = absurd (omega (arith, end))
none_at (x ∷ list) (suc place) end = none_at list place (omega (arith, end))

-- a mount with a smaller number than that one
abbrev pub stands_below : MountId → Standing → Bool
stands_below parent one = nat_lt one.parent.count parent.count

pub is_parted_upon : (parent : MountId) (list : List Standing) → rises stands_before list ≡ true
    → IsPartitionedBy (stands_below parent) list
is_parted_upon parent list rising i j d le within below =
    let least = climbing standing_order list rising i j d le within in
    grind (arith, nat_tests, least, below)

-- none of them stands on it, behind one that stands on a greater one
none_upon : (parent : MountId) (x : Standing) (list : List Standing) → nat_lt x.parent.count parent.count ≡ false
    → same_id x.parent parent ≡ false → none_below stands_before x list ≡ true → listed_upon parent list ≡ []
none_upon parent x [] least other below = refl
none_upon parent x (y ∷ list) least other below =
    ap (λ b. map (λ (one : Standing). one.mount) (cond b (y ∷ filter (λ one. same_id one.parent parent) list)
    (filter (λ one. same_id one.parent parent) list))) (apart (not-true _ (and_true_left _ _ below)))
    ∙ none_upon parent x list least other (and_true_right _ _ below)
  where
    apart : stands_before y x ≡ false → same_id y.parent parent ≡ false
    apart behind = grind (arith, nat_tests, least, other, behind)

pub first-upon : (parent : MountId) (list : List Standing) (place : ℕ) → rises stands_before list ≡ true
    → parted_where (stands_below parent) place list ≡ true
    → first_listed parent list ≡ option_and_then (upon parent) (slice_get list place)
first-upon parent [] zero rising parted = refl
first-upon parent [] (suc place) rising parted = refl
first-upon parent (x ∷ list) zero rising parted = by (same_id x.parent parent) refl
  where
    by : (b : Bool) → same_id x.parent parent ≡ b
        → slice_get (map (λ (one : Standing). one.mount) (cond b (x ∷ filter (λ one. same_id one.parent parent) list)
        (filter (λ one. same_id one.parent parent) list))) 0 ≡ cond b (Some x.mount) None
    by true is = refl
    by false is = ap (λ ids. slice_get ids 0)
        (none_upon parent x list (not-true _ (and_true_left _ _ parted)) is (and_true_left _ _ rising))
first-upon parent (x ∷ list) (suc place) rising parted =
    ap (λ b. slice_get (map (λ (one : Standing). one.mount) (cond b (x ∷ filter (λ one. same_id one.parent parent) list)
    (filter (λ one. same_id one.parent parent) list))) 0) (apart (and_true_left _ _ parted))
    ∙ first-upon parent list place (and_true_right _ _ rising) (and_true_right _ _ parted)
  where
    apart : stands_below parent x ≡ true → same_id x.parent parent ≡ false
    apart below = grind (arith, nat_tests, below)

pub first-there : (parent : MountId) (list : List Standing) (place : ℕ) → rises stands_before list ≡ true
    → IsPartitionPoint (λ x. stands_below parent x ≡ true) (λ x. stands_below parent x ≡ false) list place
    → (found : Option Standing) → slice_get list place ≡ found
    → first_listed parent list ≡ option_and_then (upon parent) found
first-there parent list place rising point found is =
    first-upon parent list place rising (parted_where-there (stands_below parent) list place point)
    ∙ ap (option_and_then (upon parent)) is

-- Lists of mounts that rise, and in which each is as often, are the same

counted_itself : (m : MountId) (list : List MountId) → 0 < count_of (same_id m) (m ∷ list)
counted_itself m list =
    subst (λ b. 0 < count_put b (count_of (same_id m) list)) (sym (numbers_order.itself m)) (omega arith)

none_counted : (x : MountId) (list : List MountId) (y : MountId) → precedes x y ≡ true
    → none_below precedes y list ≡ true → count_of (same_id x) list ≡ 0
none_counted x [] y less below = refl
none_counted x (z ∷ list) y less below =
    ap (λ b. count_put b (count_of (same_id x) list)) (apart (not-true _ (and_true_left _ _ below)))
    ∙ none_counted x list y less (and_true_right _ _ below)
  where
    apart : precedes z y ≡ false → same_id x z ≡ false
    apart least = grind (arith, nat_tests, less, least)

less_counted : (x y : MountId) (list : List MountId) → precedes x y ≡ true → rises precedes (y ∷ list) ≡ true
    → count_of (same_id x) (y ∷ list) ≡ 0
less_counted x y list less rising =
    ap (λ b. count_put b (count_of (same_id x) list)) (numbers_order.apart x y less)
    ∙ none_counted x list y less (and_true_left _ _ rising)

pub same-lists : (xs ys : List MountId) → rises precedes xs ≡ true → rises precedes ys ≡ true
    → ((m : MountId) → count_of (same_id m) xs ≡ count_of (same_id m) ys) → xs ≡ ys
same-lists [] [] rising climbs counts = refl
same-lists [] (y ∷ ys) rising climbs counts =
    let some = counted_itself y ys in let none = counts y in absurd (omega (arith, some, none))
same-lists (x ∷ xs) [] rising climbs counts =
    let some = counted_itself x xs in let none = counts x in absurd (omega (arith, some, none))
same-lists (x ∷ xs) (y ∷ ys) rising climbs counts = by (precedes x y) refl (precedes y x) refl
    (same-lists xs ys (and_true_right _ _ rising) (and_true_right _ _ climbs))
  where
    tails : x ≡ y → (m : MountId) → count_of (same_id m) xs ≡ count_of (same_id m) ys
    tails is m = less (same_id m x) (counts m ∙ ap (λ y. count_put (same_id m y) (count_of (same_id m) ys)) (sym is))
      where
        less : (b : Bool) → count_put b (count_of (same_id m) xs) ≡ count_put b (count_of (same_id m) ys)
            → count_of (same_id m) xs ≡ count_of (same_id m) ys
        less true is = omega (arith, is)
        less false is = is

    by : (b : Bool) → precedes x y ≡ b → (c : Bool) → precedes y x ≡ c
        → (((m : MountId) → count_of (same_id m) xs ≡ count_of (same_id m) ys) → xs ≡ ys) → x ∷ xs ≡ y ∷ ys
    by true less c is later =
        let some = counted_itself x xs in
        let same = counts x in
        let none = less_counted x y ys less climbs in
        absurd (omega (arith, some, same, none))
    by false least true less later =
        let some = counted_itself y ys in
        let same = counts y in
        let none = less_counted y x xs less rising in
        absurd (omega (arith, some, same, none))
    by false least false most later =
        let one : x ≡ y = same_mount_id x y (grind (arith, nat_tests, least, most)) in
        λ i. one i ∷ later (tails one) i

-- a list passes a test with some mount that is in it
any-there : (f : MountId → Bool) (xs : List MountId) (m : MountId) → f m ≡ true → 0 < count_of (same_id m) xs
    → list_any f xs ≡ true
any-there f [] m is some = absurd (omega (arith, some))
any-there f (x ∷ xs) m is some = by (same_id m x) refl some (any-there f xs m is)
  where
    by : (b : Bool) → same_id m x ≡ b → 0 < count_put b (count_of (same_id m) xs)
        → (0 < count_of (same_id m) xs → list_any f xs ≡ true) → list_any f (x ∷ xs) ≡ true
    by true same some later = ap (λ b. b || list_any f xs) (ap f (sym (same_mount_id m x same)) ∙ is)
    by false other some later = or (f x) (later some)
      where
        or : (b : Bool) → list_any f xs ≡ true → (b || list_any f xs) ≡ true
        or true rest = refl
        or false rest = rest

any-one : (f : MountId → Bool) (xs : List MountId) → list_any f xs ≡ true
    → (m : MountId) × (f m ≡ true) × (0 < count_of (same_id m) xs)
any-one f [] is = absurd (true≢false (sym is))
any-one f (x ∷ xs) is = by (f x) refl is (any-one f xs)
  where
    more : (m : MountId) → 0 < count_of (same_id m) xs → 0 < count_of (same_id m) (x ∷ xs)
    more m some = at (same_id m x)
      where
        at : (b : Bool) → 0 < count_put b (count_of (same_id m) xs)
        at true = omega arith
        at false = some

    by : (b : Bool) → f x ≡ b → (b || list_any f xs) ≡ true
        → (list_any f xs ≡ true → (m : MountId) × (f m ≡ true) × (0 < count_of (same_id m) xs))
        → (m : MountId) × (f m ≡ true) × (0 < count_of (same_id m) (x ∷ xs))
    by true holds is later = (x, holds, counted_itself x xs)
    by false fails is later = let one = later is in (one.0, one.1, more one.0 one.2)

pub any-alike : (f : MountId → Bool) (xs ys : List MountId)
    → ((m : MountId) → count_of (same_id m) xs ≡ count_of (same_id m) ys) → list_any f xs ≡ list_any f ys
any-alike f xs ys counts = by (list_any f xs) refl (list_any f ys) refl
  where
    by : (b : Bool) → list_any f xs ≡ b → (c : Bool) → list_any f ys ≡ c → b ≡ c
    by true is c that =
        let one = any-one f xs is in
        sym (any-there f ys one.0 one.1 (subst (λ n. 0 < n) (counts one.0) one.2)) ∙ that
    by false is true that =
        let one = any-one f ys that in
        sym is ∙ any-there f xs one.0 one.1 (subst (λ n. 0 < n) (sym (counts one.0)) one.2)
    by false is false that = refl

-- the mounts of a list
abbrev pub mounts_of : List Standing → List MountId
mounts_of list = map (λ (one : Standing). one.mount) list

pub any-mounts : (f : MountId → Bool) (list : List Standing)
    → list_any (λ (one : Standing). f one.mount) list ≡ list_any f (mounts_of list)
any-mounts f [] = refl
any-mounts f (x ∷ list) = ap (λ b. f x.mount || b) (any-mounts f list)

-- How often a mount is listed that passes a test

pub count-found : (test : Mount → Bool) (m : MountId) (kept : List (MountId × Mounted)) → T (kept_order.rises kept)
    → count_of (same_id m) (numbers_where test kept)
    ≡ elim (found m kept) [ None ↦ 0 | Some x ↦ count_put (test (mount_kept m x)) 0 ]
count-found test m [] rising = refl
count-found test m (one ∷ kept) rising = ap (count_of (same_id m)) (cons-numbers test one kept)
    ∙ by (eq_by_cmp id_cmp m one.0) (tied m one.0) (count-found test m kept (T_and_right _ _ rising))
  where
    N : ℕ
    N = count_of (same_id m) (numbers_where test kept)

    first : same_id m one.0 ≡ true → N ≡ 0 → (b : Bool)
        → count_of (same_id m) (cond b (one.0 ∷ numbers_where test kept) (numbers_where test kept)) ≡ count_put b 0
    first is none true = (λ i. count_put (is i) (none i))
    first is none false = none

    by : (s : Bool) → s ≡ same_id m one.0
        → N ≡ elim (found m kept) [ None ↦ 0 | Some x ↦ count_put (test (mount_kept m x)) 0 ]
        → count_of (same_id m) (cond (passes test one) (one.0 ∷ numbers_where test kept) (numbers_where test kept))
        ≡ elim (cond s (Some one.1) (found m kept)) [ None ↦ 0 | Some x ↦ count_put (test (mount_kept m x)) 0 ]
    by true is rest =
        let here : m ≡ one.0 = same_mount_id m one.0 (sym is) in
        let none : found m kept ≡ None = ap (λ n. found n kept) here
        ∙ below-none test one.0 kept (T_and_left _ _ rising) in
        first (sym is) (rest ∙ ap (λ o. elim o [ None ↦ 0 | Some x ↦ count_put (test (mount_kept m x)) 0 ]) none)
        (passes test one) ∙ ap (λ n. count_put (test (mount_kept n one.1)) 0) (sym here)
    by false is rest = other (passes test one) ∙ rest
      where
        other : (b : Bool)
            → count_of (same_id m) (cond b (one.0 ∷ numbers_where test kept) (numbers_where test kept)) ≡ N
        other true = ap (λ s. count_put s N) (sym is)
        other false = refl

pub numbers-rise : (test : Mount → Bool) (kept : List (MountId × Mounted)) → T (kept_order.rises kept)
    → rises precedes (numbers_where test kept) ≡ true
numbers-rise test [] rising = refl
numbers-rise test (one ∷ kept) rising = ap (rises precedes) (cons-numbers test one kept)
    ∙ by (passes test one) (numbers-rise test kept (T_and_right _ _ rising))
  where
    above : (rest : List (MountId × Mounted)) → T (below_all id_cmp one.0 rest)
        → none_below precedes one.0 (numbers_where test rest) ≡ true
    above [] below = refl
    above (other ∷ rest) below = ap (none_below precedes one.0) (cons-numbers test other rest)
        ∙ at (passes test other) (above rest (T_and_right _ _ below))
      where
        at : (b : Bool) → none_below precedes one.0 (numbers_where test rest) ≡ true
            → none_below precedes one.0 (cond b (other.0 ∷ numbers_where test rest) (numbers_where test rest)) ≡ true
        at true rest = both _ _ (ap not (numbers_order.turned one.0 other.0
            (less-than one.0.count other.0.count (T_and_left _ _ below)))) rest
        at false rest = rest

    by : (b : Bool) → rises precedes (numbers_where test kept) ≡ true
        → rises precedes (cond b (one.0 ∷ numbers_where test kept) (numbers_where test kept)) ≡ true
    by true rest = both _ _ (above kept (T_and_left _ _ rising)) rest
    by false rest = rest

-- What is listed at a location

upon-rise : (parent : MountId) (list : List Standing) → rises stands_before list ≡ true
    → rises precedes (listed_upon parent list) ≡ true
upon-rise parent [] rising = refl
upon-rise parent (x ∷ list) rising =
    by (same_id x.parent parent) refl (upon-rise parent list (and_true_right _ _ rising))
  where
    above : same_id x.parent parent ≡ true → (rest : List Standing) → none_below stands_before x rest ≡ true
        → none_below precedes x.mount (listed_upon parent rest) ≡ true
    above is [] below = refl
    above is (y ∷ rest) below = at (same_id y.parent parent) refl (above is rest (and_true_right _ _ below))
      where
        least : same_id y.parent parent ≡ true → stands_before y x ≡ false → precedes y.mount x.mount ≡ false
        least that behind = grind (arith, nat_tests, is, that, behind)

        at : (b : Bool) → same_id y.parent parent ≡ b
            → none_below precedes x.mount (listed_upon parent rest) ≡ true
            → none_below precedes x.mount (map (λ (one : Standing). one.mount)
            (cond b (y ∷ filter (λ one. same_id one.parent parent) rest)
            (filter (λ one. same_id one.parent parent) rest))) ≡ true
        at true that later = both _ _ (ap not (least that (not-true _ (and_true_left _ _ below)))) later
        at false that later = later

    by : (b : Bool) → same_id x.parent parent ≡ b → rises precedes (listed_upon parent list) ≡ true
        → rises precedes (map (λ (one : Standing). one.mount)
        (cond b (x ∷ filter (λ one. same_id one.parent parent) list)
        (filter (λ one. same_id one.parent parent) list))) ≡ true
    by true is later = both _ _ (above is list (and_true_left _ _ rising)) later
    by false is later = later

upon-counts : (parent m : MountId) (list : List Standing)
    → count_of (same_id m) (listed_upon parent list)
    ≡ count_of (same_standing (record { parent = parent; mount = m })) list
upon-counts parent m [] = refl
upon-counts parent m (x ∷ list) =
    by (same_id x.parent parent) (same_id parent x.parent) (turned x.parent parent) (upon-counts parent m list)
  where
    by : (b c : Bool) → b ≡ c → count_of (same_id m) (listed_upon parent list)
        ≡ count_of (same_standing (record { parent = parent; mount = m })) list
        → count_of (same_id m) (map (λ (one : Standing). one.mount)
        (cond b (x ∷ filter (λ one. same_id one.parent parent) list)
        (filter (λ one. same_id one.parent parent) list)))
        ≡ count_put (c && same_id m x.mount) (count_of (same_standing (record { parent = parent; mount = m })) list)
    by true true is later = ap (count_put (same_id m x.mount)) later
    by true false is later = absurd (true≢false is)
    by false true is later = absurd (true≢false (sym is))
    by false false is later = later

module _ (list : List Standing) (kept : List (MountId × Mounted)) (q : NodeRef)
    (rising : rises stands_before list ≡ true) (order : T (kept_order.rises kept))
    (counts : (parent m : MountId) → count_of (same_standing (record { parent = parent; mount = m })) list
    ≡ count_of (same_id m) (numbers_where (is_at (record { mount = parent; node = q })) kept)) where
  pub upon-kept : (parent : MountId)
      → listed_upon parent list ≡ numbers_where (is_at (record { mount = parent; node = q })) kept
  upon-kept parent = same-lists (listed_upon parent list) (numbers_where (is_at (record { mount = parent; node = q })) kept)
      (upon-rise parent list rising) (numbers-rise (is_at (record { mount = parent; node = q })) kept order)
      (λ m. upon-counts parent m list ∙ counts parent m)

  -- how often a mount stands at a location, by what is kept of it
  abbrev stands : MountId → Option Mounted → Standing → ℕ
  stands m None one = 0
  stands m (Some x) one = count_put (is_at (record { mount = one.parent; node = q }) (mount_kept m x)) 0

  count_standing : (one : Standing) (m : MountId) → same_id m one.mount ≡ true
      → count_of (same_standing one) list ≡ stands m (found m kept) one
  count_standing one m is = subst (λ mount. count_of (same_standing (record { parent = one.parent; mount = mount })) list
      ≡ stands m (found m kept) one) (same_mount_id m one.mount is)
      (counts one.parent m ∙ count-found (is_at (record { mount = one.parent; node = q })) m kept order
      ∙ at (found m kept))
    where
      at : (o : Option Mounted)
          → elim o [ None ↦ 0 | Some x ↦ count_put (is_at (record { mount = one.parent; node = q }) (mount_kept m x)) 0 ]
          ≡ stands m o one
      at None = refl
      at (Some x) = refl

  none_listed : (m : MountId) (some : List Standing)
      → ((one : Standing) → 0 < count_of (same_standing one) some → same_id m one.mount ≡ false)
      → count_of (same_id m) (mounts_of some) ≡ 0
  none_listed m [] none = refl
  none_listed m (x ∷ some) none =
      ap (λ b. count_put b (count_of (same_id m) (mounts_of some))) (none x (subst
      (λ b. 0 < count_put b (count_of (same_standing x) some)) (sym (standing_order.itself x)) (omega arith)))
      ∙ none_listed m some (λ one there. none one (more one (same_standing one x) there))
    where
      more : (one : Standing) (b : Bool) → 0 < count_of (same_standing one) some
          → 0 < count_put b (count_of (same_standing one) some)
      more one true there = omega arith
      more one false there = there

  one_parent : (m parent : MountId) (some : List Standing)
      → ((one : Standing) → 0 < count_of (same_standing one) some → same_id m one.mount ≡ true
      → same_id parent one.parent ≡ true)
      → count_of (same_id m) (mounts_of some)
      ≡ count_of (same_standing (record { parent = parent; mount = m })) some
  one_parent m parent [] alone = refl
  one_parent m parent (x ∷ some) alone =
      by (same_id m x.mount) refl (one_parent m parent some (λ one there. alone one (more one (same_standing one x) there)))
    where
      more : (one : Standing) (b : Bool) → 0 < count_of (same_standing one) some
          → 0 < count_put b (count_of (same_standing one) some)
      more one true there = omega arith
      more one false there = there

      it : 0 < count_of (same_standing x) (x ∷ some)
      it = subst (λ b. 0 < count_put b (count_of (same_standing x) some)) (sym (standing_order.itself x)) (omega arith)

      by : (b : Bool) → same_id m x.mount ≡ b → count_of (same_id m) (mounts_of some)
          ≡ count_of (same_standing (record { parent = parent; mount = m })) some
          → count_put b (count_of (same_id m) (mounts_of some)) ≡ count_put (same_id parent x.parent && b)
          (count_of (same_standing (record { parent = parent; mount = m })) some)
      by true is later = ap (λ n. n + 1) later
          ∙ ap (λ b. count_put (b && true) (count_of (same_standing (record { parent = parent; mount = m })) some))
          (sym (alone x it is))
      by false is later = later
          ∙ none (same_id parent x.parent) (count_of (same_standing (record { parent = parent; mount = m })) some)
        where
          none : (b : Bool) (n : ℕ) → n ≡ count_put (b && false) n
          none true n = refl
          none false n = refl

  -- each mount is listed once if it stands over the inode, and else not
  pub over-counts : (m : MountId)
      → count_of (same_id m) (mounts_of list) ≡ count_of (same_id m) (numbers_where (is_over q) kept)
  over-counts m = by (found m kept) refl ∙ sym (count-found (is_over q) m kept order)
    where
      -- what is listed with its number stands somewhere
      listed_there : (o : Option Mounted) → found m kept ≡ o → (one : Standing) → 0 < count_of (same_standing one) list
          → same_id m one.mount ≡ true → 0 < stands m o one
      listed_there o is one there same =
          let counted = count_standing one m same ∙ ap (λ o. stands m o one) is in omega (arith, there, counted)

      nowhere : (o : Option Mounted) → found m kept ≡ o → ((one : Standing) → stands m o one ≡ 0)
          → count_of (same_id m) (mounts_of list) ≡ 0
      nowhere o is none = none_listed m list (λ one there. at one there (same_id m one.mount) refl)
        where
          at : (one : Standing) → 0 < count_of (same_standing one) list → (b : Bool) → same_id m one.mount ≡ b → b ≡ false
          at one there true same =
              let some = listed_there o is one there same in let zero = none one in absurd (omega (arith, some, zero))
          at one there false same = refl

      by : (o : Option Mounted) → found m kept ≡ o → count_of (same_id m) (mounts_of list)
          ≡ elim o [ None ↦ 0 | Some x ↦ count_put (is_over q (mount_kept m x)) 0 ]
      by None is = nowhere None is (λ one. refl)
      by (Some x) is = at x.mount_point refl
        where
          at : (point : Option Location) → x.mount_point ≡ point → count_of (same_id m) (mounts_of list)
              ≡ count_put (holds_of (λ place. same_node q place.node) x.mount_point) 0
          at None point = nowhere (Some x) is
              (λ one. ap (λ point. count_put (holds_of (λ place. same_id one.parent place.mount
              && same_node q place.node) point) 0) point)
              ∙ sym (ap (λ point. count_put (holds_of (λ place. same_node q place.node) point) 0) point)
          at (Some place) point = over (same_node q place.node) refl
              ∙ sym (ap (λ point. count_put (holds_of (λ place. same_node q place.node) point) 0) point)
            where
              here : (one : Standing) → stands m (Some x) one
                  ≡ count_put (same_id one.parent place.mount && same_node q place.node) 0
              here one = ap (λ point. count_put (holds_of (λ place. same_id one.parent place.mount
                  && same_node q place.node) point) 0) point

              apart : (b : Bool) → count_put (b && false) 0 ≡ 0
              apart true = refl
              apart false = refl

              over : (b : Bool) → same_node q place.node ≡ b
                  → count_of (same_id m) (mounts_of list) ≡ count_put (same_node q place.node) 0
              over false other = nowhere (Some x) is (λ one. here one
                  ∙ ap (λ b. count_put (same_id one.parent place.mount && b) 0) other
                  ∙ apart (same_id one.parent place.mount)) ∙ sym (ap (λ b. count_put b 0) other)
              over true same = one_parent m place.mount list (λ one there with.
                  alone one (same_id one.parent place.mount) refl (listed_there (Some x) is one there with))
                  ∙ count_standing (record { parent = place.mount; mount = m }) m (numbers_order.itself m)
                  ∙ ap (λ o. stands m o (record { parent = place.mount; mount = m })) is
                  ∙ here (record { parent = place.mount; mount = m })
                  ∙ ap (λ b. count_put (b && same_node q place.node) 0) (numbers_order.itself place.mount)
                where
                  alone : (one : Standing) (b : Bool) → same_id one.parent place.mount ≡ b
                      → 0 < stands m (Some x) one → same_id place.mount one.parent ≡ true
                  alone one true is some = turned place.mount one.parent ∙ is
                  alone one false is some =
                      let none = here one ∙ ap (λ b. count_put (b && same_node q place.node) 0) is in
                      absurd (omega (arith, some, none))
