-- The lists stay right where a mount moves.
use Rattle.std.proofs.Common.{◌≡◌, ℕ, Bool, true, false, cond, ◌&&◌, T, List, [], ◌∷◌, map, not, nat_lt, ◌%◌, ◌==◌, eq-eqb, Option, None, Some, refl, sym, ap, subst, ◌∙◌, arith, le-ltb, is_lt, nat_cmp, Equal, Greater, ltb-true, ltb-false, eqb-true}
use Rattle.vt_spec.proofs.Common.{T_and_left, T_and_right, and_true_left, and_true_right, below_all, eq_by_cmp, list_all, nat_cmp_is}
use Rattle.vt_location.specs.declared.locations.Location.{Location}
use Rattle.vt_location.specs.declared.mounts.Mount.{Mount}
use Rattle.vt_location.specs.declared.numbers.MountId.{MountId}
use Rattle.vt_location.specs.declared.numbers.NamespaceId.{NamespaceId}
use Rattle.vt_mount.specs.declared.indexes.Indexes.{Indexes}
use Rattle.vt_mount.specs.declared.mounted.Mounted.{Mounted}
use Rattle.vt_mount.specs.Indexed.{IsIndexed, is_kept_small, numbers_where}
use Rattle.vt_mount.specs.Indexes.{count_at, count_left, count_put, is_at, is_in, is_on, listed_in, listed_on, relisted, stood_at, stood_on, taken}
use Rattle.vt_mount.specs.Listed.{count_of, inserted, precedes}
use Rattle.vt_mount.proofs.CountLemmas.{count-put_in_place, count-taken}
use Rattle.vt_mount.specs.Moving.{is_small_point}
use Rattle.vt_mount.specs.MountsValue.{are_ascending, entries_of, id_cmp, in_order, mount_kept, mounts_in}
use Rattle.vt_location.specs.Numbers.{counted, same_id}
use Rattle.vt_mount.proofs.EntryLemmas.{entries}
use Rattle.vt_mount.proofs.ListLemmas.{others}
use Rattle.vt_mount.proofs.IndexLemmas.{absent-others, below-none, cons-numbers, numbers-changed, numbers-left, others-taken, passes, turned, same_mount_id}
use Rattle.vt_mount.proofs.OrderLemmas.{change_kept, found, rises, rises-in_order, tied}
use Rattle.vt_location.proofs.NumberLemmas.{counted_less}

-- what is kept of a mount with another mount point
abbrev pub placed_kept : Option Location → Mounted → Mounted
placed_kept point one = record one { mount_point = point }

-- what is kept of a mount that was moved
abbrev pub moved_kept : Location → Mounted → Mounted
moved_kept place one = placed_kept (Some place) one

pub less-than : (a b : ℕ) → T (is_lt (nat_cmp a b)) → nat_lt a b ≡ true
less-than a b less = by (nat_lt a b) (nat_lt b a) refl refl
  where
    by : (s t : Bool) → nat_lt a b ≡ s → nat_lt b a ≡ t → nat_lt a b ≡ true
    by true t p q = p
    by false true p q = absurd (subst (λ o. T (is_lt o)) (sym (nat_cmp_is a b Greater (ltb-true b a q))) less)
    by false false p q = absurd (subst (λ o. T (is_lt o))
        (sym (nat_cmp_is a b Equal (omega (arith, ltb-false a b p, ltb-false b a q)))) less)

module _ (id : MountId) where
  -- none before what is in order above it
  found-above : (n : MountId) (x : Mounted) (kept : List (MountId × Mounted)) → T (below_all id_cmp n kept)
      → found id kept ≡ Some x → nat_lt id.count n.count ≡ false
  found-above n x [] below there = absurd cc
  found-above n x (one ∷ kept) below there = by (eq_by_cmp id_cmp id one.0) (tied id one.0) there
      (found-above n x kept (T_and_right _ _ below))
    where
      by : (s : Bool) → s ≡ same_id id one.0 → cond s (Some one.1) (found id kept) ≡ Some x
          → (found id kept ≡ Some x → nat_lt id.count n.count ≡ false) → nat_lt id.count n.count ≡ false
      by true is there rest = le-ltb id.count n.count (omega (
        arith,
        ltb-true n.count one.0.count (less-than n.count one.0.count (T_and_left _ _ below)),
        eqb-true id.count one.0.count (sym is),
      ))
      by false is there rest = rest there

  module _ (change : Mounted → Mounted) where
    absent-same : (kept : List (MountId × Mounted)) → found id kept ≡ None → map (change_kept id change) kept ≡ kept
    absent-same [] none = refl
    absent-same (one ∷ kept) none = by (eq_by_cmp id_cmp id one.0) (tied id one.0) none (absent-same kept)
      where
        by : (s : Bool) → s ≡ same_id id one.0 → cond s (Some one.1) (found id kept) ≡ None
            → (found id kept ≡ None → map (change_kept id change) kept ≡ kept)
            → change_kept id change one ∷ map (change_kept id change) kept ≡ one ∷ kept
        by true is none rest = absurd cc
        by false is none rest = λ i. (one.0, cond (sym is i) (change one.1) one.1) ∷ rest none i

  module _ (test : Mount → Bool) where
    inserted-below : (kept : List (MountId × Mounted)) → T (below_all id_cmp id kept)
        → inserted precedes id (numbers_where test kept) ≡ id ∷ numbers_where test kept
    inserted-below [] below = refl
    inserted-below (one ∷ kept) below = ap (inserted precedes id) (cons-numbers test one kept)
        ∙ by (passes test one) (inserted-below kept (T_and_right _ _ below))
        ∙ ap (λ l. id ∷ l) (sym (cons-numbers test one kept))
      where
        by : (b : Bool) → inserted precedes id (numbers_where test kept) ≡ id ∷ numbers_where test kept
            → inserted precedes id (cond b (one.0 ∷ numbers_where test kept) (numbers_where test kept))
            ≡ id ∷ cond b (one.0 ∷ numbers_where test kept) (numbers_where test kept)
        by true rest =
            ap (λ s. cond s (id ∷ one.0 ∷ numbers_where test kept) (one.0 ∷ inserted precedes id (numbers_where test kept)))
            (less-than id.count one.0.count (T_and_left _ _ below))
        by false rest = rest

    module _ (change : Mounted → Mounted)
        (always : (n : MountId) (one : Mounted) → test (mount_kept n (change one)) ≡ true) where
      numbers-moved : (x : Mounted) (kept : List (MountId × Mounted)) → T (rises kept) → found id kept ≡ Some x
          → inserted precedes id (others id (numbers_where test kept)) ≡ numbers_where test (map (change_kept id change) kept)
      numbers-moved x [] rising there = absurd cc
      numbers-moved x (one ∷ kept) rising there = ap (λ l. inserted precedes id (others id l)) (cons-numbers test one kept)
          ∙ by (eq_by_cmp id_cmp id one.0) (tied id one.0) there (numbers-moved x kept (T_and_right _ _ rising))
          ∙ sym (cons-numbers test (change_kept id change one) (map (change_kept id change) kept))
        where
          N : List MountId
          N = numbers_where test kept

          gone : same_id one.0 id ≡ true → (b : Bool) → others id (cond b (one.0 ∷ N) N) ≡ others id N
          gone is true = ap (λ s. cond (not s) (one.0 ∷ others id N) (others id N)) is
          gone is false = refl

          stays : same_id one.0 id ≡ false → nat_lt id.count one.0.count ≡ false → (b : Bool)
              → inserted precedes id (others id (cond b (one.0 ∷ N) N))
              ≡ cond b (one.0 ∷ inserted precedes id (others id N)) (inserted precedes id (others id N))
          stays is after true = ap (λ s. inserted precedes id (cond (not s) (one.0 ∷ others id N) (others id N))) is
              ∙ ap (λ s. cond s (id ∷ one.0 ∷ others id N) (one.0 ∷ inserted precedes id (others id N))) after
          stays is after false = refl

          by : (s : Bool) → s ≡ same_id id one.0 → cond s (Some one.1) (found id kept) ≡ Some x
              → (found id kept ≡ Some x → inserted precedes id (others id N)
              ≡ numbers_where test (map (change_kept id change) kept))
              → inserted precedes id (others id (cond (passes test one) (one.0 ∷ N) N))
              ≡ cond (test (mount_kept one.0 (cond (same_id id one.0) (change one.1) one.1)))
              (one.0 ∷ numbers_where test (map (change_kept id change) kept))
              (numbers_where test (map (change_kept id change) kept))
          by true is there rest =
              let here : id ≡ one.0 = same_mount_id id one.0 (sym is) in
              let none : found id kept ≡ None = ap (λ n. found n kept) here
              ∙ below-none test one.0 kept (T_and_left _ _ rising) in
              let below : T (below_all id_cmp id kept) = subst (λ n. T (below_all id_cmp n kept)) (sym here)
              (T_and_left _ _ rising) in
              let same_rest : N ≡ numbers_where test (map (change_kept id change) kept) = ap (numbers_where test)
              (sym (absent-same change kept none)) in
              ap (inserted precedes id) (gone (turned one.0 id ∙ sym is) (passes test one) ∙ absent-others test id kept none)
              ∙ inserted-below kept below ∙ (λ i. here i ∷ same_rest i)
              ∙ sym (ap (λ b. cond b (one.0 ∷ numbers_where test (map (change_kept id change) kept))
              (numbers_where test (map (change_kept id change) kept)))
              (ap (λ s. test (mount_kept one.0 (cond s (change one.1) one.1))) (sym is) ∙ always one.0 one.1))
          by false is there rest = stays (turned one.0 id
              ∙ sym is) (found-above one.0 x kept (T_and_left _ _ rising) there) (passes test one)
              ∙ ap (λ l. cond (passes test one) (one.0 ∷ l) l) (rest there)
              ∙ sym (ap (λ s. cond (test (mount_kept one.0 (cond s (change one.1) one.1)))
              (one.0 ∷ numbers_where test (map (change_kept id change) kept))
              (numbers_where test (map (change_kept id change) kept))) (sym is))

  -- a list in which a mount stood or not, and stands or not
  relisted-numbers : (test : Mount → Bool) (here : Bool) (change : Mounted → Mounted)
      → ((n : MountId) (one : Mounted) → test (mount_kept n (change one)) ≡ here)
      → (x : Mounted) (kept : List (MountId × Mounted)) → T (rises kept) → found id kept ≡ Some x
      → relisted (test (mount_kept id x)) here id (numbers_where test kept)
      ≡ numbers_where test (map (change_kept id change) kept)
  relisted-numbers test true change always x kept rising there =
      ap (inserted precedes id) (others-taken test id x kept rising there) ∙ numbers-moved test change always x kept rising there
  relisted-numbers test false change never x kept rising there =
      others-taken test id x kept rising there ∙ sym (numbers-left test id change never kept)

slots-placed : (id : MountId) (point : Option Location) (kept : List (MountId × Mounted))
    → is_small_point point ≡ true → list_all is_kept_small kept ≡ true
    → list_all is_kept_small (map (change_kept id (placed_kept point)) kept) ≡ true
slots-placed id point [] slot slots = refl
slots-placed id point (one ∷ kept) slot slots =
    ap (λ b. b && list_all is_kept_small (map (change_kept id (placed_kept point)) kept)) (by (same_id id one.0))
    ∙ slots-placed id point kept slot (and_true_right _ _ slots)
  where
    by : (b : Bool) → is_kept_small (one.0, cond b (placed_kept point one.1) one.1) ≡ true
    by true = slot
    by false = and_true_left _ _ slots

module _ (id : MountId) (point : Option Location) (x : Mounted) (kept : List (MountId × Mounted))
    (rising : T (rises kept)) (there : found id kept ≡ Some x) where
  pub parent-placed : (q : MountId)
      → relisted (stood_on q x.mount_point) (stood_on q point) id (numbers_where (is_on q) kept)
      ≡ numbers_where (is_on q) (map (change_kept id (placed_kept point)) kept)
  parent-placed q =
      relisted-numbers id (is_on q) (stood_on q point) (placed_kept point) (λ n one. refl) x kept rising there

  pub place-placed : (q : Location)
      → relisted (stood_at q x.mount_point) (stood_at q point) id (numbers_where (is_at q) kept)
      ≡ numbers_where (is_at q) (map (change_kept id (placed_kept point)) kept)
  place-placed q =
      relisted-numbers id (is_at q) (stood_at q point) (placed_kept point) (λ n one. refl) x kept rising there

  pub indexed-placed : (old new : Indexes) → is_small_point point ≡ true
      → ((q : NamespaceId) → listed_in new q ≡ listed_in old q) → ((q : MountId) → listed_on new q
      ≡ relisted (stood_on q x.mount_point) (stood_on q point) id (listed_on old q)) → ((q : Location) (one : MountId)
      → count_at new q one ≡ count_put (stood_at q point && same_id one id)
      (count_left (stood_at q x.mount_point && same_id one id) (count_at old q one)))
      → IsIndexed old kept → IsIndexed new (map (change_kept id (placed_kept point)) kept)
  indexed-placed old new slot namespace parent location indexed = record {
    namespace = λ q. namespace q ∙ indexed.namespace q
        ∙ sym (numbers-changed (is_in q) id (placed_kept point) (λ n one. refl) kept);
    parent = λ q. parent q
        ∙ ap (relisted (stood_on q x.mount_point) (stood_on q point) id) (indexed.parent q) ∙ parent-placed q;
    place = λ q one.
        let there = stood_at q x.mount_point in
        let here = stood_at q point in
        let numbers = numbers_where (is_at q) kept in
        location q one
        ∙ ap (λ n. count_put (here && same_id one id) (count_left (there && same_id one id) n)) (indexed.place q one)
        ∙ ap (count_put (here && same_id one id)) (sym (count-taken there id one numbers))
        ∙ sym (count-put_in_place here id one (taken there id numbers))
        ∙ ap (count_of (same_id one)) (place-placed q);
    slots = slots-placed id point kept slot indexed.slots;
  }

-- lists that are as they were
pub indexed-same : (kept : List (MountId × Mounted)) (old new : Indexes)
    → ((q : NamespaceId) → listed_in new q ≡ listed_in old q) → ((q : MountId) → listed_on new q ≡ listed_on old q)
    → ((q : Location) (one : MountId) → count_at new q one ≡ count_at old q one)
    → IsIndexed old kept → IsIndexed new kept
indexed-same kept old new namespace parent location indexed = record {
  namespace = λ q. namespace q ∙ indexed.namespace q;
  parent = λ q. parent q ∙ indexed.parent q;
  place = λ q one. location q one ∙ indexed.place q one;
  slots = indexed.slots;
}

-- Numbers rise

below-counts : (n : MountId) (kept : List (MountId × Mounted)) → T (below_all id_cmp n kept)
    → list_all (λ later. nat_lt (counted n.count) later.number) (mounts_in (entries kept)) ≡ true
below-counts n [] below = refl
below-counts n (one ∷ kept) below =
    (λ i. (counted_less n.count one.0.count ∙ less-than n.count one.0.count (T_and_left _ _ below)) i
    && below-counts n kept (T_and_right _ _ below) i)

counts-rise : (kept : List (MountId × Mounted)) → T (rises kept) → are_ascending (mounts_in (entries kept)) ≡ true
counts-rise [] rising = refl
counts-rise (one ∷ kept) rising = λ i. below-counts one.0 kept (T_and_left _ _ rising) i
    && counts-rise kept (T_and_right _ _ rising) i

pub ascending-kept : (es : List (MountId × Mounted)) → are_ascending (mounts_in (entries_of es)) ≡ true
ascending-kept es = counts-rise (in_order es) (rises-in_order es)

-- each is that of a count
counts-counted : (kept : List (MountId × Mounted))
    → list_all (λ mount. mount.number % 4 == 1) (mounts_in (entries kept)) ≡ true
counts-counted [] = refl
counts-counted (one ∷ kept) = λ i. eq-eqb (counted one.0.count % 4) 1 (omega arith) i && counts-counted kept i

pub counted-kept : (es : List (MountId × Mounted))
    → list_all (λ mount. mount.number % 4 == 1) (mounts_in (entries_of es)) ≡ true
counted-kept es = counts-counted (in_order es)
