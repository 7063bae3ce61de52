-- The lists of mounts, where one is put behind all others, changed or taken out.
use Rattle.std.proofs.Common.{◌≡◌, Bool, true, false, cond, ◌&&◌, T, List, [], ◌∷◌, ◌++◌, map, filter, nat_lt, not, None, Some, refl, sym, ap, ◌∙◌, eq-eqb, is_eq, is_lt, Ordering, Less, Equal, Greater, eqb-true}
use Rattle.vt_spec.proofs.Common.{T_and_left, T_and_right, and_true_left, and_true_right, below_all, eq_by_cmp}
use Rattle.vt_location.specs.Numbers.{same_id}
use Rattle.vt_location.specs.declared.mounts.Mount.{Mount}
use Rattle.vt_location.specs.declared.numbers.MountId.{MountId}
use Rattle.vt_mount.specs.declared.mounted.Mounted.{Mounted}
use Rattle.vt_mount.specs.Indexed.{numbers_where}
use Rattle.vt_mount.specs.Indexes.{pushed, taken}
use Rattle.vt_mount.specs.Rising.{comes_last, precedes}
use Rattle.vt_mount.specs.MountsValue.{id_cmp, mount_kept}
use Rattle.vt_mount.proofs.ListLemmas.{others}
use Rattle.vt_mount.proofs.OrderLemmas.{change_kept, found, is_above, rises, tied, without_kept}

pub same_mount_id : (a b : MountId) → same_id a b ≡ true → a ≡ b
same_mount_id a b is = ap (λ n. record { count = n }) (eqb-true a.count b.count is)

pub turned : (a b : MountId) → same_id a b ≡ same_id b a
turned a b = by (same_id a b) (same_id b a) refl refl
  where
    by : (t u : Bool) → same_id a b ≡ t → same_id b a ≡ u → t ≡ u
    by true true p q = refl
    by true false p q = sym (eq-eqb b.count a.count (sym (eqb-true a.count b.count p))) ∙ q
    by false true p q = sym p ∙ eq-eqb a.count b.count (sym (eqb-true b.count a.count q))
    by false false p q = refl

abbrev pub passes : (Mount → Bool) → MountId × Mounted → Bool
passes test one = test (mount_kept one.0 one.1)

-- one more, which passes a test or not
pub cons-numbers : (test : Mount → Bool) (one : MountId × Mounted) (kept : List (MountId × Mounted))
    → numbers_where test (one ∷ kept)
    ≡ cond (passes test one) (one.0 ∷ numbers_where test kept) (numbers_where test kept)
cons-numbers test one kept = by (passes test one)
  where
    by : (b : Bool) → map (λ one. one.0) (cond b (one ∷ filter (passes test) kept) (filter (passes test) kept))
        ≡ cond b (one.0 ∷ numbers_where test kept) (numbers_where test kept)
    by true = refl
    by false = refl

module _ (test : Mount → Bool) where
  pub numbers-last : (one : MountId × Mounted) (kept : List (MountId × Mounted))
      → numbers_where test (kept ++ one ∷ []) ≡ pushed (passes test one) one.0 (numbers_where test kept)
  numbers-last one [] = by (passes test one)
    where
      by : (b : Bool) → map (λ one. one.0) (cond b (one ∷ []) []) ≡ pushed b one.0 []
      by true = refl
      by false = refl
  numbers-last one (other ∷ kept) = cons-numbers test other (kept ++ one ∷ [])
      ∙ ap (λ rest. cond (passes test other) (other.0 ∷ rest) rest) (numbers-last one kept)
      ∙ by (passes test other) (passes test one)
      ∙ ap (pushed (passes test one) one.0) (sym (cons-numbers test other kept))
    where
      by : (a b : Bool) → cond a (other.0 ∷ pushed b one.0 (numbers_where test kept))
          (pushed b one.0 (numbers_where test kept))
          ≡ pushed b one.0 (cond a (other.0 ∷ numbers_where test kept) (numbers_where test kept))
      by true true = refl
      by true false = refl
      by false true = refl
      by false false = refl

  pub numbers-without : (id : MountId) (kept : List (MountId × Mounted))
      → numbers_where test (without_kept id kept) ≡ others id (numbers_where test kept)
  numbers-without id [] = refl
  numbers-without id (one ∷ kept) =
      by (same_id id one.0) (passes test one) (turned one.0 id) refl (numbers-without id kept)
      ∙ ap (others id) (sym (cons-numbers test one kept))
    where
      by : (s b : Bool) → same_id one.0 id ≡ s → passes test one ≡ b
          → numbers_where test (without_kept id kept) ≡ others id (numbers_where test kept)
          → numbers_where test (cond (not s) (one ∷ without_kept id kept) (without_kept id kept))
          ≡ others id (cond b (one.0 ∷ numbers_where test kept) (numbers_where test kept))
      by true true is passed rest = rest ∙ sym (ap (λ s. cond (not s) (one.0 ∷ others id (numbers_where test kept))
          (others id (numbers_where test kept))) is)
      by true false is passed rest = rest
      by false true is passed rest = cons-numbers test one (without_kept id kept)
          ∙ (λ i. cond (passed i) (one.0 ∷ rest i) (rest i))
          ∙ sym (ap (λ s. cond (not s) (one.0 ∷ others id (numbers_where test kept))
          (others id (numbers_where test kept))) is)
      by false false is passed rest =
          cons-numbers test one (without_kept id kept) ∙ (λ i. cond (passed i) (one.0 ∷ rest i) (rest i))

  pub absent-others : (id : MountId) (kept : List (MountId × Mounted)) → found id kept ≡ None
      → others id (numbers_where test kept) ≡ numbers_where test kept
  absent-others id [] none = refl
  absent-others id (one ∷ kept) none = ap (others id) (cons-numbers test one kept)
      ∙ by (eq_by_cmp id_cmp id one.0) (tied id one.0 ∙ turned id one.0) none (absent-others id kept) (passes test one)
      ∙ sym (cons-numbers test one kept)
    where
      by : (s : Bool) → s ≡ same_id one.0 id → cond s (Some one.1) (found id kept) ≡ None
          → (found id kept ≡ None → others id (numbers_where test kept) ≡ numbers_where test kept) → (b : Bool)
          → others id (cond b (one.0 ∷ numbers_where test kept) (numbers_where test kept))
          ≡ cond b (one.0 ∷ numbers_where test kept) (numbers_where test kept)
      by true is none rest b = absurd cc
      by false is none rest true =
          ap (λ s. cond (not s) (one.0 ∷ others id (numbers_where test kept)) (others id (numbers_where test kept)))
          (sym is) ∙ ap (λ l. one.0 ∷ l) (rest none)
      by false is none rest false = rest none

  pub below-none : (id : MountId) (kept : List (MountId × Mounted)) → T (below_all id_cmp id kept)
      → found id kept ≡ None
  below-none id [] below = refl
  below-none id (one ∷ kept) below = by (id_cmp id one.0) refl below (below-none id kept)
    where
      by : (o : Ordering) → id_cmp id one.0 ≡ o → T (is_lt o && below_all id_cmp id kept)
          → (T (below_all id_cmp id kept) → found id kept ≡ None) → found id (one ∷ kept) ≡ None
      by Less is below rest = ap (λ o. cond (is_eq o) (Some one.1) (found id kept)) is ∙ rest below
      by Equal is below rest = absurd below
      by Greater is below rest = absurd below

  failing-others : (id : MountId) (x : Mounted) (kept : List (MountId × Mounted)) → T (rises kept)
      → found id kept ≡ Some x
      → test (mount_kept id x) ≡ false → others id (numbers_where test kept) ≡ numbers_where test kept
  failing-others id x [] rising there fails = absurd cc
  failing-others id x (one ∷ kept) rising there fails = ap (others id) (cons-numbers test one kept)
      ∙ by (eq_by_cmp id_cmp id one.0) (tied id one.0) there
      (λ there. failing-others id x kept (T_and_right _ _ rising) there fails) ∙ sym (cons-numbers test one kept)
    where
      by : (s : Bool) → s ≡ same_id id one.0 → cond s (Some one.1) (found id kept) ≡ Some x
          → (found id kept ≡ Some x → others id (numbers_where test kept) ≡ numbers_where test kept)
          → others id (cond (passes test one) (one.0 ∷ numbers_where test kept) (numbers_where test kept))
          ≡ cond (passes test one) (one.0 ∷ numbers_where test kept) (numbers_where test kept)
      by true is there step =
          let here : id ≡ one.0 = same_mount_id id one.0 (sym is) in
          let held : one.1 ≡ x = cc in
          let wrong : passes test one ≡ false = (λ i. test (mount_kept (sym here i) (held i))) ∙ fails in
          let rest = absent-others id kept (ap (λ n. found n kept) here
          ∙ below-none one.0 kept (T_and_left _ _ rising)) in
          ap (λ b. others id (cond b (one.0 ∷ numbers_where test kept) (numbers_where test kept))) wrong ∙ rest
          ∙ sym (ap (λ b. cond b (one.0 ∷ numbers_where test kept) (numbers_where test kept)) wrong)
      by false is there step = with-head (passes test one)
        where
          with-head : (b : Bool) → others id (cond b (one.0 ∷ numbers_where test kept) (numbers_where test kept))
              ≡ cond b (one.0 ∷ numbers_where test kept) (numbers_where test kept)
          with-head true =
              ap (λ s. cond (not s) (one.0 ∷ others id (numbers_where test kept)) (others id (numbers_where test kept)))
              (turned one.0 id ∙ sym is) ∙ ap (λ l. one.0 ∷ l) (step there)
          with-head false = step there

  -- a mount is taken from the lists that it is in
  pub others-taken : (id : MountId) (x : Mounted) (kept : List (MountId × Mounted)) → T (rises kept)
      → found id kept ≡ Some x
      → taken (test (mount_kept id x)) id (numbers_where test kept) ≡ others id (numbers_where test kept)
  others-taken id x kept rising there = by (test (mount_kept id x)) refl
    where
      by : (b : Bool) → test (mount_kept id x) ≡ b
          → taken b id (numbers_where test kept) ≡ others id (numbers_where test kept)
      by true is = refl
      by false is = sym (failing-others id x kept rising there is)

  -- where each mount has a smaller number, each that is listed has one
  pub last-above : (id : MountId) (kept : List (MountId × Mounted)) → is_above id kept ≡ true
      → comes_last precedes id (numbers_where test kept) ≡ true
  last-above id [] above = refl
  last-above id (one ∷ kept) above = ap (comes_last precedes id) (cons-numbers test one kept)
      ∙ by (passes test one) (last-above id kept (and_true_right _ _ above))
    where
      by : (b : Bool) → comes_last precedes id (numbers_where test kept) ≡ true
          → comes_last precedes id (cond b (one.0 ∷ numbers_where test kept) (numbers_where test kept)) ≡ true
      by true rest = (λ i. and_true_left (nat_lt one.0.count id.count) (is_above id kept) above i
          && comes_last precedes id (numbers_where test kept)) ∙ rest
      by false rest = rest

  module _ (id : MountId) (change : Mounted → Mounted) where
    -- a change that the test does not see
    pub numbers-changed : ((n : MountId) (one : Mounted) → test (mount_kept n (change one)) ≡ test (mount_kept n one))
        → (kept : List (MountId × Mounted))
        → numbers_where test (map (change_kept id change) kept) ≡ numbers_where test kept
    numbers-changed unseen [] = refl
    numbers-changed unseen (one ∷ kept) =
        cons-numbers test (change_kept id change one) (map (change_kept id change) kept)
        ∙ (λ i. cond (by (same_id id one.0) i) (one.0 ∷ numbers-changed unseen kept i) (numbers-changed unseen kept i))
        ∙ sym (cons-numbers test one kept)
      where
        by : (s : Bool) → test (mount_kept one.0 (cond s (change one.1) one.1)) ≡ passes test one
        by true = unseen one.0 one.1
        by false = refl

    -- after a change nothing passes
    pub numbers-left : ((n : MountId) (one : Mounted) → test (mount_kept n (change one)) ≡ false)
        → (kept : List (MountId × Mounted))
        → numbers_where test (map (change_kept id change) kept) ≡ others id (numbers_where test kept)
    numbers-left fails [] = refl
    numbers-left fails (one ∷ kept) = cons-numbers test (change_kept id change one) (map (change_kept id change) kept)
        ∙ by (same_id id one.0) (turned one.0 id) (numbers-left fails kept)
        ∙ ap (others id) (sym (cons-numbers test one kept))
      where
        gone : same_id one.0 id ≡ true → (b : Bool) → others id (numbers_where test kept)
            ≡ others id (cond b (one.0 ∷ numbers_where test kept) (numbers_where test kept))
        gone is true = sym (ap (λ s. cond (not s) (one.0 ∷ others id (numbers_where test kept))
            (others id (numbers_where test kept))) is)
        gone is false = refl

        stays : same_id one.0 id ≡ false → (b : Bool)
            → cond b (one.0 ∷ others id (numbers_where test kept)) (others id (numbers_where test kept))
            ≡ others id (cond b (one.0 ∷ numbers_where test kept) (numbers_where test kept))
        stays is true = sym (ap (λ s. cond (not s) (one.0 ∷ others id (numbers_where test kept))
            (others id (numbers_where test kept))) is)
        stays is false = refl

        by : (s : Bool) → same_id one.0 id ≡ s
            → numbers_where test (map (change_kept id change) kept) ≡ others id (numbers_where test kept)
            → cond (test (mount_kept one.0 (cond s (change one.1) one.1)))
            (one.0 ∷ numbers_where test (map (change_kept id change) kept))
            (numbers_where test (map (change_kept id change) kept))
            ≡ others id (cond (passes test one) (one.0 ∷ numbers_where test kept) (numbers_where test kept))
        by true is rest = ap (λ b. cond b (one.0 ∷ numbers_where test (map (change_kept id change) kept))
            (numbers_where test (map (change_kept id change) kept))) (fails one.0 one.1)
            ∙ rest ∙ gone is (passes test one)
        by false is rest = ap (λ l. cond (passes test one) (one.0 ∷ l) l) rest ∙ stays is (passes test one)
