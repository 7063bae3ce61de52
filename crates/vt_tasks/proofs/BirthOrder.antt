-- What is kept by hash under names, in the order of births: in what other order it may be kept, and what changes, goes
-- and comes.
use Rattle.std.proofs.Common.{◌≡◌, ◌<◌, ℕ, zero, suc, Bool, true, false, cond, not, ◌&&◌, ◌||◌, List, [], ◌∷◌, ◌++◌, length, map, nat_eq, nat_lt, ne_eqb, ◌+◌, arith, position, slice_get, Option, None, Some, get_or, refl, sym, ap, subst, ◌∙◌, IsPermutation, is_eq, Ordering, Less, Equal, Greater, lt-ltb, ltb-true}
use Rattle.vt_spec.proofs.Common.{AllByRecursion, IsDistinct-head, IsDistinct-tail, IsEquivalence, IsPermutation-cons, IsPermutation-map, IsPermutation-middle, IsPermutation-refl, IsPermutation-sym, IsPermutation-trans, and_from, and_true_left, and_true_right, by_order, keys_of, list_all, list_any, list_any-IsPermutation, lookup, nat_cmp-IsAntisymmetric, nat_cmp_is, nat_eq_equiv, put, remove_entry, same_entries, set_value, slice_get-get_or}
use Rattle.std.specs.List.{IsDistinct}
use Rattle.std.specs.FinMap.Entries.{find}
use Rattle.std.specs.Map.{IsKeyTest, lookup_key}
use Rattle.std.proofs.lemmas.List.Sorted.{IsPermutation-swap_remove, IsPermutation-to_front}
use Rattle.indexmap.specs.IndexMap.{swap_remove_entry}
use Rattle.indexmap.proofs.MapLemmas.{Found-position, distinct_permutation, lookup_permutation, swap_remove_entry-found, swap_remove_entry-missing}
use Rattle.vt_location.specs.InOrder.{cmp_by, in_order_by}
use Rattle.vt_location.proofs.OrderLemmas.{cmp_total, found-in_order, rises-in_order, same_by}

abbrev own : ℕ → ℕ
own birth = birth

abbrev cmp : ℕ → ℕ → Ordering
cmp = cmp_by own

-- What is kept under births, each changed by a function
module _ {X Y : Type 0} (change : X → Y) where
  abbrev changed_one : ℕ × X → ℕ × Y
  changed_one one = (one.0, change one.1)

  put-changed : (k : ℕ) (x : X) (kept : List (ℕ × X))
      → put cmp k (change x) (map changed_one kept) ≡ map changed_one (put cmp k x kept)
  put-changed k x [] = refl
  put-changed k x (one ∷ kept) = by (cmp k one.0) (put-changed k x kept)
    where
      by : (o : Ordering) → put cmp k (change x) (map changed_one kept) ≡ map changed_one (put cmp k x kept)
          → by_order o ((k, change x) ∷ changed_one one ∷ map changed_one kept)
          ((one.0, change x) ∷ map changed_one kept) (changed_one one ∷ put cmp k (change x) (map changed_one kept))
          ≡ map changed_one (by_order o ((k, x) ∷ one ∷ kept) ((one.0, x) ∷ kept) (one ∷ put cmp k x kept))
      by Less rest = refl
      by Equal rest = refl
      by Greater rest = ap (λ l. changed_one one ∷ l) rest

  order-changed : (kept : List (ℕ × X))
      → in_order_by own (map changed_one kept) ≡ map changed_one (in_order_by own kept)
  order-changed [] = refl
  order-changed (one ∷ kept) =
      ap (put cmp one.0 (change one.1)) (order-changed kept) ∙ put-changed one.0 one.1 (in_order_by own kept)

  values-changed : (kept : List (ℕ × X)) → map (λ one. one.1) (map changed_one kept) ≡ map change (map (λ one. one.1) kept)
  values-changed [] = refl
  values-changed (one ∷ kept) = ap (λ l. change one.1 ∷ l) (values-changed kept)

module _ (K V : Type 0) (birth : V → ℕ) where
  abbrev E : Type 0
  E = K × V

  abbrev born : E → ℕ
  born e = birth e.1

  abbrev births : List E → List ℕ
  births es = map (λ e. birth e.1) es

  abbrev under_birth : List E → List (ℕ × E)
  under_birth es = map (λ e. (birth e.1, e)) es

  abbrev sorted : List E → List (ℕ × E)
  sorted es = in_order_by own (under_birth es)

  abbrev entries : List (ℕ × E) → List E
  entries kept = map (λ one. one.1) kept

  abbrev ordered : List E → List E
  ordered es = entries (sorted es)

  -- One that is put in its place, where none has its birth

  put-permutes : (k : ℕ) (e : E) (kept : List (ℕ × E)) → find cmp k kept ≡ None
      → IsPermutation (e ∷ entries kept) (entries (put cmp k e kept))
  put-permutes k e [] absent = IsPermutation-refl (e ∷ [])
  put-permutes k e (x ∷ kept) absent = by (cmp k x.0) absent (put-permutes k e kept)
    where
      by : (o : Ordering) → cond (is_eq o) (Some x.1) (find cmp k kept) ≡ None
          → (find cmp k kept ≡ None → IsPermutation (e ∷ entries kept) (entries (put cmp k e kept)))
          → IsPermutation (e ∷ x.1 ∷ entries kept)
          (entries (by_order o ((k, e) ∷ x ∷ kept) ((x.0, e) ∷ kept) (x ∷ put cmp k e kept)))
      by Less absent rest = IsPermutation-refl (e ∷ x.1 ∷ entries kept)
      by Equal absent rest = absurd cc
      by Greater absent rest =
          IsPermutation-trans (e ∷ x.1 ∷ entries kept) (x.1 ∷ e ∷ entries kept) (x.1 ∷ entries (put cmp k e kept))
          (IsPermutation-sym _ _ (IsPermutation-middle (x.1 ∷ []) e (entries kept)))
          (IsPermutation-cons x.1 (e ∷ entries kept) (entries (put cmp k e kept)) (rest absent))

  -- behind all others
  put-last : (k : ℕ) (e : E) (kept : List (ℕ × E)) → list_all (λ one. nat_lt one.0 k) kept ≡ true
      → put cmp k e kept ≡ kept ++ (k, e) ∷ []
  put-last k e [] above = refl
  put-last k e (x ∷ kept) above = ap (λ o. by_order o ((k, e) ∷ x ∷ kept) ((x.0, e) ∷ kept) (x ∷ put cmp k e kept))
      (sym (nat_cmp_is k x.0 Greater (ltb-true x.0 k (and_true_left _ _ above))))
      ∙ ap (λ rest. x ∷ rest) (put-last k e kept (and_true_right _ _ above))

  all-put : (p : ℕ × E → Bool) (k : ℕ) (e : E) (kept : List (ℕ × E)) → p (k, e) ≡ true → list_all p kept ≡ true
      → ((n : ℕ) (a b : E) → p (n, a) ≡ p (n, b)) → list_all p (put cmp k e kept) ≡ true
  all-put p k e [] here all key = and_from (p (k, e)) true here refl
  all-put p k e (x ∷ kept) here all key = by (cmp k x.0) (all-put p k e kept here (and_true_right _ _ all) key)
    where
      by : (o : Ordering) → list_all p (put cmp k e kept) ≡ true
          → list_all p (by_order o ((k, e) ∷ x ∷ kept) ((x.0, e) ∷ kept) (x ∷ put cmp k e kept)) ≡ true
      by Less rest = and_from _ _ here all
      by Equal rest = and_from _ _ (key x.0 e x.1 ∙ and_true_left _ _ all) (and_true_right _ _ all)
      by Greater rest = and_from _ _ (and_true_left _ _ all) rest

  -- the one that was put is taken out
  removed-put : (test : K → Bool) (k : ℕ) (e : E) (kept : List (ℕ × E)) → find cmp k kept ≡ None → test e.0 ≡ true
      → lookup test (entries kept) ≡ None → remove_entry test (entries (put cmp k e kept)) ≡ entries kept
  removed-put test k e [] absent is none = ap (λ b. cond b [] (e ∷ [])) is
  removed-put test k e (x ∷ kept) absent is none =
      by (cmp k x.0) absent (test x.1.0) refl none (λ a n. removed-put test k e kept a is n)
    where
      by : (o : Ordering) → cond (is_eq o) (Some x.1) (find cmp k kept) ≡ None → (b : Bool) → test x.1.0 ≡ b
          → cond b (Some x.1.1) (lookup test (entries kept)) ≡ None
          → (find cmp k kept ≡ None → lookup test (entries kept) ≡ None
          → remove_entry test (entries (put cmp k e kept)) ≡ entries kept)
          → remove_entry test (entries (by_order o ((k, e) ∷ x ∷ kept) ((x.0, e) ∷ kept) (x ∷ put cmp k e kept)))
          ≡ x.1 ∷ entries kept
      by Less absent b same none rest = ap (λ b. cond b (x.1 ∷ entries kept)
          (e ∷ cond (test x.1.0) (entries kept) (x.1 ∷ remove_entry test (entries kept)))) is
      by Equal absent b same none rest = absurd cc
      by Greater absent true same none rest = absurd cc
      by Greater absent false same none rest =
          ap (λ b. cond b (entries (put cmp k e kept)) (x.1 ∷ remove_entry test (entries (put cmp k e kept)))) same
          ∙ ap (λ l. x.1 ∷ l) (rest absent none)

  -- Births that differ

  absent-births : (k : ℕ) (es : List E) → AllByRecursion (λ y. nat_eq k y ≡ false) (births es)
      → lookup (same_by own k) (under_birth es) ≡ None
  absent-births k [] apart = refl
  absent-births k (e ∷ es) apart =
      ap (λ b. cond b (Some e) (lookup (same_by own k) (under_birth es))) apart.0 ∙ absent-births k es apart.1

  unborn : (k : ℕ) (es : List E) → AllByRecursion (λ y. nat_eq k y ≡ false) (births es) → find cmp k (sorted es) ≡ None
  unborn k es apart = found-in_order own k (under_birth es) ∙ absent-births k es apart

  pub permuted : (es : List E) → IsDistinct nat_eq (births es) → IsPermutation es (ordered es)
  permuted [] distinct = IsPermutation-refl []
  permuted (e ∷ es) distinct = IsPermutation-trans (e ∷ es) (e ∷ ordered es) (ordered (e ∷ es))
      (IsPermutation-cons e es (ordered es) (permuted es (IsDistinct-tail nat_eq (born e) (births es) distinct)))
      (put-permutes (born e) e (sorted es) (unborn (born e) es (IsDistinct-head nat_eq (born e) (births es) distinct)))

  keys-under : (es : List E) → keys_of (under_birth es) ≡ births es
  keys-under [] = refl
  keys-under (e ∷ es) = ap (λ l. born e ∷ l) (keys-under es)

  -- the order in which they are kept does not matter
  same-sorted : (es fs : List E) → IsPermutation es fs → IsDistinct nat_eq (births es) → sorted es ≡ sorted fs
  same-sorted es fs moves distinct =
      same_entries cmp (cmp_total own) (λ x y tie. nat_cmp-IsAntisymmetric x y tie) (sorted es) (sorted fs)
      (rises-in_order own (under_birth es)) (rises-in_order own (under_birth fs))
      (λ q. found-in_order own q (under_birth es)
      ∙ sym (lookup_permutation nat_eq_equiv (under_birth es) (under_birth fs)
      (IsPermutation-map (λ e. (birth e.1, e)) es fs moves) (subst (IsDistinct nat_eq) (sym (keys-under fs))
      (distinct_permutation nat_eq_equiv (births es) (births fs)
      (IsPermutation-map (λ e. birth e.1) es fs moves) distinct)) (nat_eq q) (nat_eq_equiv.congr q))
      ∙ sym (found-in_order own q (under_birth fs)))

  -- What entries show, where their births stay

  module _ {Y : Type 0} where
    abbrev shown : (E → Y) → List E → List (ℕ × Y)
    shown show es = map (λ e. (birth e.1, show e)) es

    shown-under : (show : E → Y) (es : List E) → shown show es ≡ map (changed_one show) (under_birth es)
    shown-under show [] = refl
    shown-under show (e ∷ es) = ap (λ l. (birth e.1, show e) ∷ l) (shown-under show es)

    pub shows : (show : E → Y) (es : List E)
        → map show (ordered es) ≡ map (λ one. one.1) (in_order_by own (shown show es))
    shows show es = sym (values-changed show (sorted es))
        ∙ ap (map (λ one. one.1)) (sym (order-changed show (under_birth es)) ∙ ap (in_order_by own)
        (sym (shown-under show es)))

    shown-same : (f g : E → Y) (es fs : List E) → births fs ≡ births es → map f fs ≡ map g es → shown f fs ≡ shown g es
    shown-same f g [] [] same is = refl
    shown-same f g [] (y ∷ fs) same is = absurd cc
    shown-same f g (e ∷ es) [] same is = absurd cc
    shown-same f g (e ∷ es) (y ∷ fs) same is =
        let first : born y ≡ born e = cc in
        let rest : births fs ≡ births es = cc in
        let here : f y ≡ g e = cc in
        let later : map f fs ≡ map g es = cc in
        λ i. (first i, here i) ∷ shown-same f g es fs rest later i

    pub ordered-same : (f g : E → Y) (es fs : List E) → births fs ≡ births es → map f fs ≡ map g es
        → map f (ordered fs) ≡ map g (ordered es)
    ordered-same f g es fs same is =
        shows f fs ∙ ap (λ kept. map (λ one. one.1) (in_order_by own kept)) (shown-same f g es fs same is)
        ∙ sym (shows g es)

  itself : (es : List E) → map (λ e. e) es ≡ es
  itself [] = refl
  itself (e ∷ es) = ap (λ l. e ∷ l) (itself es)

  map-twice : (change : E → E) (es : List E) → map (λ e. e) (map change es) ≡ map change es
  map-twice change es = itself (map change es)

  pub ordered-changed : (change : E → E) (es : List E) → births (map change es) ≡ births es
      → ordered (map change es) ≡ map change (ordered es)
  ordered-changed change es same = sym (itself (ordered (map change es)))
      ∙ ordered-same (λ e. e) change es (map change es) same (map-twice change es)

  pub above-sorted : (next : ℕ) (es : List E) → list_all (λ n. nat_lt n next) (births es) ≡ true
      → list_all (λ one. nat_lt one.0 next) (sorted es) ≡ true
  above-sorted next [] all = refl
  above-sorted next (e ∷ es) all = all-put (λ one. nat_lt one.0 next) (born e) e (sorted es) (and_true_left _ _ all)
      (above-sorted next es (and_true_right _ _ all)) (λ n a b. refl)

  births-moved : (es fs : List E) → IsPermutation es fs → IsDistinct nat_eq (births es) → IsDistinct nat_eq (births fs)
  births-moved es fs moves distinct =
      distinct_permutation nat_eq_equiv (births es) (births fs) (IsPermutation-map (λ e. birth e.1) es fs moves)
      distinct

  all-any : (p : ℕ → Bool) (ns : List ℕ) → list_all p ns ≡ not (list_any (λ n. not (p n)) ns)
  all-any p [] = refl
  all-any p (n ∷ ns) = ap (λ b. p n && b) (all-any p ns) ∙ by (p n) (list_any (λ n. not (p n)) ns)
    where
      by : (a b : Bool) → (a && not b) ≡ not (not a || b)
      by true b = refl
      by false b = refl

  all-moved : (p : ℕ → Bool) (es fs : List E) → IsPermutation es fs → list_all p (births es) ≡ list_all p (births fs)
  all-moved p es fs moves = all-any p (births es)
      ∙ ap not (list_any-IsPermutation (λ n. not (p n)) (births es) (births fs)
      (IsPermutation-map (λ e. birth e.1) es fs moves)) ∙ sym (all-any p (births fs))

  -- One behind all others

  before-apart : (k : ℕ) (ns : List ℕ) → list_all (λ n. nat_lt n k) ns ≡ true
      → AllByRecursion (λ n. nat_eq k n ≡ false) ns
  before-apart k [] before = tt
  before-apart k (n ∷ ns) before = (
    ne_eqb k n (λ same. omega (arith, same, ltb-true n k (and_true_left _ _ before))),
    before-apart k ns (and_true_right _ _ before),
  )

  one-more : (e : E) (es : List E) → IsDistinct nat_eq (births es)
      → list_all (λ n. nat_lt n (born e)) (births es) ≡ true → IsDistinct nat_eq (births (e ∷ es))
  unfolding IsDistinct
  one-more e es distinct before = (before-apart (born e) (births es) before, distinct)

  pub births-last : (e : E) (es : List E) → IsDistinct nat_eq (births es)
      → list_all (λ n. nat_lt n (born e)) (births es) ≡ true → IsDistinct nat_eq (births (es ++ e ∷ []))
  births-last e es distinct before =
      births-moved (e ∷ es) (es ++ e ∷ []) (IsPermutation-sym (es ++ e ∷ []) (e ∷ es) (IsPermutation-to_front es e))
      (one-more e es distinct before)

  pub before-last : (e : E) (es : List E) → list_all (λ n. nat_lt n (born e)) (births es) ≡ true
      → list_all (λ n. nat_lt n (born e + 1)) (births (es ++ e ∷ [])) ≡ true
  before-last e es before = all-moved (λ n. nat_lt n (born e + 1)) (es ++ e ∷ []) (e ∷ es) (IsPermutation-to_front es e)
      ∙ and_from (nat_lt (born e) (born e + 1)) _ (lt-ltb (born e) (born e + 1) (omega arith)) (later (births es) before)
    where
      later : (ns : List ℕ) → list_all (λ n. nat_lt n (born e)) ns ≡ true
          → list_all (λ n. nat_lt n (born e + 1)) ns ≡ true
      later [] before = refl
      later (n ∷ ns) before =
          let less = ltb-true n (born e) (and_true_left _ _ before) in
          and_from (nat_lt n (born e + 1)) _ (lt-ltb n (born e + 1) (omega arith))
          (later ns (and_true_right _ _ before))

  pub ordered-last : (e : E) (es : List E) → IsDistinct nat_eq (births es)
      → list_all (λ n. nat_lt n (born e)) (births es) ≡ true → ordered (es ++ e ∷ []) ≡ ordered es ++ e ∷ []
  ordered-last e es distinct before =
      ap entries (same-sorted (es ++ e ∷ []) (e ∷ es) (IsPermutation-to_front es e) (births-last e es distinct before)
      ∙ put-last (born e) e (sorted es) (above-sorted (born e) es before)) ∙ entries-last (sorted es)
    where
      entries-last : (kept : List (ℕ × E)) → entries (kept ++ (born e, e) ∷ []) ≡ entries kept ++ e ∷ []
      entries-last [] = refl
      entries-last (one ∷ kept) = ap (λ l. one.1 ∷ l) (entries-last kept)

  -- One that goes, its place taken by the last

  key-found : (es : List E) (i : ℕ) (x : E) → slice_get es i ≡ Some x → slice_get (keys_of es) i ≡ Some x.0
  key-found [] i x here = absurd cc
  key-found (e ∷ es) zero x here = (let is : e ≡ x = cc in ap (λ e. Some e.0) is)
  key-found (e ∷ es) (suc i) x here = key-found es i x here

  key-passes : (test : K → Bool) (es : List E) (k : K) → lookup_key test es ≡ Some k → test k ≡ true
  key-passes test [] k found = absurd cc
  key-passes test (e ∷ es) k found = by (test e.0) refl found (key-passes test es k)
    where
      by : (b : Bool) → test e.0 ≡ b → cond b (Some e.0) (lookup_key test es) ≡ Some k
          → (lookup_key test es ≡ Some k → test k ≡ true) → test k ≡ true
      by true passes found rest = (let is : e.0 ≡ k = cc in ap test (sym is) ∙ passes)
      by false passes found rest = rest found

  at_index : (es : List E) (i : ℕ) → i < length es → (x : E) × (slice_get es i ≡ Some x)
  at_index [] i within = absurd (omega arith)
  at_index (d ∷ ds) i within = (get_or (d ∷ ds) i d, slice_get-get_or (d ∷ ds) i d within)

  remove-absent : (test : K → Bool) (es : List E) → lookup test es ≡ None → remove_entry test es ≡ es
  remove-absent test [] none = refl
  remove-absent test (e ∷ es) none = by (test e.0) none (remove-absent test es)
    where
      by : (b : Bool) → cond b (Some e.1) (lookup test es) ≡ None → (lookup test es ≡ None → remove_entry test es ≡ es)
          → cond b es (e ∷ remove_entry test es) ≡ e ∷ es
      by true none rest = absurd cc
      by false none rest = ap (λ l. e ∷ l) (rest none)

  module _ (eq : K → K → Bool) (equivalence : IsEquivalence eq) (test : K → Bool) (key : IsKeyTest eq test) where
    -- a look-up does not depend on the order
    pub looked-ordered : (es : List E) → IsDistinct nat_eq (births es) → IsDistinct eq (keys_of (ordered es))
        → lookup test (ordered es) ≡ lookup test es
    looked-ordered es distinct keys = lookup_permutation equivalence es (ordered es) (permuted es distinct) keys test key

    pub keys-ordered : (es : List E) → IsDistinct nat_eq (births es) → IsDistinct eq (keys_of es)
        → IsDistinct eq (keys_of (ordered es))
    keys-ordered es distinct keys = distinct_permutation equivalence (keys_of es) (keys_of (ordered es))
        (IsPermutation-map (λ e. e.0) es (ordered es) (permuted es distinct)) keys

    -- what is left when one goes
    pub record IsLeft (es fs : List E) : Type 0 where
      pub ordered_so : ordered fs ≡ remove_entry test (ordered es)
      pub births_apart : IsDistinct nat_eq (births fs)
      pub births_kept : (p : ℕ → Bool) → list_all p (births es) ≡ true → list_all p (births fs) ≡ true

    one-left : (es fs : List E) (x : E) → IsPermutation es (x ∷ fs) → test x.0 ≡ true → lookup test fs ≡ None
        → IsDistinct nat_eq (births es) → IsDistinct eq (keys_of fs) → IsLeft es fs
    one-left es fs x moves is none distinct keys =
        let more = births-moved es (x ∷ fs) moves distinct in
        let apart = IsDistinct-tail nat_eq (born x) (births fs) more in
        record {
          ordered_so = sym (ap (λ kept. remove_entry test (entries kept)) (same-sorted es (x ∷ fs) moves distinct)
              ∙ removed-put test (born x) x (sorted fs)
              (unborn (born x) fs (IsDistinct-head nat_eq (born x) (births fs) more)) is
              (looked-ordered fs apart (keys-ordered fs apart keys) ∙ none));
          births_apart = apart;
          births_kept = λ p all. and_true_right _ _ (sym (all-moved p es (x ∷ fs) moves) ∙ all);
        }

    pub left : (es fs : List E) → fs ≡ swap_remove_entry test es → lookup test fs ≡ None
        → IsDistinct nat_eq (births es) → IsDistinct eq (keys_of fs) → IsLeft es fs
    left es fs is none distinct keys = by (position test (keys_of es)) refl
      where
        found : (i : ℕ) (x : E) → position test (keys_of es) ≡ Some i → i < length es → slice_get es i ≡ Some x
            → test x.0 ≡ true → IsLeft es fs
        found i x at within here passes =
            let same : x ≡ get_or es i x = (let e = sym here ∙ slice_get-get_or es i x within in cc) in
            one-left es fs x (subst (λ l. IsPermutation es (x ∷ l)) (sym (is ∙ swap_remove_entry-found test es i x at))
            (IsPermutation-swap_remove es i x within same)) passes none distinct keys

        by : (o : Option ℕ) → position test (keys_of es) ≡ o → IsLeft es fs
        by None at =
            let same = is ∙ swap_remove_entry-missing test es at in
            record {
              ordered_so = sym (remove-absent test (ordered es) (ap (λ l. lookup test (ordered l)) (sym same)
                  ∙ looked-ordered fs (subst (λ l. IsDistinct nat_eq (births l)) (sym same) distinct)
                  (keys-ordered fs (subst (λ l. IsDistinct nat_eq (births l)) (sym same) distinct) keys) ∙ none)
                  ∙ ap ordered (sym same));
              births_apart = subst (λ l. IsDistinct nat_eq (births l)) (sym same) distinct;
              births_kept = λ p all. ap (λ l. list_all p (births l)) same ∙ all;
            }
        by (Some i) at =
            let f = Found-position test es i at in
            let x = at_index es i f.within in
            found i x.0 at f.within x.1 (key-passes test es x.0.0 (f.key ∙ key-found es i x.0 x.1))

    -- One that is given another value of the same birth

    abbrev given : V → E → E
    given w e = cond (test e.0) (e.0, w) e

    none-given : (w : V) (k : K) (es : List E) → test k ≡ true → AllByRecursion (λ y. eq k y ≡ false) (keys_of es)
        → map (given w) es ≡ es
    none-given w k [] here apart = refl
    none-given w k (e ∷ es) here apart =
        λ i. cond ((key k e.0 here ∙ apart.0) i) (e.0, w) e ∷ none-given w k es here apart.1 i

    set-given : (w : V) (es : List E) → IsDistinct eq (keys_of es) → set_value test es w ≡ map (given w) es
    set-given w [] keys = refl
    set-given w (e ∷ es) keys = by (test e.0) refl (set-given w es (IsDistinct-tail eq e.0 (keys_of es) keys))
      where
        by : (b : Bool) → test e.0 ≡ b → set_value test es w ≡ map (given w) es
            → cond b ((e.0, w) ∷ es) (e ∷ set_value test es w) ≡ cond b (e.0, w) e ∷ map (given w) es
        by true is rest = ap (λ l. (e.0, w) ∷ l)
            (sym (none-given w e.0 es is (IsDistinct-head eq e.0 (keys_of es) keys)))
        by false is rest = ap (λ l. e ∷ l) rest

    pub births-set : (x w : V) (es : List E) → lookup test es ≡ Some x → birth w ≡ birth x
        → births (set_value test es w) ≡ births es
    births-set x w [] found same = refl
    births-set x w (e ∷ es) found same = by (test e.0) found (births-set x w es)
      where
        by : (b : Bool) → cond b (Some e.1) (lookup test es) ≡ Some x
            → (lookup test es ≡ Some x → birth w ≡ birth x → births (set_value test es w) ≡ births es)
            → births (cond b ((e.0, w) ∷ es) (e ∷ set_value test es w)) ≡ births (e ∷ es)
        by true found rest = (let is : e.1 ≡ x = cc in ap (λ n. n ∷ births es) (same ∙ ap birth (sym is)))
        by false found rest = ap (λ l. born e ∷ l) (rest found same)

    pub ordered-set : (x w : V) (es : List E) → lookup test es ≡ Some x → birth w ≡ birth x
        → IsDistinct nat_eq (births es) → IsDistinct eq (keys_of es)
        → ordered (set_value test es w) ≡ set_value test (ordered es) w
    ordered-set x w es found same distinct keys = ap ordered (set-given w es keys)
        ∙ ordered-changed (given w) es (ap births (sym (set-given w es keys)) ∙ births-set x w es found same)
        ∙ sym (set-given w (ordered es) (keys-ordered es distinct keys))
