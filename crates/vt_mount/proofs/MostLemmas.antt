-- The most mounts that a namespace has had.
use Rattle.std.proofs.Common.{◌≡◌, ◌⊎◌, inl, inr, ⊎_elim, ℕ, Bool, true, false, cond, ◌≤◌, List, [], ◌∷◌, Option, None, Some, option_map, filter, length, nat_eq, refl, sym, ap, ◌∙◌, arith, subst, eqb-true, max}
use Rattle.vt_spec.proofs.Common.{holds_of, length-map}
use Rattle.vt_spec.specs.Machine.Mounts as meant
use Rattle.std.proofs.Math.Nat.{le-max_left, le-max_right}
use Rattle.std.proofs.lemmas.List.Sums.{count_by-le-length, length-filter}
use Rattle.vt_location.specs.declared.numbers.MountId.{MountId}
use Rattle.vt_location.specs.declared.numbers.NamespaceId.{NamespaceId}
use Rattle.vt_location.specs.Numbers.{counted}
use Rattle.std.specs.declared.cmp.PartialEq as equal
use Rattle.vt_mount.specs.declared.ascending.Ordered as ordered
use Rattle.vt_mount.specs.declared.indexes.Indexes.{Indexes}
use Rattle.vt_mount.specs.declared.lists.ListsBy.{ListsBy}
use Rattle.vt_mount.specs.declared.mounted.Mounted.{Mounted}
use Rattle.vt_mount.specs.Attached.{attached_in}
use Rattle.vt_mount.specs.Indexed.{IsIndexed, numbers_where}
use Rattle.vt_mount.specs.Indexes.{is_in}
use Rattle.vt_mount.proofs.EntryLemmas.{entries, mount_under}
use Rattle.vt_mount.proofs.PlaceLemmas.{in-agrees, numbers-seen}
use Rattle.vt_mount.specs.Listed.{NoneHasMore, listed, same_namespace}

-- lists that are as they were have no more than before
pub none_more-same : {o : ordered.Ghosts MountId} {e : equal.Ghosts MountId}
    (was is : ListsBy NamespaceId MountId o e) (most : ℕ)
    → ((q : NamespaceId) → listed same_namespace q is ≡ listed same_namespace q was)
    → NoneHasMore was most → NoneHasMore is most
none_more-same was is most same bounded q = subst (λ list. length list ≤ most) (sym (same q)) (bounded q)

-- nor have they if one of them changed, and it has no more
pub none_more-changed : {o : ordered.Ghosts MountId} {e : equal.Ghosts MountId}
    (was is : ListsBy NamespaceId MountId o e) (namespace : NamespaceId) (f : List MountId → List MountId)
    (most more : ℕ) → ((q : NamespaceId) → listed same_namespace q is
    ≡ cond (same_namespace q namespace) (f (listed same_namespace q was)) (listed same_namespace q was))
    → ((q : NamespaceId) → same_namespace q namespace ≡ true → length (f (listed same_namespace q was)) ≤ more)
    → most ≤ more → NoneHasMore was most → NoneHasMore is more
none_more-changed was is namespace f most more changed fits grown bounded q =
    subst (λ list. length list ≤ more) (sym (changed q)) (by (same_namespace q namespace) refl)
  where
    by : (b : Bool) → same_namespace q namespace ≡ b
        → length (cond b (f (listed same_namespace q was)) (listed same_namespace q was)) ≤ more
    by true same = fits q same
    by false other = let before = bounded q in omega (arith, before, grown)

-- and one that a mount leaves has no more
pub none_more-removed : {o : ordered.Ghosts MountId} {e : equal.Ghosts MountId}
    (was is : ListsBy NamespaceId MountId o e) (namespace : NamespaceId) (test : MountId → Bool) (most : ℕ)
    → ((q : NamespaceId) → listed same_namespace q is
    ≡ cond (same_namespace q namespace) (filter test (listed same_namespace q was)) (listed same_namespace q was))
    → NoneHasMore was most → NoneHasMore is most
none_more-removed was is namespace test most changed bounded =
    none_more-changed was is namespace (filter test) most most changed (λ q same.
    let fewer = count_by-le-length test (listed same_namespace q was) in
    let counted = length-filter test (listed same_namespace q was) in
    let before = bounded q in
    omega (arith, fewer, counted, before)) (omega arith) bounded

-- a list that gets a mount is bounded by the greater of the bound before and its own length
pub none_more-added : {o : ordered.Ghosts MountId} {e : equal.Ghosts MountId}
    (was is : ListsBy NamespaceId MountId o e) (namespace : NamespaceId) (f : List MountId → List MountId)
    (list : List MountId) (most more : ℕ) → ((q : NamespaceId) → listed same_namespace q is
    ≡ cond (same_namespace q namespace) (f (listed same_namespace q was)) (listed same_namespace q was))
    → list ≡ listed same_namespace namespace is → more ≡ max most (length list)
    → NoneHasMore was most → NoneHasMore is more
none_more-added was is namespace f list most more changed is_list greater =
    none_more-changed was is namespace f most more changed (λ q same.
    let it : length list ≡ length (f (listed same_namespace q was)) =
    ap (λ list. length list) (is_list ∙ ap (λ one. listed same_namespace one is) (sym (is_one q same)) ∙ changed q
    ∙ ap (λ b. cond b (f (listed same_namespace q was)) (listed same_namespace q was)) same) in
    let fits = le-max_right most (length list) in
    omega (arith, it, fits, greater)) (let grown = le-max_left most (length list) in omega (arith, grown, greater))
  where
    is_one : (q : NamespaceId) → same_namespace q namespace ≡ true → q ≡ namespace
    is_one q same = let count = eqb-true q.count namespace.count same in λ i. record { count = count i }

-- the number is that of a namespace, or none of these mounts is in it
abbrev NamesOneOrNone : ℕ → List (meant.Mount ℕ) → Type 0
NamesOneOrNone number mounts =
    ((namespace : NamespaceId) × (counted namespace.count ≡ number)) ⊎ (length mounts ≡ 0)

counted_or_none : (number : ℕ) (kept : List (MountId × Mounted))
    → NamesOneOrNone number (attached_in number (entries kept))
counted_or_none number [] = inr refl
counted_or_none number (one ∷ kept) = by one.1.namespace (counted_or_none number kept)
  where
    at : (namespace : NamespaceId) (b : Bool) → nat_eq number (counted namespace.count) ≡ b
        → NamesOneOrNone number (attached_in number (entries kept)) → NamesOneOrNone number
        (cond b (mount_under one.0 one.1 ∷ attached_in number (entries kept)) (attached_in number (entries kept)))
    at namespace true is later = inl (namespace, sym (eqb-true number (counted namespace.count) is))
    at namespace false is later = later

    by : (o : Option NamespaceId) → NamesOneOrNone number (attached_in number (entries kept)) → NamesOneOrNone number
        (cond (holds_of (nat_eq number) (option_map (λ n. counted n.count) o))
        (mount_under one.0 one.1 ∷ attached_in number (entries kept)) (attached_in number (entries kept)))
    by None later = later
    by (Some namespace) later = at namespace _ refl later

-- no namespace has more mounts than its list
pub attached_at_most : (indexes : Indexes) (kept : List (MountId × Mounted)) → IsIndexed indexes kept → (most : ℕ)
    → NoneHasMore indexes.by_namespace.lists most
    → (number : ℕ) → length (attached_in number (entries kept)) ≤ most
attached_at_most indexes kept indexed most bounded number =
    ⊎_elim (λ it. subst (λ number. length (attached_in number (entries kept)) ≤ most) it.1 (listed_at_most it.0))
    (λ none. omega (arith, none)) (counted_or_none number kept)
  where
    listed_at_most : (namespace : NamespaceId) → length (attached_in (counted namespace.count) (entries kept)) ≤ most
    listed_at_most namespace =
        let seen = numbers-seen (is_in namespace)
        (λ mount. holds_of (nat_eq (counted namespace.count)) mount.namespace) (in-agrees namespace) kept indexed.slots in
        let as_numbers =
        length-map (attached_in (counted namespace.count) (entries kept)) (λ (mount : meant.Mount ℕ). mount.number) in
        let as_counts = length-map (numbers_where (is_in namespace) kept) (λ (id : MountId). counted id.count) in
        let same = ap (λ list. length list) seen in
        let is_listed = ap (λ list. length list) (indexed.namespace namespace) in
        let few = bounded namespace in
        omega (arith, as_numbers, as_counts, same, is_listed, few)
