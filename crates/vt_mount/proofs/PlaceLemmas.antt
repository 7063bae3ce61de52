-- What stands where, by the lists and by the definitions.
use Rattle.std.proofs.Common.{◌≡◌, ℕ, Bool, true, false, cond, ◌&&◌, ◌||◌, List, [], ◌∷◌, map, filter, not, nat_eq, length, Option, None, Some, option_map, refl, sym, ap, ◌∙◌, arith, eq-eqb, ne_eqb, find, slice_get, unwrap_or, eqb-true}
use Rattle.vt_spec.proofs.Common.{and_true_left, and_true_right, eqb-false, holds_of, list_all, list_any, stands_at, stands_on}
use Rattle.vt_spec.specs.Machine.Mounts as meant
use Rattle.vt_location.specs.declared.locations.Location.{Location}
use Rattle.vt_location.specs.declared.locations.NodeRef.{NodeRef}
use Rattle.vt_location.specs.declared.mounts.Mount.{Mount}
use Rattle.vt_location.specs.declared.numbers.MountId.{MountId}
use Rattle.vt_location.specs.declared.numbers.NamespaceId.{NamespaceId}
use Rattle.vt_location.specs.Locations.{is_small_node, location_of, number_of}
use Rattle.vt_location.specs.SameNodes.{same_node}
use Rattle.vt_location.specs.Numbers.{counted, same_id}
use Rattle.vt_mount.specs.declared.mounted.Mounted.{Mounted}
use Rattle.vt_mount.specs.Indexed.{is_kept_small, numbers_where}
use Rattle.vt_mount.specs.Indexes.{is_at, is_in, is_on, is_over, same_namespace, same_place}
use Rattle.vt_mount.specs.MountsValue.{mount_kept, mounts_in, stands_over}
use Rattle.vt_mount.proofs.EntryLemmas.{entries, mount_under}
use Rattle.vt_mount.proofs.IndexLemmas.{cons-numbers}
use Rattle.vt_location.proofs.NodeLemmas.{nodes_test}
use Rattle.vt_location.proofs.NumberLemmas.{counted_test}

abbrev pub counts : List MountId → List ℕ
counts ids = map (λ id. counted id.count) ids

abbrev pub numbers : List (meant.Mount ℕ) → List ℕ
numbers mounts = map (λ mount. mount.number) mounts

-- a test of mounts as they are kept, and the test that it stands for
module _ (test : Mount → Bool) (seen : meant.Mount ℕ → Bool)
    (agree : (one : MountId × Mounted) → is_kept_small one ≡ true
    → seen (mount_under one.0 one.1) ≡ test (mount_kept one.0 one.1)) where
  pub numbers-seen : (kept : List (MountId × Mounted)) → list_all is_kept_small kept ≡ true
      → counts (numbers_where test kept) ≡ numbers (filter seen (mounts_in (entries kept)))
  numbers-seen [] slots = refl
  numbers-seen (one ∷ kept) slots = ap counts (cons-numbers test one kept)
      ∙ by (test (mount_kept one.0 one.1)) (numbers-seen kept (and_true_right _ _ slots))
      ∙ ap (λ b. numbers (cond b (mount_under one.0 one.1 ∷ filter seen (mounts_in (entries kept)))
      (filter seen (mounts_in (entries kept))))) (sym (agree one (and_true_left _ _ slots)))
    where
      by : (b : Bool) → counts (numbers_where test kept) ≡ numbers (filter seen (mounts_in (entries kept)))
          → counts (cond b (one.0 ∷ numbers_where test kept) (numbers_where test kept))
          ≡ numbers (cond b (mount_under one.0 one.1 ∷ filter seen (mounts_in (entries kept)))
          (filter seen (mounts_in (entries kept))))
      by true rest = ap (λ l. counted one.0.count ∷ l) rest
      by false rest = rest

-- the first that passes, and whether one does
module _ {X : Type 0} (p : X → Bool) (f : X → ℕ) where
  pub found-first : (xs : List X) → option_map f (find p xs) ≡ slice_get (map f (filter p xs)) 0
  found-first [] = refl
  found-first (x ∷ xs) = by (p x) (found-first xs)
    where
      by : (b : Bool) → option_map f (find p xs) ≡ slice_get (map f (filter p xs)) 0
          → option_map f (cond b (Some x) (find p xs)) ≡ slice_get (map f (cond b (x ∷ filter p xs) (filter p xs))) 0
      by true rest = refl
      by false rest = rest

  pub any-found : (xs : List X) → list_any p xs ≡ not (nat_eq (length (map f (filter p xs))) 0)
  any-found [] = refl
  any-found (x ∷ xs) = by (p x) (any-found xs)
    where
      by : (b : Bool) → list_any p xs ≡ not (nat_eq (length (map f (filter p xs))) 0)
          → (b || list_any p xs) ≡ not (nat_eq (length (map f (cond b (x ∷ filter p xs) (filter p xs)))) 0)
      by true rest = sym (ap not (ne_eqb (length (map f (x ∷ filter p xs))) 0 (λ is. omega (arith, is))))
      by false rest = rest

pub first-count : (ids : List MountId)
    → slice_get (counts ids) 0 ≡ option_map (λ id. counted id.count) (slice_get ids 0)
first-count [] = refl
first-count (id ∷ ids) = refl

-- Numbers tell nodes apart

turned-nodes : (a b : NodeRef) → is_small_node a ≡ true → is_small_node b ≡ true
    → nat_eq (number_of b) (number_of a) ≡ same_node a b
turned-nodes a b less few = turned (number_of b) (number_of a) ∙ nodes_test a b less few
  where
    turned : (n m : ℕ) → nat_eq n m ≡ nat_eq m n
    turned n m = by (nat_eq m n) (eqb-true m n) (eqb-false m n)
      where
        by : (t : Bool) → (t ≡ true → m ≡ n) → (t ≡ false → (m ≡ n → ⊥)) → nat_eq n m ≡ t
        by true is apart = eq-eqb n m (sym (is refl))
        by false is apart = ne_eqb n m (λ is. apart refl (sym is))

-- The tests that stand for one another

pub on-agrees : (parent : MountId) (one : MountId × Mounted) → is_kept_small one ≡ true
    → stands_on nat_eq (counted parent.count) (mount_under one.0 one.1) ≡ is_on parent (mount_kept one.0 one.1)
on-agrees parent one slot = by one.1.mount_point
  where
    by : (point : Option Location)
        → holds_of (λ place. nat_eq (counted parent.count) place.mount) (option_map location_of point)
        ≡ holds_of (λ place. same_id parent place.mount) point
    by None = refl
    by (Some place) = counted_test parent.count place.mount.count

pub in-agrees : (namespace : NamespaceId) (one : MountId × Mounted) → is_kept_small one ≡ true
    → holds_of (nat_eq (counted namespace.count)) (mount_under one.0 one.1).namespace
    ≡ is_in namespace (mount_kept one.0 one.1)
in-agrees namespace one slot = by one.1.namespace
  where
    by : (other : Option NamespaceId)
        → holds_of (nat_eq (counted namespace.count)) (option_map (λ n. counted n.count) other)
        ≡ holds_of (same_namespace namespace) other
    by None = refl
    by (Some other) = counted_test namespace.count other.count

pub at-agrees : (location : Location) → is_small_node location.node ≡ true → (one : MountId × Mounted)
    → is_kept_small one ≡ true
    → stands_at nat_eq (location_of location) (mount_under one.0 one.1) ≡ is_at location (mount_kept one.0 one.1)
at-agrees location less one slot = by one.1.mount_point slot
  where
    by : (point : Option Location) → unwrap_or (option_map (λ place. is_small_node place.node) point) true ≡ true
        → holds_of (λ place. nat_eq (counted location.mount.count) place.mount
        && nat_eq (number_of location.node) place.node) (option_map location_of point)
        ≡ holds_of (same_place location) point
    by None slot = refl
    by (Some place) slot = λ i. counted_test location.mount.count place.mount.count i
        && nodes_test location.node place.node less slot i

pub over-agrees : (inode : NodeRef) → is_small_node inode ≡ true → (one : MountId × Mounted) → is_kept_small one ≡ true
    → stands_over (number_of inode) (mount_under one.0 one.1) ≡ is_over inode (mount_kept one.0 one.1)
over-agrees inode less one slot = by one.1.mount_point slot
  where
    by : (point : Option Location) → unwrap_or (option_map (λ place. is_small_node place.node) point) true ≡ true
        → holds_of (λ place. nat_eq place.node (number_of inode)) (option_map location_of point)
        ≡ holds_of (λ place. same_node inode place.node) point
    by None slot = refl
    by (Some place) slot = turned-nodes inode place.node less slot
