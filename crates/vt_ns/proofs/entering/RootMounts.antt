-- The root mount of a namespace, among the mounts that are listed for it.
use Rattle.std.proofs.Common.{◌≡◌, refl, sym, ap, ◌∙◌, ℕ, zero, suc, ◌+◌, nat_eq, Bool, true, false, cond, not, List, [], ◌∷◌, map, filter, find, take, Option, Some, None, option_map, is_some, length, get_or, ◌<◌, arith, slice_get}
use Rattle.vt_spec.proofs.Common.{Mount, holds_of, same_Some, slice_get-get_or, slice_get-map}
use Rattle.vt_ns.proofs.Common.{MountEntry, among-from_filter, among-from_map, are_ascending, counted, is_some_mapped, location_of, mount_of, mounts_in}
use Rattle.vt_laws_trees.proofs.trees.Lists.{nth_among}
use Rattle.vt_location.specs.declared.mounts.Mount.{Mount as Attached}
use Rattle.vt_location.specs.declared.numbers.MountId.{MountId}
use Rattle.vt_ns.specs.Entering.{root_mount_in}
use Rattle.vt_mounting.proofs.detach.EndingLemmas.{entry_ascending}
use Rattle.vt_mounting.proofs.detach.Shown.{found_entry}

-- the first that passes is the next one, or none of those with it passes
pub next_passes : {A : Type 0} (p : A → Bool) (xs : List A) (n : ℕ) (x : A) → find p (take n xs) ≡ None
    → slice_get xs n ≡ Some x → p x ≡ true → find p xs ≡ Some x
next_passes p [] n x none at passed = absurd cc
next_passes p (y ∷ ys) zero x none at passed =
    let same : y ≡ x = same_Some y x at in ap (λ b. cond b (Some y) (find p ys)) (ap p same ∙ passed) ∙ ap Some same
next_passes p (y ∷ ys) (suc n) x none at passed = by (p y) none (λ f. next_passes p ys n x f at passed)
  where
    by : (b : Bool) → cond b (Some y) (find p (take n ys)) ≡ None → (find p (take n ys) ≡ None → find p ys ≡ Some x)
        → cond b (Some y) (find p ys) ≡ Some x
    by true f later = absurd cc
    by false f later = later f

none_so_far : {A : Type 0} (p : A → Bool) (xs : List A) (n : ℕ) (x : A) → find p (take n xs) ≡ None
    → slice_get xs n ≡ Some x → p x ≡ false → find p (take (suc n) xs) ≡ None
none_so_far p [] n x none at failed = absurd cc
none_so_far p (y ∷ ys) zero x none at failed = ap (λ b. cond b (Some y) None) (ap p (same_Some y x at) ∙ failed)
none_so_far p (y ∷ ys) (suc n) x none at failed = by (p y) none (λ f. none_so_far p ys n x f at failed)
  where
    by : (b : Bool) → cond b (Some y) (find p (take n ys)) ≡ None
        → (find p (take n ys) ≡ None → find p (take (suc n) ys) ≡ None)
        → cond b (Some y) (find p (take (suc n) ys)) ≡ None
    by true f later = absurd cc
    by false f later = later f

-- where one more does not pass none has yet
pub none_passes_yet : {A : Type 0} (p : A → Bool) (xs : List A) (n : ℕ) (x : A) → find p (take n xs) ≡ None
    → slice_get xs n ≡ Some x → p x ≡ false → find p (take (n + 1) xs) ≡ None
none_passes_yet p xs n x none at failed =
    let next : n + 1 ≡ suc n = omega arith in ap (λ k. find p (take k xs)) next ∙ none_so_far p xs n x none at failed

-- a listed number is that of a mount of the namespace
pub listed_at : (entries : List MountEntry) (namespace : ℕ) (ids : List MountId) (n : ℕ) (id : MountId)
    → are_ascending (mounts_in entries) ≡ true → map (λ (id : MountId). counted id.count) ids
    ≡ map (λ mount. mount.number) (filter (λ mount. holds_of (nat_eq namespace) mount.namespace) (mounts_in entries))
    → slice_get ids n ≡ Some id → (mount : Mount ℕ) × (slice_get
    (filter (λ mount. holds_of (nat_eq namespace) mount.namespace) (mounts_in entries)) n ≡ Some mount)
    × (find (λ mount. nat_eq (counted id.count) mount.number) (mounts_in entries) ≡ Some mount)
listed_at entries namespace ids n id rising listed at = by (slice_get inside n) refl
  where
    inside : List (Mount ℕ)
    inside = filter (λ mount. holds_of (nat_eq namespace) mount.namespace) (mounts_in entries)

    numbers : Some (counted id.count) ≡ option_map (λ (mount : Mount ℕ). mount.number) (slice_get inside n)
    numbers = sym (slice_get-map (λ (id : MountId). counted id.count) ids n
        ∙ ap (option_map (λ (id : MountId). counted id.count)) at)
        ∙ ap (λ all. slice_get all n) listed ∙ slice_get-map (λ (mount : Mount ℕ). mount.number) inside n

    by : (o : Option (Mount ℕ)) → slice_get inside n ≡ o → (mount : Mount ℕ) × (slice_get inside n ≡ Some mount)
        × (find (λ mount. nat_eq (counted id.count) mount.number) (mounts_in entries) ≡ Some mount)
    by None e = absurd (none (numbers ∙ ap (option_map (λ (mount : Mount ℕ). mount.number)) e))
      where
        none : Some (counted id.count) ≡ None → ⊥
        none f = cc
    by (Some mount) e =
        let number : counted id.count ≡ mount.number = same_Some _ _
        (numbers ∙ ap (option_map (λ (mount : Mount ℕ). mount.number)) e) in
        let among = among-from_filter (λ (x : Mount ℕ). holds_of (nat_eq namespace) x.namespace)
        (mounts_in entries) mount (nth_among inside n mount e) in
        let entry = among-from_map (λ (one : MountEntry). one.mount) entries mount among.0 in (
          mount,
          e,
          found_entry (counted id.count) entries ∙ ap (λ k. option_map (λ (one : MountEntry). one.mount)
              (Rattle.vt_mount.specs.MountsValue.entry_numbered entries k))
              (number ∙ ap (λ (x : Mount ℕ). x.number) entry.2)
              ∙ ap (option_map (λ (one : MountEntry). one.mount)) (entry_ascending entries rising entry.0 entry.1)
              ∙ ap Some (sym entry.2),
        )

-- a mount that is got by its place in the list is the one that the definitions have there
pub listed_got : (entries : List MountEntry) (namespace : ℕ) (ids : List MountId) (n : ℕ) (d : MountId)
    (o : Option Attached) → are_ascending (mounts_in entries) ≡ true → map (λ (id : MountId). counted id.count) ids
    ≡ map (λ mount. mount.number) (filter (λ mount. holds_of (nat_eq namespace) mount.namespace) (mounts_in entries))
    → n < length ids → option_map mount_of o
    ≡ find (λ mount. nat_eq (counted (get_or ids n d).count) mount.number) (mounts_in entries)
    → (mount : Mount ℕ) × (slice_get
    (filter (λ mount. holds_of (nat_eq namespace) mount.namespace) (mounts_in entries)) n ≡ Some mount)
    × (option_map mount_of o ≡ Some mount)
listed_got entries namespace ids n d o rising listed less got =
    let from = listed_at entries namespace ids n (get_or ids n d) rising listed (slice_get-get_or ids n d less) in
    (from.0, from.1, got ∙ from.2)

-- the mount has no mount point, or has one
pub root_found : (entries : List MountEntry) (namespace n : ℕ) (found : Mount ℕ) (mount : Attached)
    → find (λ mount. not (is_some mount.mount_point))
    (take n (filter (λ mount. holds_of (nat_eq namespace) mount.namespace) (mounts_in entries))) ≡ None
    → slice_get (filter (λ mount. holds_of (nat_eq namespace) mount.namespace) (mounts_in entries)) n ≡ Some found
    → mount_of mount ≡ found → is_some mount.mount_point ≡ false
    → root_mount_in namespace (mounts_in entries) ≡ Some (mount_of mount)
root_found entries namespace n found mount none at same nowhere =
    next_passes (λ (x : Mount ℕ). not (is_some x.mount_point))
    (filter (λ mount. holds_of (nat_eq namespace) mount.namespace) (mounts_in entries)) n (mount_of mount) none
    (at ∙ ap Some (sym same)) (ap not (is_some_mapped location_of mount.mount_point ∙ nowhere))

-- a mount that stands somewhere is not the root of its namespace
pub no_root_yet : (entries : List MountEntry) (namespace n : ℕ) (found : Mount ℕ) (mount : Attached)
    → find (λ mount. not (is_some mount.mount_point))
    (take n (filter (λ mount. holds_of (nat_eq namespace) mount.namespace) (mounts_in entries))) ≡ None
    → slice_get (filter (λ mount. holds_of (nat_eq namespace) mount.namespace) (mounts_in entries)) n ≡ Some found
    → mount_of mount ≡ found → is_some mount.mount_point ≡ true → find (λ mount. not (is_some mount.mount_point))
    (take (n + 1) (filter (λ mount. holds_of (nat_eq namespace) mount.namespace) (mounts_in entries))) ≡ None
no_root_yet entries namespace n found mount none at same there =
    none_passes_yet (λ (x : Mount ℕ). not (is_some x.mount_point))
    (filter (λ mount. holds_of (nat_eq namespace) mount.namespace) (mounts_in entries)) n (mount_of mount) none
    (at ∙ ap Some (sym same)) (ap not (is_some_mapped location_of mount.mount_point ∙ there))

-- no mount is not some mount
pub none_is_some : (mount : Mount ℕ) → None ≡ Some mount → ⊥
none_is_some mount e = cc
