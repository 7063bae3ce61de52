-- Copies that are attached after all other mounts, what is counted on them, and the namespace that is entered with
-- them.
use Rattle.std.proofs.Common.{◌≡◌, ◌<◌, ◌≤◌, refl, sym, ap, subst, ◌∙◌, ⊎_elim, inl, inr, ℕ, ◌+◌, nat_eq, eqb-true, eq-eqb, ne_eqb, Bool, true, false, true≢false, cond, ◌&&◌, List, [], ◌∷◌, ◌++◌, map, flat_map, Some, option_map, unwrap_or, arith, nat_lt, ◌%◌, ◌==◌, lt-ltb, ltb-true}
use Rattle.vt_spec.proofs.Common.{Mount, Namespace as meant_namespace, Serves, and_parts, common_steps, index_from, index_of, list_all, numbers_in_use, used_by_filesystem, used_by_mount}
use Rattle.indexmap.specs.IndexMap.{insert_entry}
use Rattle.vt_mounting.proofs.Common.{Among, Filesystems, IsHeld, MountEntry, NamespaceEntry, WorldValue, among-append_right, among-from_map, among-map, among_from_list_all, are_ascending, changed, counted, counts_from, entries_of, entry_numbered, held, is_among_numbers, list_all_from_among, location_of, mounts_in, namespace_of, released, world_of}
use Rattle.vt_location.specs.declared.locations.Location.{Location}
use Rattle.vt_location.specs.declared.mounts.Mount.{Mount as Attached}
use Rattle.vt_location.specs.declared.numbers.NamespaceId.{NamespaceId}
use Rattle.vt_mount.specs.MountsValue.{uses_of, writers_of}
use Rattle.vt_world.specs.declared.namespaces.Namespace.{Namespace}
use Rattle.vt_mounting.specs.Attach.Copying.{copied_by, copies_of, moved_in, with_use_moved}
use Rattle.vt_mounting.specs.Detach.Uses.{unused_entry, with_attached, Merged, kept_of, kept_with}
use Rattle.vt_world.specs.WorldValue.{entry_of}
use Rattle.vt_mounting.proofs.attach.AttachedCounts.{lower_numbers}
use Rattle.vt_mounting.proofs.attach.EnteringLemmas.{ascending_joined}
use Rattle.vt_mount.specs.Indexes.{same_namespace}

-- Places in an ascending list

abbrev place : ℕ → ℕ → List (Mount ℕ) → ℕ
place number k all = unwrap_or (index_from (λ mount. nat_eq number mount.number) k all) 0

placed_after : (k : ℕ) (all : List (Mount ℕ)) (mount : Mount ℕ) → Among mount all → k ≤ place mount.number k all
placed_after k [] mount m = absurd m
placed_after k (first ∷ rest) mount m = grind (arith, common_steps, placed_after (k + 1) rest mount, eq-eqb)

places_rise : (k : ℕ) (all : List (Mount ℕ)) → are_ascending all ≡ true → (a b : Mount ℕ) → Among a all → Among b all
    → a.number < b.number → place a.number k all < place b.number k all
places_rise k [] rising a b m n less = absurd m
places_rise k (first ∷ rest) rising a b m n less =
    let parts = and_parts (list_all (λ (later : Mount ℕ). nat_lt first.number later.number) rest)
    (are_ascending rest) rising in
    ⊎_elim (λ same_b. absurd (⊎_elim
    (λ same_a. let low : a.number ≡ b.number = ap (λ (x : Mount ℕ). x.number) (same_a ∙ sym same_b) in omega
    (arith, less, low)) (λ later_a.
    let more = ltb-true first.number a.number
    (among_from_list_all (λ (later : Mount ℕ). nat_lt first.number later.number) rest parts.0 a later_a) in
    let here : b.number ≡ first.number = ap (λ (x : Mount ℕ). x.number) same_b in omega (arith, less, more, here)) m))
    (λ later_b.
    let more_b = ltb-true first.number b.number
    (among_from_list_all (λ (later : Mount ℕ). nat_lt first.number later.number) rest parts.0 b later_b) in
    let not_b : nat_eq b.number first.number
    ≡ false = ne_eqb b.number first.number (λ e. absurd (omega (arith, more_b, e))) in
    subst (λ t. place a.number k (first ∷ rest) < unwrap_or
    (cond t (Some k) (index_from (λ (x : Mount ℕ). nat_eq b.number x.number) (k + 1) rest)) 0) (sym not_b) (⊎_elim
    (λ same_a.
    let is_a : nat_eq a.number first.number
    ≡ true = eq-eqb a.number first.number (ap (λ (x : Mount ℕ). x.number) same_a) in
    let after = placed_after (k + 1) rest b later_b in
    subst (λ t. unwrap_or (cond t (Some k)
    (index_from (λ (x : Mount ℕ). nat_eq a.number x.number) (k + 1) rest)) 0 < place b.number (k + 1) rest) (sym is_a)
    (omega (arith, after))) (λ later_a.
    let more_a = ltb-true first.number a.number
    (among_from_list_all (λ (later : Mount ℕ). nat_lt first.number later.number) rest parts.0 a later_a) in
    let not_a : nat_eq a.number first.number
    ≡ false = ne_eqb a.number first.number (λ e. absurd (omega (arith, more_a, e))) in
    subst (λ t. unwrap_or (cond t (Some k)
    (index_from (λ (x : Mount ℕ). nat_eq a.number x.number) (k + 1) rest)) 0 < place b.number (k + 1) rest) (sym not_a)
    (places_rise (k + 1) rest parts.1 a b later_a later_b less)) m)) n

-- The copies ascend

changed_ascend : (change : Mount ℕ → Mount ℕ) (all : List (Mount ℕ)) → are_ascending all ≡ true
    → ((a b : Mount ℕ) → Among a all → Among b all → a.number < b.number → (change a).number < (change b).number)
    → are_ascending (map change all) ≡ true
changed_ascend change [] rising keeps = refl
changed_ascend change (first ∷ rest) rising keeps =
    let parts = and_parts (list_all (λ (later : Mount ℕ). nat_lt first.number later.number) rest)
    (are_ascending rest) rising in
    λ i. list_all_from_among (λ (later : Mount ℕ). nat_lt (change first).number later.number) (map change rest)
    (λ x m. let from = among-from_map change rest x m in
    subst (λ (y : Mount ℕ). nat_lt (change first).number y.number ≡ true) (sym from.2)
    (lt-ltb (change first).number (change from.0).number (keeps first from.0 (inl refl) (inr from.1)
    (ltb-true first.number from.0.number
    (among_from_list_all (λ (later : Mount ℕ). nat_lt first.number later.number) rest parts.0 from.0 from.1))))) i
    && changed_ascend change rest parts.1 (λ a b m n. keeps a b (inr m) (inr n)) i

pub copies_ascend : (next : ℕ) (all originals : List (Mount ℕ)) → are_ascending all ≡ true
    → list_all (λ mount. nat_lt mount.number (counted next)) all ≡ true → are_ascending originals ≡ true
    → are_ascending (all ++ copies_of next originals) ≡ true
copies_ascend next all originals rising before ascending = ascending_joined all (copies_of next originals) rising
    (changed_ascend (copied_by next originals) originals ascending
    (λ a b m n less. let rises : index_of nat_eq originals a.number < index_of nat_eq originals b.number =
    places_rise 0 originals ascending a b m n less in
    omega (arith, rises))) (λ a b m n.
    let low : a.number < counted next = ltb-true a.number (counted next)
    (among_from_list_all (λ (mount : Mount ℕ). nat_lt mount.number (counted next)) all before a m) in
    let from = among-from_map (copied_by next originals) originals b n in
    subst (λ (x : Mount ℕ). a.number < x.number) (sym from.2) (omega (arith, low)))

pub numbers_before : (value : WorldValue) → IsHeld value
    → list_all (λ mount. mount.number % 4 == 1) (mounts_in value.mounts) ≡ true
    → list_all (λ mount. nat_lt mount.number (counted value.next)) (mounts_in value.mounts) ≡ true
numbers_before value whole counts =
    list_all_from_among (λ (mount : Mount ℕ). nat_lt mount.number (counted value.next)) (mounts_in value.mounts)
    (λ mount m. lt-ltb mount.number (counted value.next) (lower_numbers value whole counts mount m))

-- What is counted on a mount

abbrev counted_on : (MountEntry → ℕ) → List MountEntry → ℕ → ℕ
counted_on count entries number = unwrap_or (option_map count (entry_numbered entries number)) 0

none_on_new : (count : MountEntry → ℕ) → ((mount : Attached) → count (unused_entry mount) ≡ 0)
    → (number : ℕ) (new : List Attached) → counted_on count (map unused_entry new) number ≡ 0
none_on_new count none number [] = refl
none_on_new count none number (mount ∷ new) = grind (arith, common_steps, none_on_new count none number new)

none_on : (count : MountEntry → ℕ) → ((mount : Attached) → count (unused_entry mount) ≡ 0) → (next number : ℕ)
    → next ≤ number → (old : List MountEntry) (new : List Attached)
    → list_all (λ mount. nat_lt mount.number next) (mounts_in old) ≡ true
    → counted_on count (old ++ map unused_entry new) number ≡ 0
none_on count none next number more [] new before = none_on_new count none number new
none_on count none next number more (entry ∷ old) new before = grind (
  arith,
  common_steps,
  none_on count none next number more old,
  and_parts,
  ne_eqb,
  ltb-true,
)

-- a root or working directory that moves goes to a copy
later_copy : (next : ℕ) (originals : List (Mount ℕ)) (from to : Location)
    → location_of to ≡ moved_in next originals (location_of from)
    → nat_eq from.mount.count to.mount.count ≡ false → counted next ≤ counted to.mount.count
later_copy next originals from to is other = grind (arith, common_steps, eq-eqb)

module _ (next : ℕ) (originals : List (Mount ℕ)) (old : List MountEntry) (new : List Attached)
    (before : list_all (λ mount. nat_lt mount.number (counted next)) (mounts_in old) ≡ true)
    (from to : Location) (is : location_of to ≡ moved_in next originals (location_of from))
    (other : nat_eq from.mount.count to.mount.count ≡ false) where
  pub no_uses : counted_on (λ entry. entry.uses) (old ++ map unused_entry new) (counted to.mount.count) ≡ 0
  no_uses = none_on (λ entry. entry.uses) (λ mount. refl) (counted next) (counted to.mount.count)
      (later_copy next originals from to is other) old new before

  pub no_writers : counted_on (λ entry. entry.writers) (old ++ map unused_entry new) (counted to.mount.count) ≡ 0
  no_writers = none_on (λ entry. entry.writers) (λ mount. refl) (counted next) (counted to.mount.count)
      (later_copy next originals from to is other) old new before

-- One use that is moved adds one to a mount at the most

changed_grow : (k : ℕ) (count : MountEntry → ℕ) (at : ℕ) (change : MountEntry → MountEntry)
    → ((entry : MountEntry) → (change entry).mount ≡ entry.mount)
    → ((entry : MountEntry) → count (change entry) ≤ count entry + k) → (entries : List MountEntry) (number : ℕ)
    → counted_on count (changed at change entries) number ≤ counted_on count entries number + k
changed_grow k count at change keeps grows [] number = omega arith
changed_grow k count at change keeps grows (entry ∷ entries) number =
    grind (arith, common_steps, changed_grow k count at change keeps grows entries number)

moved_grow : (count : MountEntry → ℕ) → ((entry : MountEntry) → count (held false entry) ≤ count entry + 1)
    → ((entry : MountEntry) → count (released false entry) ≤ count entry + 0)
    → (from to : ℕ) (entries : List MountEntry) (number : ℕ)
    → counted_on count (with_use_moved from to entries) number ≤ counted_on count entries number + 1
moved_grow count more less from to entries number = by (nat_eq from to)
  where
    by : (b : Bool) → counted_on count
        (cond b entries (changed from (released false) (changed to (held false) entries))) number
        ≤ counted_on count entries number + 1
    by true = omega arith
    by false =
        let first = changed_grow 1 count to (held false) (λ entry. refl) more entries number in
        let second = changed_grow 0 count from (released false) (λ entry. refl) less
        (changed to (held false) entries) number in
        omega (arith, first, second)

pub few_uses : (from to : ℕ) (entries : List MountEntry) (number : ℕ)
    → counted_on (λ entry. entry.uses) (with_use_moved from to entries) number ≤ counted_on
    (λ entry. entry.uses) entries number + 1
few_uses = moved_grow (λ entry. entry.uses) (λ entry. omega arith) (λ entry. omega arith)

pub few_writers : (from to : ℕ) (entries : List MountEntry) (number : ℕ)
    → counted_on (λ entry. entry.writers) (with_use_moved from to entries) number ≤ counted_on
    (λ entry. entry.writers) entries number + 1
few_writers = moved_grow (λ entry. entry.writers) (λ entry. omega arith) (λ entry. omega arith)

-- The new namespace

inserted_last : (id : NamespaceId) (new : Namespace) (entries : List (NamespaceId × Namespace))
    → ((entry : NamespaceEntry) → Among entry (entries_of entries) → nat_eq id.count entry.count ≡ false)
    → entries_of (insert_entry same_namespace entries id new) ≡ entries_of entries
    ++ record { count = id.count; tasks = new.tasks } ∷ []
inserted_last id new [] none = refl
inserted_last id new (first ∷ rest) none =
    cc (none (entry_of first) (inl refl), inserted_last id new rest (λ entry m. none entry (inr m)))

pub namespace_added : (value : WorldValue) → Serves nat_eq (world_of value) (counts_from value.next)
    → (entries : List (NamespaceId × Namespace))
    → entries_of entries ≡ value.namespaces → (id : NamespaceId) → id.count ≡ value.next → (new : Namespace)
    → entries_of (insert_entry same_namespace entries id new) ≡ value.namespaces
    ++ record { count = value.next; tasks = new.tasks } ∷ []
namespace_added value serves entries are id is new =
    inserted_last id new entries (λ entry m. absent entry (subst (Among entry) are m)
    (nat_eq id.count entry.count) refl) ∙ (λ i. are i ++ record { count = is i; tasks = new.tasks } ∷ [])
  where
    absent : (entry : NamespaceEntry) → Among entry value.namespaces → (b : Bool) → nat_eq id.count entry.count ≡ b
        → b ≡ false
    absent entry m false e = refl
    absent entry m true e =
        let same = eqb-true id.count entry.count e in
        let number : counted entry.count ≡ counts_from value.next 0 = omega (arith, same, is) in
        let world = world_of value in
        absurd (true≢false (sym (is_among_numbers (counts_from value.next 0) (numbers_in_use world)
        (subst (λ n. Among n (numbers_in_use world)) number
        (among-append_right (flat_map used_by_mount world.mounts ++ flat_map used_by_filesystem world.filesystems)
        (map (λ (n : meant_namespace ℕ). n.number) world.namespaces) (counted entry.count)
        (among-map (λ (n : meant_namespace ℕ). n.number) world.namespaces (namespace_of entry)
        (among-map namespace_of value.namespaces entry m))))) ∙ serves.unused 0))

-- Room for what moves

module _ (value : WorldValue) (whole : IsHeld value)
    (counts : list_all (λ mount. mount.number % 4 == 1) (mounts_in value.mounts) ≡ true)
    (originals : List (Mount ℕ)) (copies : List Attached) (mounts : List MountEntry) (filesystems : Filesystems)
    (overlays : List Merged) (attached : kept_with mounts filesystems overlays ≡ with_attached copies (kept_of value))
    (from to : Location) (is : location_of to ≡ moved_in value.next originals (location_of from))
    (other : nat_eq from.mount.count to.mount.count ≡ false) where
  no_uses_there : uses_of mounts (counted to.mount.count) ≡ 0
  no_uses_there = ap (λ k. uses_of k.mounts (counted to.mount.count)) attached
      ∙ no_uses value.next originals value.mounts copies (numbers_before value whole counts) from to is other

  no_writers_there : writers_of mounts (counted to.mount.count) ≡ 0
  no_writers_there = ap (λ k. writers_of k.mounts (counted to.mount.count)) attached
      ∙ no_writers value.next originals value.mounts copies (numbers_before value whole counts) from to is other

  pub uses_left : uses_of mounts (counted to.mount.count) < 18446744073709551615
  uses_left = let none = no_uses_there in omega (arith, none)

  pub writers_left : writers_of mounts (counted to.mount.count) < 18446744073709551615
  writers_left = let none = no_writers_there in omega (arith, none)

  module _ (old_mount new_mount : ℕ) (moved : List MountEntry)
      (moves : moved ≡ with_use_moved old_mount new_mount mounts) where
    pub uses_left_then : uses_of moved (counted to.mount.count) < 18446744073709551615
    uses_left_then =
        let none = no_uses_there in
        let few : uses_of (with_use_moved old_mount new_mount mounts) (counted to.mount.count) ≤ uses_of mounts
        (counted to.mount.count) + 1 = few_uses old_mount new_mount mounts (counted to.mount.count) in
        subst (λ all. uses_of all (counted to.mount.count) < 18446744073709551615) (sym moves)
        (omega (arith, none, few))

    pub writers_left_then : writers_of moved (counted to.mount.count) < 18446744073709551615
    writers_left_then =
        let none = no_writers_there in
        let few : writers_of (with_use_moved old_mount new_mount mounts) (counted to.mount.count) ≤ writers_of mounts
        (counted to.mount.count) + 1 = few_writers old_mount new_mount mounts (counted to.mount.count) in
        subst (λ all. writers_of all (counted to.mount.count) < 18446744073709551615) (sym moves)
        (omega (arith, none, few))
