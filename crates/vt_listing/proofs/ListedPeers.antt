-- The list of peer groups, by the places and types of all attached mounts.
use Rattle.std.proofs.Common.{◌≡◌, ◌<◌, ◌≤◌, refl, sym, ap, ◌∙◌, ℕ, suc, ◌+◌, Bool, true, false, cond, nat_eq, List, [], ◌∷◌, ◌++◌, map, filter, length, take, get_or, append_assoc, Option, Some, None, option_map, arith, filter_map, flat_map, if◌then◌else◌, append-nil, length-append, length-take-le}
use Rattle.vt_spec.proofs.Common.{Mount, Namespace, Propagation, World, cons_option, counted_from, each_once, flat_map-append, groups_in_type, groups_seen, groups_shown, is_member_of, length-map, map-append, mounts_of, number_among, peer_lines, take_more, when}
use Rattle.std.proofs.lemmas.Simd.{map-map}
use Rattle.vt_location.specs.declared.numbers.GroupId.{GroupId}
use Rattle.vt_location.specs.declared.numbers.MountId.{MountId}
use Rattle.vt_location.specs.declared.numbers.NamespaceId.{NamespaceId}
use Rattle.vt_location.specs.Numbers.{counted}
use Rattle.vt_spec.specs.Machine.Listing.{all_attached, attached_in, is_slave_of, peer_line}
use Rattle.vt_mount.proofs.AttachedLemmas.{picked_next}
use Rattle.vt_mount.proofs.EntryLemmas.{counted_test}
use Rattle.vt_group.specs.Sets.{same_group}
use Rattle.vt_request.specs.declared.answer.MountPlace.{MountPlace}
use Rattle.vt_request.specs.Answers.{mount_place_of}
use Rattle.vt_listing.specs.GroupsListed.{all_seen, group_numbers, line_by, line_from, member_place, placed_from, placed_in, placed_seen, slave_place, under}
use Rattle.vt_listing.specs.declared.places_by.PlacesBy.{PlacesBy}
use Rattle.vt_listing.specs.declared.peer_lines.Placed.{Placed}

-- Lists so far, with the next element

counted_more : {A : Type 0} (k : ℕ) (xs : List A) (x : A)
    → counted_from k (xs ++ x ∷ []) ≡ counted_from k xs ++ (k + length xs, x) ∷ []
counted_more k [] x = ap (λ n. (n, x) ∷ []) (let same : k ≡ k + 0 = omega arith in same)
counted_more k (first ∷ xs) x = ap (λ rest. (k, first) ∷ rest) (counted_more (k + 1) xs x
    ∙ ap (λ n. counted_from (k + 1) xs ++ (n, x) ∷ [])
    (let same : k + 1 + length xs ≡ k + suc (length xs) = omega arith in same))

flat_last : {A B : Type 0} (f : A → List B) (xs : List A) (x : A) → flat_map f (xs ++ x ∷ []) ≡ flat_map f xs ++ f x
flat_last f xs x = flat_map-append f xs (x ∷ []) ∙ ap (λ last. flat_map f xs ++ last) (append-nil (f x))

pub all_some : {A B : Type 0} (f : A → B) (xs : List A) → filter_map (λ x. Some (f x)) xs ≡ map f xs
all_some f [] = refl
all_some f (x ∷ xs) = ap (λ rest. f x ∷ rest) (all_some f xs)

pub filter_map_map : {A B C : Type 0} (h : B → Option C) (f : A → B) (xs : List A)
    → filter_map (λ x. h (f x)) xs ≡ filter_map h (map f xs)
filter_map_map h f [] = refl
filter_map_map h f (x ∷ xs) = ap (cons_option (h (f x))) (filter_map_map h f xs)

-- one more of a list, by what its step adds
pub pushed_next : {A B : Type 0} (h : A → Option B) (i : ℕ) (d : A) (xs : List A) → i < length xs
    → (before after : List B) → before ≡ filter_map h (take i xs)
    → after ≡ before ++ cons_option (h (get_or xs i d)) [] → after ≡ filter_map h (take (i + 1) xs)
pushed_next h i d xs within before after so_far adds = adds
    ∙ ap (λ list. list ++ cons_option (h (get_or xs i d)) []) so_far ∙ sym (picked_next h i d xs within)

-- Places under groups

-- a place that is added under one group
pub added_under : (own group : GroupId) (at : MountPlace) (old new : List MountPlace)
    → new ≡ (if same_group group own then old ++ at ∷ [] else old) → map mount_place_of new
    ≡ map mount_place_of old ++ cons_option (when (nat_eq (counted group.count) (counted own.count)) (mount_place_of at)) []
added_under own group at old new is = ap (map mount_place_of) is ∙ by (same_group group own)
    ∙ ap (λ b. map mount_place_of old ++ cons_option (when b (mount_place_of at)) [])
    (sym (counted_test group.count own.count))
  where
    by : (b : Bool) → map mount_place_of (if b then old ++ at ∷ [] else old)
        ≡ map mount_place_of old ++ cons_option (when b (mount_place_of at)) []
    by true = map-append mount_place_of old (at ∷ [])
    by false = sym (append-nil (map mount_place_of old))

-- the lines of groups by the places that are kept under them
pub lines_kept : (world : World ℕ) (seen : List ℕ) (members slaves : PlacesBy GroupId)
    (placed : List (ℕ × ℕ × Propagation ℕ)) → ((group : GroupId) → map mount_place_of (under same_group group members)
    ≡ filter_map (member_place (counted group.count)) placed)
    → ((group : GroupId) → map mount_place_of (under same_group group slaves)
    ≡ filter_map (slave_place (counted group.count)) placed) → (groups : List GroupId)
    → map (line_by world seen members slaves) groups ≡ map (line_from world seen placed) (group_numbers groups)
lines_kept world seen members slaves placed peers slave_ones [] = refl
lines_kept world seen members slaves placed peers slave_ones (group ∷ groups) = λ i. record {
  group = number_among nat_eq seen (counted group.count);
  master = option_map (number_among nat_eq seen) (world.master (counted group.count));
  peers = peers group i;
  slaves = slave_ones group i;
} ∷ lines_kept world seen members slaves placed peers slave_ones groups i

-- the namespaces so far
pub next_placed : (world : World ℕ) (i number : ℕ) (d : NamespaceId) (ids : List NamespaceId) → i < length ids
    → number ≡ i → (so_far new : List (ℕ × ℕ × Propagation ℕ))
    → new ≡ so_far ++ placed_in world (number + 1) (counted (get_or ids i d).count)
    → so_far ≡ placed_from world 1 (map (λ (id : NamespaceId). counted id.count) (take i ids))
    → new ≡ placed_from world 1 (map (λ (id : NamespaceId). counted id.count) (take (i + 1) ids))
next_placed world i number d ids within same so_far new is before_is =
    let count = λ (id : NamespaceId). counted id.count in
    let before : List ℕ = map count (take i ids) in
    let last : ℕ = count (get_or ids i d) in
    let size : number + 1 ≡ 1 + length before =
    omega (arith, same, length-take-le i ids (omega (arith, within)), length-map (take i ids) count) in
    is ∙ ap (λ list. list ++ placed_in world (number + 1) last) before_is
    ∙ ap (λ k. placed_from world 1 before ++ placed_in world k last) size
    ∙ sym (flat_last (λ (one : ℕ × ℕ). placed_in world one.0 one.1) (counted_from 1 before) (1 + length before, last))
    ∙ ap (flat_map (λ (one : ℕ × ℕ). placed_in world one.0 one.1)) (sym (counted_more 1 before last))
    ∙ ap (placed_from world 1) (sym (map-append count (take i ids) (get_or ids i d ∷ []))
    ∙ ap (map count) (sym (take_more ids i d within)))

-- the mounts of one namespace so far, each with its place
abbrev pub each_placed : ℕ → List (Mount ℕ) → List (ℕ × ℕ × Propagation ℕ)
each_placed k mounts = map (λ mount. (k, mount.0, mount.1.propagation)) (counted_from 1 mounts)

pub next_mount : (k place : ℕ) (mounts later : List (Mount ℕ)) (mount : Mount ℕ)
    (before so_far : List (ℕ × ℕ × Propagation ℕ)) → place ≡ length mounts
    → so_far ≡ before ++ each_placed k mounts → mounts ++ mount ∷ [] ≡ later
    → so_far ++ (k, place + 1, mount.propagation) ∷ [] ≡ before ++ each_placed k later
next_mount k place mounts later mount before so_far same is next =
    ap (λ list. list ++ (k, place + 1, mount.propagation) ∷ []) is
    ∙ append_assoc before (each_placed k mounts) ((k, place + 1, mount.propagation) ∷ [])
    ∙ ap (λ list. before ++ list) (
    ap (λ n. each_placed k mounts ++ (k, n, mount.propagation) ∷ [])
    (let sum : place + 1 ≡ 1 + length mounts = omega (arith, same) in sum)
    ∙ sym (map-append (λ (one : ℕ × Mount ℕ). (k, one.0, one.1.propagation)) (counted_from 1 mounts)
    ((1 + length mounts, mount) ∷ []))
    ∙ ap (map (λ (one : ℕ × Mount ℕ). (k, one.0, one.1.propagation))) (sym (counted_more 1 mounts mount))
    ∙ ap (each_placed k) next)

-- what types tell so far
pub next_kind : (f : ℕ × ℕ × Propagation ℕ → List ℕ) (i : ℕ) (d : Placed) (placed : List Placed) → i < length placed
    → flat_map f (all_seen (take i placed))
    ++ f (placed_seen (get_or placed i d)) ≡ flat_map f (all_seen (take (i + 1) placed))
next_kind f i d placed within = sym (flat_last f (all_seen (take i placed)) (placed_seen (get_or placed i d)))
    ∙ ap (flat_map f) (sym (map-append placed_seen (take i placed) (get_or placed i d ∷ []))
    ∙ ap all_seen (sym (take_more placed i d within)))

-- The list of the definitions

module _ (world : World ℕ) where
  abbrev pub kinded : ℕ × ℕ × Mount ℕ → ℕ × ℕ × Propagation ℕ
  kinded mount = (mount.0, mount.1, mount.2.propagation)

  one_namespace : (k : ℕ) (namespace : Namespace ℕ)
      → placed_in world k namespace.number ≡ map kinded (attached_in nat_eq world (k, namespace))
  one_namespace k namespace = sym (map-map kinded (λ (mount : ℕ × Mount ℕ). (k, mount.0, mount.1))
      (counted_from 1 (mounts_of nat_eq world namespace.number)))

  pub all_namespaces : (k : ℕ) (namespaces : List (Namespace ℕ))
      → placed_from world k (map (λ (namespace : Namespace ℕ). namespace.number) namespaces)
      ≡ map kinded (flat_map (attached_in nat_eq world) (counted_from k namespaces))
  all_namespaces k [] = refl
  all_namespaces k (namespace ∷ rest) = (λ i. one_namespace k namespace i ++ all_namespaces (k + 1) rest i)
      ∙ sym (map-append kinded (attached_in nat_eq world (k, namespace))
      (flat_map (attached_in nat_eq world) (counted_from (k + 1) rest)))

  groups_so : (mounts : List (ℕ × ℕ × Mount ℕ))
      → flat_map (λ (one : ℕ × ℕ × Propagation ℕ). groups_in_type world one.2) (map kinded mounts)
      ≡ flat_map (groups_shown world) (map (λ (mount : ℕ × ℕ × Mount ℕ). mount.2) mounts)
  groups_so [] = refl
  groups_so (mount ∷ rest) = ap (λ groups. groups_in_type world mount.2.propagation ++ groups) (groups_so rest)

  abbrev first : ℕ × ℕ × Mount ℕ → ℕ × ℕ
  first mount = (mount.0, mount.1)

  places_so : (test : Mount ℕ → Bool) (place : ℕ × ℕ × Propagation ℕ → Option (ℕ × ℕ))
      → ((mount : ℕ × ℕ × Mount ℕ) → place (kinded mount) ≡ when (test mount.2) (first mount))
      → (mounts : List (ℕ × ℕ × Mount ℕ))
      → filter_map place (map kinded mounts) ≡ map first (filter (λ mount. test mount.2) mounts)
  places_so test place same [] = refl
  places_so test place same (mount ∷ rest) =
      (λ i. cons_option (same mount i) (places_so test place same rest i)) ∙ by (test mount.2)
    where
      by : (b : Bool) → cons_option (when b (first mount)) (map first (filter (λ one. test one.2) rest))
          ≡ map first (cond b (mount ∷ filter (λ one. test one.2) rest) (filter (λ one. test one.2) rest))
      by true = refl
      by false = refl

  pub lines_so : (placed : List (ℕ × ℕ × Propagation ℕ)) (seen : List ℕ)
      → placed ≡ map kinded (all_attached nat_eq world)
      → seen ≡ each_once nat_eq (flat_map (λ (one : ℕ × ℕ × Propagation ℕ). groups_in_type world one.2) placed)
      → map (line_from world seen placed) seen ≡ peer_lines nat_eq world
  lines_so placed seen is told = (λ i. map (line_from world (seen_is i) (is i)) (seen_is i))
      ∙ ap (λ line. map line groups) (λ i group. each group i)
    where
      groups : List ℕ
      groups = groups_seen nat_eq world (map (λ (mount : ℕ × ℕ × Mount ℕ). mount.2) (all_attached nat_eq world))

      seen_is : seen ≡ groups_seen nat_eq world (map (λ (mount : ℕ × ℕ × Mount ℕ). mount.2) (all_attached nat_eq world))
      seen_is = told ∙ ap (λ list. each_once nat_eq
          (flat_map (λ (one : ℕ × ℕ × Propagation ℕ). groups_in_type world one.2) list)) is
          ∙ ap (each_once nat_eq) (groups_so (all_attached nat_eq world))

      each : (group : ℕ) → line_from world
          (groups_seen nat_eq world (map (λ (mount : ℕ × ℕ × Mount ℕ). mount.2) (all_attached nat_eq world)))
          (map kinded (all_attached nat_eq world)) group ≡ peer_line nat_eq world (groups_seen nat_eq world
          (map (λ (mount : ℕ × ℕ × Mount ℕ). mount.2) (all_attached nat_eq world))) group
      each group = λ i. record {
        group = number_among nat_eq groups group;
        master = option_map (number_among nat_eq groups) (world.master group);
        peers = places_so (is_member_of nat_eq group) (member_place group) (λ mount. refl)
            (all_attached nat_eq world) i;
        slaves = places_so (is_slave_of nat_eq group) (slave_place group) (λ mount. refl) (all_attached nat_eq world) i;
      }

-- the mounts of a namespace so far, by their identifiers
module _ (h : MountId → Option (Mount ℕ)) (i : ℕ) (d : MountId) (ids : List MountId) (within : i < length ids)
    (k place : ℕ)
    (before so_far : List (ℕ × ℕ × Propagation ℕ)) (low : place ≤ i) (size : place ≡ length (filter_map h (take i ids)))
    (is : so_far ≡ before ++ each_placed k (filter_map h (take i ids))) where
  abbrev Now : ℕ → List (ℕ × ℕ × Propagation ℕ) → Type 0
  Now number list = (number ≤ i + 1) × (number ≡ length (filter_map h (take (i + 1) ids)))
      × (list ≡ before ++ each_placed k (filter_map h (take (i + 1) ids)))

  grown : (o : Option (Mount ℕ)) → h (get_or ids i d) ≡ o
      → filter_map h (take i ids) ++ cons_option o [] ≡ filter_map h (take (i + 1) ids)
  grown o found = (λ j. filter_map h (take i ids) ++ cons_option (sym found j) []) ∙ sym (picked_next h i d ids within)

  pub mounts_next : (mount : Mount ℕ) → h (get_or ids i d) ≡ Some mount
      → Now (place + 1) (so_far ++ (k, place + 1, mount.propagation) ∷ [])
  mounts_next mount found =
      let more = length-append (filter_map h (take i ids)) (mount ∷ []) in
      let all : length (filter_map h (take i ids) ++ mount ∷ [])
      ≡ length (filter_map h (take (i + 1) ids)) = ap length (grown (Some mount) found) in (
        omega (arith, low),
        omega (arith, size, more, all),
        next_mount k place (filter_map h (take i ids)) (filter_map h (take (i + 1) ids)) mount before so_far size is
            (grown (Some mount) found),
      )

  pub mounts_same : h (get_or ids i d) ≡ None → Now place so_far
  mounts_same none =
      let same : filter_map h (take i ids)
      ≡ filter_map h (take (i + 1) ids) = sym (append-nil (filter_map h (take i ids))) ∙ grown None none in (
        omega (arith, low),
        size ∙ ap length same,
        is ∙ ap (λ list. before ++ each_placed k list) same,
      )
