-- How many mounts namespaces have once a tree is attached.
use Rattle.std.proofs.Common.{◌≡◌, ℕ, Bool, true, false, cond, ◌+◌, ◌-◌, ◌*◌, ◌≤◌, ◌||◌, ◌&&◌, List, [], ◌∷◌, map, filter, length, nat_eq, nat_lt, Option, None, Some, option_map, suc, refl, sym, ap, ◌∙◌, arith, true≢false, inl, ⊎_elim, subst, Contains, unwrap_or, eqb-true, le-ltb, ltb-false, ltb-true, find, min, not, ◌<◌}
use Rattle.vt_spec.proofs.Common.{Among, Copies, Location, Mount, Namespace, NamespaceInvariants, World, among-from_filter, among-from_map, among_from_all, among_from_contains, among_from_list_all, among_numbers, and_parts, any_among, any_from_among, attached_by, common_steps, group_of, has_too_many, holds_of, is_listed, list_any, most_mounts, mount_at, nat_tests, no_mount, none_among, none_from_among, none_is_some, parts_of, receivers, receivers_of, receives, same_truth, takes_part}
use Rattle.std.proofs.lemmas.List.Sums.{count_by-le-length, length-filter}
use Rattle.std.proofs.Math.Nat.{le_trans, min-eq_left, min-eq_right, mul-le-mul_right}
use Rattle.vt_laws_mounts.proofs.Counting.{count-cons, count-inside, moved_fewer}
pub use Rattle.vt_laws_mounts.proofs.Counting.{absent_counted, added_counted, moved_all}
use Rattle.vt_location.specs.declared.mounts.Mount.{Mount as Kept}
use Rattle.vt_location.specs.declared.numbers.NamespaceId.{NamespaceId}
use Rattle.vt_location.specs.MountValue.{mount_of}
use Rattle.vt_location.specs.Numbers.{counted}
use Rattle.vt_group.proofs.IndexLemmas.{any_still}
use Rattle.vt_mount.proofs.EntryLemmas.{counted_test}
use Rattle.vt_propagate.specs.Filling.{GrowsBy, MovesFrom, is_overfilled, leaving, parts_in}
use Rattle.vt_propagate.specs.declared.filling.Load.{Load}
use Rattle.vt_propagate.proofs.Found.{numbered}
use Rattle.vt_laws_mounts.proofs.letting_go.Lists.{found_in}
use Rattle.vt_laws_mounts.specs.Mounts.Attaching.{OneNumberAMount}
use Rattle.vt_mount.specs.Indexes.{same_namespace, is_in as is_part_in}
use Rattle.vt_laws_mounts.specs.Mounts.Ending.{count_in, is_in}
use Rattle.vt_laws_mounts.proofs.mounts.Receivers.{receivers_there}

-- parts as they are kept

-- the parts of a namespace are counted as code counts them
pub parts_counted : (parts : List Kept) (namespace : NamespaceId)
    → count_in (map mount_of parts) (counted namespace.count) ≡ parts_in parts namespace
parts_counted parts namespace = all parts ∙ length-filter (is_part_in namespace) parts
  where
    same : (part : Kept) → is_in (counted namespace.count) (mount_of part) ≡ is_part_in namespace part
    same part = by part.namespace
      where
        by : (o : Option NamespaceId) → holds_of (nat_eq (counted namespace.count))
            (option_map (λ n. counted n.count) o) ≡ holds_of (same_namespace namespace) o
        by None = refl
        by (Some other) = counted_test namespace.count other.count

    grow : (b : Bool) (part : Kept) (parts : List Kept)
        → length (filter (is_in (counted namespace.count)) (map mount_of parts))
        ≡ length (filter (is_part_in namespace) parts)
        → length (cond b (mount_of part ∷ filter (is_in (counted namespace.count)) (map mount_of parts))
        (filter (is_in (counted namespace.count)) (map mount_of parts)))
        ≡ length (cond b (part ∷ filter (is_part_in namespace) parts) (filter (is_part_in namespace) parts))
    grow true part parts rest = ap suc rest
    grow false part parts rest = rest

    all : (parts : List Kept) → length (filter (is_in (counted namespace.count)) (map mount_of parts))
        ≡ length (filter (is_part_in namespace) parts)
    all [] = refl
    all (part ∷ parts) =
        ap (λ b. length (cond b (mount_of part ∷ filter (is_in (counted namespace.count)) (map mount_of parts))
        (filter (is_in (counted namespace.count)) (map mount_of parts)))) (same part)
        ∙ grow (is_part_in namespace part) part parts (all parts)

-- Worlds in which a tree is attached

-- a mount in a namespace is in one that is listed
module _ (world : World ℕ) (invariants : NamespaceInvariants nat_eq world) where
  listed : (mount : Mount ℕ) {namespace : ℕ} → Among mount world.mounts → mount.namespace ≡ Some namespace
      → is_listed nat_eq world namespace ≡ true
  listed mount {namespace} m is = grind (arith, common_steps, and_parts, among_from_list_all)

-- What code counts of a world: its mounts, and how many parts each namespace has.
pub record AreCounted (world : World ℕ) (parts mounts : List (Mount ℕ)) (kept : List Kept) (counts : NamespaceId → ℕ)
    : Type 0 where
  pub invariants : NamespaceInvariants nat_eq world
  pub same : mounts ≡ world.mounts
  pub are : map mount_of kept ≡ parts
  pub right : (namespace : NamespaceId) → counts namespace ≡ parts_in kept namespace

-- These parts tell whether a namespace has too many mounts, if a namespace without a part gets no more.
module _ {world : World ℕ} {parts mounts : List (Mount ℕ)} {kept : List Kept} {counts : NamespaceId → ℕ}
    (counted_so : AreCounted world parts mounts kept counts)
    (part_listed : (part : Mount ℕ) (namespace : ℕ) → Among part parts → part.namespace ≡ Some namespace
    → is_listed nat_eq world namespace ≡ true) (after : World ℕ) (same : after.namespaces ≡ world.namespaces)
    (small : (namespace : ℕ) → count_in parts namespace ≡ 0
    → count_in after.mounts namespace ≤ count_in world.mounts namespace) where
  open counted_so use {invariants, are, right}

  abbrev full : ℕ → Bool
  full namespace = nat_lt most_mounts (count_in after.mounts namespace)

  parts_tell : list_any (λ part. holds_of full part.namespace) parts
      ≡ list_any (λ namespace. full namespace.number) world.namespaces
  parts_tell = same_truth _ _ there back
    where
      there : list_any (λ part. holds_of full part.namespace) parts ≡ true
          → list_any (λ namespace. full namespace.number) world.namespaces ≡ true
      there h = by found.0.namespace refl
        where
          found : (part : Mount ℕ) × Among part parts × (holds_of full part.namespace ≡ true)
          found = any_among (λ (part : Mount ℕ). holds_of full part.namespace) parts h

          by : (o : Option ℕ) → found.0.namespace ≡ o
              → list_any (λ namespace. full namespace.number) world.namespaces ≡ true
          by None e = absurd (true≢false (sym found.2 ∙ ap (holds_of full) e))
          by (Some namespace) e =
              let m = among-from_map (λ (one : Namespace ℕ). one.number) world.namespaces namespace
              (among_numbers (map (λ (one : Namespace ℕ). one.number) world.namespaces) namespace
              (part_listed found.0 namespace found.1 e)) in
              any_from_among (λ (one : Namespace ℕ). full one.number) world.namespaces m.0 m.1
              (ap full (sym m.2) ∙ sym (ap (holds_of full) e) ∙ found.2)

      back : list_any (λ namespace. full namespace.number) world.namespaces ≡ true
          → list_any (λ part. holds_of full part.namespace) parts ≡ true
      back h = by (filter (is_in found.0.number) parts) refl
        where
          found : (one : Namespace ℕ) × Among one world.namespaces × (full one.number ≡ true)
          found = any_among (λ (one : Namespace ℕ). full one.number) world.namespaces h

          few : nat_lt most_mounts (count_in world.mounts found.0.number) ≡ false
          few = none_among (λ (one : Namespace ℕ). nat_lt most_mounts
              (count_in world.mounts one.number)) world.namespaces invariants.few_mounts found.0 found.1

          of_it : (o : Option ℕ) → holds_of (nat_eq found.0.number) o ≡ true → holds_of full o ≡ true
          of_it None e = absurd (true≢false (sym e))
          of_it (Some namespace) e = ap full (sym (eqb-true found.0.number namespace e)) ∙ found.2

          by : (list : List (Mount ℕ)) → filter (is_in found.0.number) parts ≡ list
              → list_any (λ part. holds_of full part.namespace) parts ≡ true
          by [] e =
              let low : count_in after.mounts found.0.number ≤ count_in world.mounts found.0.number =
              small found.0.number (ap length e) in
              absurd (omega (
                arith,
                low,
                ltb-true most_mounts (count_in after.mounts found.0.number) found.2,
                ltb-false most_mounts (count_in world.mounts found.0.number) few,
              ))
          by (part ∷ list) e =
              let inside : Among part parts × (is_in found.0.number part ≡ true) =
              among-from_filter (is_in found.0.number) parts part (subst (Among part) (sym e) (inl refl)) in
              any_from_among (λ (one : Mount ℕ). holds_of full one.namespace) parts part inside.0
              (of_it part.namespace inside.1)

  -- the parts as they are kept tell it
  kept_tell : (load : Load) → ((namespace : NamespaceId) → count_in after.mounts (counted namespace.count)
      ≡ count_in world.mounts (counted namespace.count) - leaving load namespace + count_in parts
      (counted namespace.count) * load.count)
      → list_any (λ part. is_overfilled mounts load counts part.namespace) kept ≡ has_too_many nat_eq after
  kept_tell load exact =
      over kept ∙ ap (list_any (λ part. holds_of full part.namespace)) are ∙ parts_tell
      ∙ ap (list_any (λ (namespace : Namespace ℕ). full namespace.number)) (sym same)
    where
      one : (o : Option NamespaceId)
          → is_overfilled mounts load counts o ≡ holds_of full (option_map (λ n. counted n.count) o)
      one None = refl
      one (Some namespace) = ap (nat_lt most_mounts) (
          (λ i. count_in (counted_so.same i) (counted namespace.count) - leaving load namespace
          + (right namespace ∙ sym (parts_counted kept namespace)
          ∙ ap (λ list. count_in list (counted namespace.count)) are) i * load.count) ∙ sym (exact namespace))

      over : (list : List Kept) → list_any (λ part. is_overfilled mounts load counts part.namespace) list
          ≡ list_any (λ part. holds_of full part.namespace) (map mount_of list)
      over [] = refl
      over (part ∷ list) = λ i. one part.namespace i || over list i

module _ (world : World ℕ) (place : Location ℕ) where
  abbrev parts : List (Mount ℕ)
  parts = parts_of nat_eq world place

  -- a part in a namespace is a mount of the world
  part_listed : NamespaceInvariants nat_eq world → (part : Mount ℕ) {namespace : ℕ}
      → Among part (parts_of nat_eq world place) → part.namespace ≡ Some namespace
      → is_listed nat_eq world namespace ≡ true
  part_listed invariants part {namespace} m is = ⊎_elim (λ e. first (numbered world.mounts place.mount) refl e)
      (λ l. listed world invariants part (rest l) is) m
    where
      rest : Among part (filter (takes_part nat_eq world place)
          (receivers_of nat_eq world (mount_at nat_eq world place))) → Among part world.mounts
      rest l = receivers_there world (mount_at nat_eq world place) part
          (among-from_filter (takes_part nat_eq world place)
          (receivers_of nat_eq world (mount_at nat_eq world place)) part l).0

      first : (o : Option (Mount ℕ)) → numbered world.mounts place.mount ≡ o → part ≡ mount_at nat_eq world place
          → is_listed nat_eq world namespace ≡ true
      first None e same = absurd (true≢false (ap (λ (found : Option ℕ). holds_of (λ n. true) found)
          (sym is ∙ ap (λ (mount : Mount ℕ). mount.namespace)
          (same ∙ ap (λ found. unwrap_or found (no_mount place.mount)) e))))
      first (Some mount) e same = listed world invariants mount
          (found_in (λ (one : Mount ℕ). nat_eq place.mount one.number) world.mounts mount e).0
          (ap (λ (one : Mount ℕ). one.namespace) (sym (same ∙ ap (λ found. unwrap_or found (no_mount place.mount)) e))
          ∙ is)

  -- Copies

  module _ (new : Copies ℕ) (tree : List (Mount ℕ)) where
    abbrev added : World ℕ
    added = attached_by nat_eq world new place false tree

    pub added_tell : {mounts : List (Mount ℕ)} {kept : List Kept} {counts : NamespaceId → ℕ}
        → AreCounted world parts mounts kept counts → (load : Load) → length tree ≡ load.count → load.leaves ≡ None
        → list_any (λ part. is_overfilled mounts load counts part.namespace) kept ≡ has_too_many nat_eq added
    added_tell are load size stay = kept_tell are (part_listed are.invariants) added refl small load exact
      where
        small : (namespace : ℕ) → count_in parts namespace ≡ 0
            → count_in added.mounts namespace ≤ count_in world.mounts namespace
        small namespace e =
            let all = added_counted world place new tree namespace in
            let none : count_in parts namespace * length tree ≡ 0 = ap (λ n. n * length tree) e ∙ omega arith in
            omega (arith, all, none)

        exact : (namespace : NamespaceId) → count_in added.mounts (counted namespace.count)
            ≡ count_in world.mounts (counted namespace.count) - leaving load namespace + count_in parts
            (counted namespace.count) * load.count
        exact namespace =
            let all = added_counted world place new tree (counted namespace.count) in
            let none : leaving load namespace
            ≡ 0 = ap (λ o. cond (holds_of (same_namespace namespace) o) load.count 0) stay in
            let sized : count_in parts (counted namespace.count) * length tree
            ≡ count_in parts (counted namespace.count) * load.count =
            ap (λ n. count_in parts (counted namespace.count) * n) size in
            omega (arith, all, none, sized)

  -- Mounts that move

  module _ (new : Copies ℕ) (tree : List (Mount ℕ)) where
    abbrev moved : World ℕ
    moved = attached_by nat_eq world new place true tree

    module _ (own : OneNumberAMount world.mounts) (apart : OneNumberAMount tree)
        (within : (mount : Mount ℕ) → Among mount tree → Among mount world.mounts) where
      moved_tell : {mounts : List (Mount ℕ)} {kept : List Kept} {counts : NamespaceId → ℕ}
          → AreCounted world parts mounts kept counts → (load : Load) → length tree ≡ load.count
          → ((mount : Mount ℕ) → Among mount tree → mount.namespace ≡ option_map (λ n. counted n.count) load.leaves)
          → list_any (λ part. is_overfilled mounts load counts part.namespace) kept ≡ has_too_many nat_eq moved
      moved_tell are load size inside = kept_tell are (part_listed are.invariants) moved refl small load exact
        where
          small : (namespace : ℕ) → count_in parts namespace ≡ 0
              → count_in moved.mounts namespace ≤ count_in world.mounts namespace
          small namespace e =
              let all = moved_all world place new tree own apart within namespace in
              let none : count_in parts namespace * length tree ≡ 0 = ap (λ n. n * length tree) e ∙ omega arith in
              omega (arith, all, none)

          leave : (namespace : NamespaceId) → count_in tree (counted namespace.count) ≡ leaving load namespace
          leave namespace =
              count-inside tree (option_map (λ n. counted n.count) load.leaves) inside (counted namespace.count)
              ∙ by load.leaves
            where
              by : (o : Option NamespaceId) → cond
                  (holds_of (nat_eq (counted namespace.count)) (option_map (λ n. counted n.count) o)) (length tree) 0
                  ≡ cond (holds_of (same_namespace namespace) o) load.count 0
              by None = refl
              by (Some other) = λ i. cond (counted_test namespace.count other.count i) (size i) 0

          exact : (namespace : NamespaceId) → count_in moved.mounts (counted namespace.count)
              ≡ count_in world.mounts (counted namespace.count) - leaving load namespace + count_in parts
              (counted namespace.count) * load.count
          exact namespace =
              let all = moved_all world place new tree own apart within (counted namespace.count) in
              let gone = leave namespace in
              let fewer = moved_fewer world.mounts tree own apart within (counted namespace.count) in
              let sized : count_in parts (counted namespace.count) * length tree
              ≡ count_in parts (counted namespace.count) * load.count =
              ap (λ n. count_in parts (counted namespace.count) * n) size in
              omega (arith, all, gone, fewer, sized)

-- What code counts tells whether a namespace overfills where a tree moves with copies.
pub moves_tell : {world : World ℕ} {mounts : List (Mount ℕ)} {kept : List Kept} {counts : NamespaceId → ℕ}
    (place : Location ℕ) (new : Copies ℕ) {tree : List (Mount ℕ)}
    → AreCounted world (parts_of nat_eq world place) mounts kept counts → (load : Load) → length tree ≡ load.count
    → MovesFrom world load.leaves tree → list_any (λ part. is_overfilled mounts load counts part.namespace) kept
    ≡ has_too_many nat_eq (attached_by nat_eq world new place true tree)
moves_tell {world} place new {tree} are load size moves =
    moved_tell world place new tree moves.one_number moves.each_once (λ mount m. among_from_contains world.mounts mount
    (among_from_all (Contains world.mounts) tree moves.there mount m)) are load size
    (λ mount m. among_from_all (λ (one : Mount ℕ). one.namespace
    ≡ option_map (λ (n : NamespaceId). counted n.count) load.leaves) tree moves.inside mount m)

-- a world that has so many more mounts in the namespace of each part
pub more_tell : {world : World ℕ} {mounts : List (Mount ℕ)} {kept : List Kept} {counts : NamespaceId → ℕ}
    (after : World ℕ) → AreCounted world (map mount_of kept) mounts kept counts → (load : Load) → load.leaves ≡ None
    → GrowsBy world after (map mount_of kept) load.count
    → list_any (λ part. is_overfilled mounts load counts part.namespace) kept ≡ has_too_many nat_eq after
more_tell {world} {kept = kept} after are load stay grows =
    kept_tell are (λ part namespace m is. listed world are.invariants part (among_from_contains world.mounts part
    (among_from_all (Contains world.mounts) (map mount_of kept) grows.there part m)) is) after grows.namespaces small
    load exact
  where
    small : (namespace : ℕ) → count_in (map mount_of kept) namespace ≡ 0
        → count_in after.mounts namespace ≤ count_in world.mounts namespace
    small namespace e =
        let all = grows.counts namespace in
        let none : count_in (map mount_of kept) namespace * load.count ≡ 0 = ap (λ n. n * load.count) e ∙ omega arith in
        omega (arith, all, none)

    exact : (namespace : NamespaceId) → count_in after.mounts (counted namespace.count)
        ≡ count_in world.mounts (counted namespace.count) - leaving load namespace + count_in (map mount_of kept)
        (counted namespace.count) * load.count
    exact namespace =
        let all = grows.counts (counted namespace.count) in
        let none : leaving load namespace
        ≡ 0 = ap (λ o. cond (holds_of (same_namespace namespace) o) load.count 0) stay in
        omega (arith, all, none)

-- where no namespace has too many mounts with all parts in it, none has with those that are
pub few_parts : (mounts : List (Mount ℕ)) (load : Load) (parts : List Kept)
    → list_any (λ part. is_overfilled mounts load (λ one. length parts) part.namespace) parts ≡ false
    → list_any (λ part. is_overfilled mounts load (parts_in parts) part.namespace) parts ≡ false
few_parts mounts load parts none = by (list_any over parts) refl
  where
    over : Kept → Bool
    over part = is_overfilled mounts load (parts_in parts) part.namespace

    at_most : Kept → Bool
    at_most part = is_overfilled mounts load (λ one. length parts) part.namespace

    raised : (m a b : ℕ) → nat_lt m a ≡ true → a ≤ b → nat_lt m b ≡ true
    raised m a b is le = let less = ltb-true m a is in grind (arith, nat_tests)

    still : (o : Option NamespaceId) → is_overfilled mounts load (parts_in parts) o ≡ true
        → is_overfilled mounts load (λ one. length parts) o ≡ true
    still None is = is
    still (Some one) is =
        let times = mul-le-mul_right load.count (count_by-le-length (is_part_in one) parts) in
        raised most_mounts _ _ is (omega (arith, times))

    by : (b : Bool) → list_any over parts ≡ b → list_any over parts ≡ false
    by true is = absurd (true≢false (sym (any_still over at_most (λ part. still part.namespace) parts is) ∙ none))
    by false is = is

-- A tree on each mount of a namespace

-- what passes two tests is among what passes a third, if the first implies it
twice-filtered : (first second third : Mount ℕ → Bool)
    → ((mount : Mount ℕ) → first mount ≡ true → third mount ≡ true) → (mounts : List (Mount ℕ)) (namespace : ℕ)
    → count_in (filter first (filter second mounts)) namespace ≤ count_in (filter third mounts) namespace
twice-filtered first second third within [] namespace = omega arith
twice-filtered first second third within (mount ∷ mounts) namespace =
    let rest = twice-filtered first second third within mounts namespace in
    let kept = count-cons mount (filter first (filter second mounts)) namespace in
    let larger = count-cons mount (filter third mounts) namespace in
    grind (arith, common_steps, rest, kept, larger, within mount)

filtered_at_most : (test : Mount ℕ → Bool) (mounts : List (Mount ℕ)) (namespace : ℕ)
    → count_in (filter test mounts) namespace ≤ count_in mounts namespace
filtered_at_most test [] namespace = omega arith
filtered_at_most test (mount ∷ mounts) namespace =
    let rest = filtered_at_most test mounts namespace in
    let kept = count-cons mount (filter test mounts) namespace in
    let all = count-cons mount mounts namespace in
    grind (arith, common_steps, rest, kept, all)

-- a mount that is found, and those that would not be
found_apart : (test : Mount ℕ → Bool) (found : Mount ℕ) (namespace : ℕ) (mounts : List (Mount ℕ))
    → find test mounts ≡ Some found → count_in (found ∷ filter (λ mount. not (test mount)) mounts) namespace
    ≤ count_in mounts namespace
found_apart test found namespace [] is = none_is_some found is
found_apart test found namespace (mount ∷ mounts) is =
    by (test mount) is (found_apart test found namespace mounts)
  where
    others : List (Mount ℕ)
    others = filter (λ one. not (test one)) mounts

    by : (b : Bool) → cond b (Some mount) (find test mounts) ≡ Some found
        → (find test mounts ≡ Some found → count_in (found ∷ others) namespace ≤ count_in mounts namespace)
        → count_in (found ∷ cond (not b) (mount ∷ others) others) namespace ≤ count_in (mount ∷ mounts) namespace
    by true is later =
        let fewer = filtered_at_most (λ one. not (test one)) mounts namespace in
        let first = count-cons mount others namespace in
        let all = count-cons mount mounts namespace in
        subst (λ one. count_in (one ∷ others) namespace ≤ count_in (mount ∷ mounts) namespace) (ap (λ o. unwrap_or o mount) is)
        (omega (arith, fewer, first, all))
    by false is later =
        let rest = later is in
        let one = count-cons found others namespace in
        let two = count-cons found (mount ∷ others) namespace in
        let three = count-cons mount others namespace in
        let all = count-cons mount mounts namespace in
        omega (arith, rest, one, two, three, all)

first_of_four : (a b c d : Bool) → (a && b && c && d) ≡ true → a ≡ true
first_of_four true b c d is = refl
first_of_four false true c d is = is
first_of_four false false c d is = is

-- the parts in a namespace are mounts of it, each once
pub parts_at_most : (world : World ℕ) (place : Location ℕ) (namespace : ℕ)
    → count_in (parts_of nat_eq world place) namespace ≤ count_in world.mounts namespace
parts_at_most world place namespace = by (numbered world.mounts place.mount) refl
  where
    others : List (Mount ℕ)
    others = filter (λ (mount : Mount ℕ). not (nat_eq place.mount mount.number)) world.mounts

    received : Mount ℕ → List (Mount ℕ)
    received mount = filter (takes_part nat_eq world place) (receivers_of nat_eq world mount)

    few : (mount : Mount ℕ) → count_in (received mount) namespace ≤ count_in others namespace
    few mount = by_group (group_of mount.propagation)
      where
        by_group : (o : Option ℕ) → count_in (filter (takes_part nat_eq world place)
            (unwrap_or (option_map (receivers nat_eq world) o) [])) namespace ≤ count_in others namespace
        by_group None = omega arith
        by_group (Some group) = twice-filtered (takes_part nat_eq world place) (receives nat_eq world group)
            (λ (mount : Mount ℕ). not (nat_eq place.mount mount.number))
            (λ mount takes. first_of_four (not (nat_eq place.mount mount.number)) _ _ _ takes) world.mounts namespace

    by : (o : Option (Mount ℕ)) → numbered world.mounts place.mount ≡ o
        → count_in (parts_of nat_eq world place) namespace ≤ count_in world.mounts namespace
    by None e = subst (λ one. count_in (one ∷ received one) namespace ≤ count_in world.mounts namespace)
        (sym (ap (λ found. unwrap_or found (no_mount place.mount)) e)) (omega arith)
    by (Some mount) e =
        let apart = found_apart (λ (one : Mount ℕ). nat_eq place.mount one.number) mount namespace world.mounts e in
        let one = count-cons mount others namespace in
        let parts = count-cons mount (received mount) namespace in
        let fewer = few mount in
        subst (λ one. count_in (one ∷ received one) namespace ≤ count_in world.mounts namespace)
        (sym (ap (λ found. unwrap_or found (no_mount place.mount)) e)) (omega (arith, apart, one, parts, fewer))

-- where each namespace has room for a tree on each of its mounts, no attachment overfills one
pub room_everywhere : (world : World ℕ) (place : Location ℕ) (new : Copies ℕ) (tree : List (Mount ℕ)) (most : ℕ)
    → ((namespace : ℕ) → count_in world.mounts namespace ≤ most) → nat_lt most_mounts (most + most * length tree) ≡ false
    → has_too_many nat_eq (attached_by nat_eq world new place false tree) ≡ false
room_everywhere world place new tree most bounded room =
    none_from_among (λ (one : Namespace ℕ). nat_lt most_mounts
    (count_in (attached_by nat_eq world new place false tree).mounts one.number)) world.namespaces (λ one m.
    let all = added_counted world place new tree one.number in
    let times = mul-le-mul_right (length tree)
    (le_trans (parts_at_most world place one.number) (bounded one.number)) in
    let few = bounded one.number in
    let fits = ltb-false most_mounts (most + most * length tree) room in
    le-ltb most_mounts _ (omega (arith, all, times, few, fits)))

-- a sum that stops at a greatest number is within a smaller one just if it is without that number
pub within_cap : (sum cap most : ℕ) → min sum cap ≤ most → most < cap → sum ≤ most
within_cap sum cap most within small = by (nat_lt cap sum) refl
  where
    by : (b : Bool) → nat_lt cap sum ≡ b → sum ≤ most
    by true is =
        let over = ltb-true cap sum is in
        let cut = min-eq_right {n = cap} {m = sum} (omega (arith, over)) in
        absurd (omega (arith, cut, within, small))
    by false is =
        let whole = min-eq_left {n = sum} {m = cap} (ltb-false cap sum is) in
        omega (arith, whole, within)
