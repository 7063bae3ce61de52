-- What granted calls make: at most 4,096 mounts for each namespace, since none overfills.
use Rattle.std.proofs.Common.{arith, ap, refl, sym, subst, ◌∙◌, ◌≡◌, ◌⊎◌, ℕ, zero, suc, nat_eq, nat_lt, Bool, true, false, cond, not, ◌&&◌, ◌||◌, ◌+◌, ◌-◌, ◌*◌, ◌≤◌, List, [], ◌∷◌, length, filter, map, Option, None, Some, Ok, is_some, true≢false, eqb-true, eq-eqb, option_map, option_to_list, unwrap_or, inl, inr, ⊎_elim}
use Rattle.std.proofs.Math.Nat.{mul-add, mul_comm, mul-le-mul_left}
use Rattle.std.proofs.lemmas.Bool.{ltb-false}
use Rattle.vt_spec.proofs.Common.{Among, Call, Fresh, IsWorld, Location, Mount, Permit, Task, World, among-filter, among-from_filter, among-from_flat_map, among-from_map, among-map, among_from_list_all, and_parts, any_among, bind_tree, children, group_of, has_tasks, holds_of, is_among, is_listed, is_nowhere_or_attached, is_private, judge_in, length-map, list_all, list_all_from_among, list_any, looks_of, mount_at, mount_numbered, named_mounts, not-false, or_parts, overfills, pair-filter, pair-map, parts_of, receivers, receivers_of, receives, same_name, some_from_is_some, stands_on, takes_part, task_called, tree_among, tree_from}
use Rattle.vt_spec.proofs.Found.{found_among}
use Rattle.vt_spec.specs.Machine.Attach.{reaches}
use Rattle.vt_spec.specs.Machine.Rules.Conditions.{is_elsewhere}
use Rattle.vt_spec.specs.Machine.Rules.Mounting.{overlay_at}
use Rattle.vt_spec.specs.Machine.World.{Namespace}
use Rattle.vt_laws_mounts.specs.Mounts.Ending.{is_in, mount_count}
use Rattle.vt_laws_rules.proofs.given.Ways.{calls_are_granted}
use Rattle.vt_laws_rules.proofs.given.Ways.{IsGranted}
use Rattle.vt_laws_rules.proofs.given.Ways.IsGranted.{binds, changes_type, mounts_overlayfs, mounts_tmpfs, moves_mount, unshares}
use Rattle.vt_laws_mounts.proofs.mounts.Standing.{fewer_numbers}
use Rattle.vt_laws_mounts.specs.Mounts.Attaching.{is_mount, numbers_of}
use Rattle.vt_laws_worlds.proofs.worlds.ReachedWalks.{directory_walk_end}
use Rattle.vt_laws_later_calls.proofs.Common.{Ends, HereDirectory, found_there, source_walk_end, trees_have_each_once}
use Rattle.vt_laws_later_calls.proofs.limits.room.Counted.{binds_ask_for_room, moves_ask_for_room, new_mounts_ask_for_room, overlays_ask_for_room}
use Rattle.vt_laws_later_calls.specs.Limits.Made.{GrantedCallsMakeFew, MakesFew, NamespacesHaveTasks}
use Rattle.vt_laws_later_calls.specs.Limits.Room.{how_many_in, lacks_room, parts_in, tree_of}

-- Mounts in namespaces

abbrev in_one : List (Namespace ℕ) → Mount ℕ → Bool
in_one namespaces mount = list_any (λ namespace. is_in namespace.number mount) namespaces

abbrev total_in : List (Namespace ℕ) → List (Mount ℕ) → ℕ
total_in [] mounts = 0
total_in (namespace ∷ rest) mounts = how_many_in namespace.number mounts + total_in rest mounts

one_more : (number : ℕ) (mount : Mount ℕ) (mounts : List (Mount ℕ)) (b : Bool) → is_in number mount ≡ b
    → how_many_in number (mount ∷ mounts) ≡ cond b (how_many_in number mounts + 1) (how_many_in number mounts)
one_more number mount mounts true is = omega (
  arith,
  ap (λ b. length (cond b (mount ∷ filter (is_in number) mounts)
      (filter (is_in number) mounts))) is,
)
one_more number mount mounts false is = ap (λ b. length (cond b (mount ∷ filter (is_in number) mounts)
    (filter (is_in number) mounts))) is

no_fewer : (namespaces : List (Namespace ℕ)) (mount : Mount ℕ) (mounts : List (Mount ℕ))
    → total_in namespaces mounts ≤ total_in namespaces (mount ∷ mounts)
no_fewer [] mount mounts = omega arith
no_fewer (namespace ∷ rest) mount mounts = by (is_in namespace.number mount) refl (no_fewer rest mount mounts)
  where
    by : (b : Bool) → is_in namespace.number mount ≡ b
        → total_in rest mounts ≤ total_in rest (mount ∷ mounts)
        → how_many_in namespace.number mounts + total_in rest mounts
        ≤ how_many_in namespace.number (mount ∷ mounts) + total_in rest (mount ∷ mounts)
    by true is less = omega (arith, one_more namespace.number mount mounts true is, less)
    by false is less = omega (arith, one_more namespace.number mount mounts false is, less)

counted_once : (namespaces : List (Namespace ℕ)) (mount : Mount ℕ) (mounts : List (Mount ℕ))
    → in_one namespaces mount ≡ true → total_in namespaces mounts + 1 ≤ total_in namespaces (mount ∷ mounts)
counted_once [] mount mounts one = cc
counted_once (namespace ∷ rest) mount mounts one =
    by (is_in namespace.number mount) refl one (counted_once rest mount mounts)
  where
    by : (b : Bool) → is_in namespace.number mount ≡ b → (b || in_one rest mount) ≡ true
        → (in_one rest mount ≡ true → total_in rest mounts + 1 ≤ total_in rest (mount ∷ mounts))
        → how_many_in namespace.number mounts + total_in rest mounts + 1
        ≤ how_many_in namespace.number (mount ∷ mounts) + total_in rest (mount ∷ mounts)
    by true is here later = omega (arith, one_more namespace.number mount mounts true is, no_fewer rest mount mounts)
    by false is here later = omega (arith, one_more namespace.number mount mounts false is, later here)

-- mounts that are all in namespaces of a list are no more than there are in these
covered : (namespaces : List (Namespace ℕ)) (mounts : List (Mount ℕ)) → list_all (in_one namespaces) mounts ≡ true
    → length mounts ≤ total_in namespaces mounts
covered namespaces [] all = omega arith
covered namespaces (mount ∷ rest) all =
    let parts = and_parts (in_one namespaces mount) (list_all (in_one namespaces) rest) all in
    omega (arith, covered namespaces rest parts.1, counted_once namespaces mount rest parts.0)

-- and so many for each of them, where none has too many
filled : (k : ℕ) (value : ℕ → ℕ) (namespaces : List (Namespace ℕ)) (mounts : List (Mount ℕ))
    → ((number : ℕ) → k * how_many_in number mounts ≤ value number)
    → list_any (λ namespace. nat_lt 4096 (value namespace.number)) namespaces ≡ false
    → k * total_in namespaces mounts ≤ 4096 * length namespaces
filled k value [] mounts below none = omega arith
filled k value (namespace ∷ rest) mounts below none =
    let parts = or_parts (nat_lt 4096 (value namespace.number))
    (list_any (λ namespace. nat_lt 4096 (value namespace.number)) rest) none in
    omega (
      arith,
      mul-add k (how_many_in namespace.number mounts) (total_in rest mounts),
      below namespace.number,
      ltb-false 4096 (value namespace.number) parts.0,
      filled k value rest mounts below parts.1,
    )

or_right_true : (a b : Bool) → b ≡ true → (a || b) ≡ true
or_right_true true b is = refl
or_right_true false b is = is

-- Worlds

listed_in : (namespaces : List (Namespace ℕ)) (number : ℕ)
    → is_among nat_eq number (map (λ namespace. namespace.number) namespaces) ≡ true
    → list_any (λ namespace. nat_eq namespace.number number) namespaces ≡ true
listed_in [] number there = cc
listed_in (namespace ∷ rest) number there =
    by (nat_eq number namespace.number) refl there (listed_in rest number)
  where
    by : (b : Bool) → nat_eq number namespace.number ≡ b
        → (b || is_among nat_eq number (map (λ one. one.number) rest)) ≡ true
        → (is_among nat_eq number (map (λ one. one.number) rest) ≡ true
        → list_any (λ one. nat_eq one.number number) rest ≡ true)
        → (nat_eq namespace.number number || list_any (λ one. nat_eq one.number number) rest) ≡ true
    by true is here later = ap (λ b. b || list_any (λ one. nat_eq one.number number) rest)
        (eq-eqb namespace.number number (sym (eqb-true number namespace.number is)))
    by false is here later = or_right_true (nat_eq namespace.number number)
        (list_any (λ one. nat_eq one.number number) rest) (later here)

-- where none has too many, one of them has not
few_there : (value : ℕ → ℕ) (own : ℕ) (namespaces : List (Namespace ℕ))
    → is_among nat_eq own (map (λ namespace. namespace.number) namespaces) ≡ true
    → list_any (λ namespace. nat_lt 4096 (value namespace.number)) namespaces ≡ false
    → value own ≤ 4096 * length namespaces
few_there value own [] there none = absurd (true≢false (sym there))
few_there value own (namespace ∷ rest) there none =
    let parts = or_parts (nat_lt 4096 (value namespace.number))
    (list_any (λ one. nat_lt 4096 (value one.number)) rest) none in
    by (nat_eq own namespace.number) refl there (ltb-false 4096 (value namespace.number) parts.0)
    (λ later. few_there value own rest later parts.1)
  where
    by : (b : Bool) → nat_eq own namespace.number ≡ b
        → (b || is_among nat_eq own (map (λ one. one.number) rest)) ≡ true → value namespace.number ≤ 4096
        → (is_among nat_eq own (map (λ one. one.number) rest) ≡ true → value own ≤ 4096 * length rest)
        → value own ≤ 4096 * length (namespace ∷ rest)
    by true same there few later = omega (arith, ap value (eqb-true own namespace.number same), few)
    by false other there few later = omega (arith, later there)

-- what is in a tree is its first mount, or has a mount point
placed_below : (depth : ℕ) (mounts : List (Mount ℕ)) (top mount : Mount ℕ)
    → Among mount (tree_from nat_eq depth mounts top) → (mount ≡ top) ⊎ (is_some mount.mount_point ≡ true)
placed_below zero mounts top mount m = ⊎_elim inl (λ none. absurd none) m
placed_below (suc depth) mounts top mount m = ⊎_elim inl (λ later.
    let under = among-from_flat_map (tree_from nat_eq depth mounts) (children nat_eq mounts top.number) mount later in
    let child = among-from_filter (stands_on nat_eq top.number) mounts under.0 under.1 in
    inr (⊎_elim (λ same. ap (λ (one : Mount ℕ). is_some one.mount_point) same ∙ placed under.0 child.1) (λ deeper. deeper)
    (placed_below depth mounts under.0 mount under.2))) m
  where
    placed : (one : Mount ℕ) → stands_on nat_eq top.number one ≡ true → is_some one.mount_point ≡ true
    placed one on = by one.mount_point on
      where
        by : (point : Option (Location ℕ)) → holds_of (λ place. nat_eq top.number place.mount) point ≡ true
            → is_some point ≡ true
        by None held = held
        by (Some point) held = refl

module _ (world : World ℕ) (is : IsWorld nat_eq world) where
  in_listed : (mount : Mount ℕ) (number : ℕ) → mount.namespace ≡ Some number → is_listed nat_eq world number ≡ true
      → in_one world.namespaces mount ≡ true
  in_listed mount number inside listed =
      ap (λ own. list_any (λ namespace. holds_of (nat_eq namespace.number) own) world.namespaces) inside
      ∙ listed_in world.namespaces number listed

  in_own : (mount : Mount ℕ) (own : ℕ) → is_listed nat_eq world own ≡ true
      → holds_of (nat_eq own) mount.namespace ≡ true → in_one world.namespaces mount ≡ true
  in_own mount own listed here = by mount.namespace refl here
    where
      by : (namespace : Option ℕ) → mount.namespace ≡ namespace → holds_of (nat_eq own) namespace ≡ true
          → in_one world.namespaces mount ≡ true
      by None inside held = absurd (true≢false (sym held))
      by (Some number) inside held =
          in_listed mount number inside (ap (is_listed nat_eq world) (sym (eqb-true own number held)) ∙ listed)

  attached_listed : (mount : Mount ℕ) → Among mount world.mounts → is_some mount.namespace ≡ true
      → in_one world.namespaces mount ≡ true
  attached_listed mount there attached =
      let own = some_from_is_some mount.namespace attached in
      let all = among_from_list_all (λ one. list_all (is_listed nat_eq world) (option_to_list one.namespace)) world.mounts
      is.namespaces.mounts_listed mount there in
      let listed = ap (λ o. list_all (is_listed nat_eq world) (option_to_list o)) (sym own.1) ∙ all in
      in_listed mount own.0 own.1 (and_parts (is_listed nat_eq world own.0) true listed).0

  -- each receiver is a mount of the world
  received_there : (mount one : Mount ℕ) → Among one (receivers_of nat_eq world mount) → Among one world.mounts
  received_there mount one among = by (group_of mount.propagation) among
    where
      by : (group : Option ℕ) → Among one (unwrap_or (option_map (receivers nat_eq world) group) [])
          → Among one world.mounts
      by None among = absurd among
      by (Some group) among = (among-from_filter (receives nat_eq world group) world.mounts one among).0

  parts_covered : (place : Location ℕ) (own : ℕ) → is_listed nat_eq world own ≡ true
      → holds_of (nat_eq own) (mount_at nat_eq world place).namespace ≡ true
      → list_all (in_one world.namespaces) (parts_of nat_eq world place) ≡ true
  parts_covered place own listed here = λ i. in_own (mount_at nat_eq world place) own listed here i && rest i
    where
      rest : list_all (in_one world.namespaces)
          (filter (takes_part nat_eq world place) (receivers_of nat_eq world (mount_at nat_eq world place))) ≡ true
      rest = list_all_from_among (in_one world.namespaces) _ (λ mount among.
          let kept = among-from_filter (takes_part nat_eq world place)
          (receivers_of nat_eq world (mount_at nat_eq world place)) mount among in
          let tests = and_parts (not (nat_eq place.mount mount.number) && is_some mount.namespace
          && nat_eq (mount_at nat_eq world place).filesystem mount.filesystem) (reaches nat_eq world place.node mount)
          kept.1 in
          let before = and_parts (not (nat_eq place.mount mount.number) && is_some mount.namespace)
          (nat_eq (mount_at nat_eq world place).filesystem mount.filesystem) tests.0 in
          attached_listed mount (received_there (mount_at nat_eq world place) mount kept.0)
          (and_parts (not (nat_eq place.mount mount.number)) (is_some mount.namespace) before.0).1)

  -- so many mounts at each part are few
  few_at_parts : (k : ℕ) (place : Location ℕ) (own : ℕ) → is_listed nat_eq world own ≡ true
      → holds_of (nat_eq own) (mount_at nat_eq world place).namespace ≡ true → (value : ℕ → ℕ)
      → ((number : ℕ) → k * parts_in world place number ≤ value number)
      → list_any (λ namespace. nat_lt 4096 (value namespace.number)) world.namespaces ≡ false
      → k * length (parts_of nat_eq world place) ≤ 4096 * length world.namespaces
  few_at_parts k place own listed here value below none =
      let parts = parts_of nat_eq world place in
      let all = covered world.namespaces parts (parts_covered place own listed here) in
      let few = filled k value world.namespaces parts below none in
      let more = mul-le-mul_left k all in
      omega (arith, few, more)

  -- Trees of mounts

  attached_below : (mount : Mount ℕ) → Among mount world.mounts → is_some mount.mount_point ≡ true
      → is_some mount.namespace ≡ true
  attached_below mount there placed =
      by (is_some mount.namespace) (is_some mount.mount_point) placed
      (among_from_list_all is_nowhere_or_attached world.mounts is.mounts.nowhere mount there)
    where
      by : (attached point : Bool) → point ≡ true → (attached || (not point && is_private mount.propagation)) ≡ true
          → attached ≡ true
      by true point placed or = refl
      by false true placed or = or
      by false false placed or = absurd (true≢false (sym placed))

  tree_covered : (mount : ℕ) (own : ℕ) → is_listed nat_eq world own ≡ true
      → holds_of (nat_eq own) (mount_numbered nat_eq world mount).namespace ≡ true
      → list_all (in_one world.namespaces) (tree_of world mount) ≡ true
  tree_covered mount own listed here = list_all_from_among (in_one world.namespaces) (tree_of world mount) (λ one among.
      ⊎_elim (λ same. ap (in_one world.namespaces) same ∙ in_own (mount_numbered nat_eq world mount) own listed here)
      (λ placed. ⊎_elim (λ same. ap (in_one world.namespaces) same
      ∙ in_own (mount_numbered nat_eq world mount) own listed here)
      (λ there. attached_listed one there (attached_below one there placed))
      (tree_among (length world.mounts) world.mounts (mount_numbered nat_eq world mount) one among))
      (placed_below (length world.mounts) world.mounts (mount_numbered nat_eq world mount) one among))

  few_of_tree : (mount : ℕ) → is_mount world mount ≡ true → (number : ℕ)
      → how_many_in number (tree_of world mount) ≤ mount_count world number
  few_of_tree mount there number =
      let tree = tree_of world mount in
      let own = filter (is_in number) tree in
      let once = pair-filter (λ (a b : Mount ℕ). nat_eq a.number b.number) (is_in number) tree
      (trees_have_each_once world mount is.mounts.one_number is.mounts.standing) in
      let apart = pair-map (λ (a b : Mount ℕ). nat_eq a.number b.number) nat_eq (λ (one : Mount ℕ). one.number) own
      (λ a b m n e. e) once in
      let few = fewer_numbers (numbers_of own) (numbers_of (filter (is_in number) world.mounts)) apart (λ other among.
      let from = among-from_map (λ (one : Mount ℕ). one.number) own other among in
      let kept = among-from_filter (is_in number) tree from.0 from.1 in
      subst (λ n. Among n (numbers_of (filter (is_in number) world.mounts))) (sym from.2)
      (among-map (λ (one : Mount ℕ). one.number) (filter (is_in number) world.mounts) from.0
      (among-filter (is_in number) world.mounts from.0 (within from.0 kept.0) kept.1))) in
      omega (
        arith,
        few,
        length-map own (λ (one : Mount ℕ). one.number),
        length-map (filter (is_in number) world.mounts) (λ (one : Mount ℕ). one.number),
      )
    where
      within : (one : Mount ℕ) → Among one (tree_of world mount) → Among one world.mounts
      within one m = ⊎_elim (λ same. rw same (found_there world.mounts mount there)) (λ other. other)
          (tree_among _ world.mounts _ one m)

  -- no namespace has too many mounts, so a tree is small
  few_in_tree : (mount : ℕ) (own : ℕ) → is_listed nat_eq world own ≡ true → is_mount world mount ≡ true
      → holds_of (nat_eq own) (mount_numbered nat_eq world mount).namespace ≡ true
      → length (tree_of world mount) ≤ 4096 * length world.namespaces
  few_in_tree mount own listed there here =
      let tree = tree_of world mount in
      let all = covered world.namespaces tree (tree_covered mount own listed here) in
      let few = filled 1 (mount_count world) world.namespaces tree
      (λ number. let less = few_of_tree mount there number in omega (arith, less)) is.namespaces.few_mounts in
      omega (arith, all, few)

  -- and so is a namespace
  few_in_one : (own : ℕ) → is_listed nat_eq world own ≡ true
      → mount_count world own ≤ 4096 * length world.namespaces
  few_in_one own listed =
      few_there (mount_count world) own world.namespaces listed is.namespaces.few_mounts

  -- Calls that are granted

  module _ (fresh : Fresh ℕ) (task : Task ℕ) (called : task_called world task.name ≡ Some task) where
    own_listed : is_listed nat_eq world task.namespace ≡ true
    own_listed = among_from_list_all (λ (one : Task ℕ). is_listed nat_eq world one.namespace) world.tasks
        is.namespaces.tasks_listed task (found_among (λ (one : Task ℕ). same_name task.name one.name) world.tasks task called)

    here_in_own : (place : Location ℕ) → is_elsewhere nat_eq (looks_of nat_eq world) task place ≡ false
        → holds_of (nat_eq task.namespace) (mount_at nat_eq world place).namespace ≡ true
    here_in_own place inside = not-false _ inside

    new_few : (place : Location ℕ) → is_elsewhere nat_eq (looks_of nat_eq world) task place ≡ false
        → lacks_room world place 1 ≡ false
        → length (parts_of nat_eq world place) ≤ 4096 * length world.namespaces
    new_few place inside room =
        let few = few_at_parts 1 place task.namespace own_listed (here_in_own place inside)
        (λ number. mount_count world number + parts_in world place number * 1) (λ number. omega arith) room in
        omega (arith, few)

    named_few : (mount : ℕ) (recursive : Bool) → is_mount world mount ≡ true
        → holds_of (nat_eq task.namespace) (mount_numbered nat_eq world mount).namespace ≡ true
        → length (named_mounts nat_eq world mount recursive) ≤ 4096 * length world.namespaces
    named_few mount true there here = few_in_tree mount task.namespace own_listed there here
    named_few mount false there here =
        let one : 1 ≤ length (tree_of world mount) = by (length world.mounts) in
        let few = few_in_tree mount task.namespace own_listed there here in
        omega (arith, one, few)
      where
        by : (depth : ℕ) → 1 ≤ length (tree_from nat_eq depth world.mounts (mount_numbered nat_eq world mount))
        by zero = omega arith
        by (suc depth) = omega arith

    granted_few : (call : Call) (permit : Permit ℕ)
        → IsGranted nat_eq (looks_of nat_eq world) (overfills nat_eq fresh world task) task call permit
        → MakesFew world task permit
    granted_few call permit (mounts_tmpfs path flags here admin end free) = new_few here.location free.0
        (sym (new_mounts_ask_for_room world fresh task here.location flags is) ∙ free.1.0)
    granted_few call permit (mounts_overlayfs path words flags here places admin end walked passed free) =
        new_few here.location free.0
        (sym (overlays_ask_for_room world fresh task here.location (overlay_at (looks_of nat_eq world) task places) flags is)
        ∙ free.1.0)
    granted_few call permit (binds source path recursive from here admin start end free) =
        let tree = bind_tree nat_eq world from.location recursive in
        let elsewhere = or_parts (is_elsewhere nat_eq (looks_of nat_eq world) task from.location)
        (is_elsewhere nat_eq (looks_of nat_eq world) task here.location) free.0 in
        let few = few_at_parts (length tree) here.location task.namespace own_listed (here_in_own here.location elsewhere.1)
        (λ number. mount_count world number + parts_in world here.location number * length tree)
        (λ number. let turned = mul_comm (length tree) (parts_in world here.location number) in omega (arith, turned))
        (sym (binds_ask_for_room world fresh task from.location here.location recursive) ∙ free.1.1.0) in
        let turned = mul_comm (length (parts_of nat_eq world here.location)) (length tree) in
        omega (arith, few, turned)
    granted_few call permit (moves_mount source path from here admin start end free) =
        let tree = tree_of world from.location.mount in
        let there : is_mount world from.location.mount ≡ true = (subst (Ends (HereDirectory world is task called)) start
        (source_walk_end world is task called source)).0.0 in
        let elsewhere = or_parts (is_elsewhere nat_eq (looks_of nat_eq world) task from.location)
        (is_elsewhere nat_eq (looks_of nat_eq world) task here.location) free.0 in
        let few = few_at_parts (length tree) here.location task.namespace own_listed (here_in_own here.location elsewhere.1)
        (λ number. mount_count world number + parts_in world here.location number * length tree - how_many_in number tree)
        (λ number.
        let turned = mul_comm (length tree) (parts_in world here.location number) in
        let less = few_of_tree from.location.mount there number in
        omega (arith, turned, less))
        (sym (moves_ask_for_room world fresh task from.location.mount here.location is there) ∙ free.1.1.1.1.1.0) in
        let turned = mul_comm (length (parts_of nat_eq world here.location)) (length tree) in
        omega (arith, few, turned)
    granted_few call permit (changes_type path word recursive here admin end free) =
        named_few here.location.mount recursive
        (subst (Ends (HereDirectory world is task called)) end (directory_walk_end world is task called path)).0.0
        (here_in_own here.location free.0)
    granted_few call permit (unshares free) = few_in_one task.namespace own_listed
    granted_few call permit way = tt

    few_made : (call : Call) (permit : Permit ℕ) → judge_in nat_eq fresh world task call ≡ Ok permit
        → MakesFew world task permit
    few_made call permit judged = granted_few call permit
        (calls_are_granted nat_eq (looks_of nat_eq world) (overfills nat_eq fresh world task) task call permit judged)

  -- Each namespace has a task, so there are no more namespaces than tasks
  few_namespaces : length world.namespaces ≤ length world.tasks
  few_namespaces =
      let numbers = map (λ (namespace : Namespace ℕ). namespace.number) world.namespaces in
      let apart = pair-map (λ (a b : Namespace ℕ). nat_eq a.number b.number) nat_eq
      (λ (namespace : Namespace ℕ). namespace.number) world.namespaces (λ a b m n e. e) is.namespaces.one_namespace in
      let few = fewer_numbers numbers (map (λ (task : Task ℕ). task.namespace) world.tasks) apart (λ number among.
      let from = among-from_map (λ (namespace : Namespace ℕ). namespace.number) world.namespaces number among in
      let lives = among_from_list_all (has_tasks nat_eq world) world.namespaces is.namespaces.namespaces_live from.0
      from.1 in
      let own = any_among (λ (task : Task ℕ). nat_eq from.0.number task.namespace) world.tasks lives in
      subst (λ n. Among n (map (λ (task : Task ℕ). task.namespace) world.tasks))
      (sym (eqb-true from.0.number own.0.namespace own.2) ∙ sym from.2)
      (among-map (λ (task : Task ℕ). task.namespace) world.tasks own.0 own.1)) in
      omega (
        arith,
        few,
        length-map world.namespaces (λ (namespace : Namespace ℕ). namespace.number),
        length-map world.tasks (λ (task : Task ℕ). task.namespace),
      )

pub granted_calls_make_few : GrantedCallsMakeFew
granted_calls_make_few world fresh task call permit is called judged = few_made world is fresh task called call permit judged

pub namespaces_have_tasks : NamespacesHaveTasks
namespaces_have_tasks world is = few_namespaces world is
