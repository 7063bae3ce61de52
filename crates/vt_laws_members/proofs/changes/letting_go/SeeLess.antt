-- A set of tasks that sees less of a world has the part of its part.
use Rattle.std.proofs.Common.{arith, ◌≡◌, refl, ℕ, nat_eq, Bool, true, true≢false, List, [], ◌∷◌, Option, Some, None, filter, filter_map}
use Rattle.vt_spec.proofs.Common.{Among, IsWorld, Location, Mount, Namespace, Task, TaskName, World, among-filter, among-from_filter, any_among, any_from_among, common_steps, holds_of, is_member_of, is_member_task, list_any, locations, members, mount_at, own_mounts, part_of, then_some, used_directly}
use Rattle.vt_laws_members.proofs.Common.{filter_map_same, is_own, keep}
use Rattle.vt_laws_members.proofs.changes.letting_go.LessSeen.{AreLess, filter_map_then, one_part}

-- a filter by less
pub filter_less : {A : Type 0} (p r : A → Bool) (xs : List A) → ((x : A) → p x ≡ true → r x ≡ true)
    → filter p (filter r xs) ≡ filter p xs
filter_less p r [] less = refl
filter_less {A} p r (x ∷ xs) less = grind (arith, common_steps, true≢false, filter_less p r xs less)

module _ (world : World ℕ) (names set : List TaskName) (tasks : List (Task ℕ)) (change : ℕ) where
  abbrev pub later : World ℕ
  later = record world { tasks = tasks; change = change }

  abbrev old : List (Task ℕ)
  old = members world names

  abbrev new : List (Task ℕ)
  new = members later set

  -- the tasks of the set see no more than they saw: namespaces, mounts, and filesystems
  pub record SeeLess : Type 0 where
    pub own : (n : ℕ) → list_any (λ (t : Task ℕ). nat_eq n t.namespace) new ≡ true
        → list_any (λ (t : Task ℕ). nat_eq n t.namespace) old ≡ true
    -- a mount that is shown was shown, with no less
    pub mounts : (mount : Mount ℕ) → Among mount world.mounts
        → then_some (keep world names old mount) (keep world names new) ≡ keep world names new mount
    -- their locations are on mounts of the part
    pub located : (location : Location ℕ) → Among location (locations new)
        → (mount_at nat_eq (part_of nat_eq world names) location).filesystem
        ≡ (mount_at nat_eq world location).filesystem
    pub direct : (number : ℕ) → Among number (used_directly nat_eq later set)
        → Among number (used_directly nat_eq world names)

module _ {world : World ℕ} {names : List TaskName} (is : IsWorld nat_eq world) {set : List TaskName}
    {tasks : List (Task ℕ)} (tasks_too : List (Task ℕ)) {change : ℕ} (change_too : ℕ)
    (less : SeeLess world names set tasks change)
    (same : filter (is_member_task set) tasks_too ≡ filter (is_member_task set) tasks) where
  abbrev part : World ℕ
  part = part_of nat_eq world names

  abbrev now : World ℕ
  now = record world { tasks = tasks; change = change }

  abbrev now_part : World ℕ
  now_part = record part { tasks = tasks_too; change = change_too }

  abbrev before : List (Task ℕ)
  before = members world names

  abbrev theirs : List (Task ℕ)
  theirs = members now set

  -- mounts
  mounts_less : filter_map (keep world names theirs) (filter_map (keep world names before) world.mounts)
      ≡ filter_map (keep world names theirs) world.mounts
  mounts_less = cc (
    filter_map_then (keep world names before) (keep world names theirs) world.mounts,
    filter_map_same (λ m. then_some (keep world names before m) (keep world names theirs)) (keep world names
        theirs) world.mounts less.mounts,
  )

  own_was : (m : Mount ℕ) → is_own world names theirs m ≡ true → is_own world names before m ≡ true
  own_was m = by m.namespace
    where
      by : (o : Option ℕ) → holds_of (λ n. list_any (λ (t : Task ℕ). nat_eq n t.namespace) theirs) o ≡ true
          → holds_of (λ n. list_any (λ (t : Task ℕ). nat_eq n t.namespace) before) o ≡ true
      by None h = h
      by (Some n) h = less.own n h

  masters_same : (group : ℕ) → list_any (is_member_of nat_eq group) (own_mounts nat_eq now set) ≡ true
      → part.master group ≡ world.master group
  masters_same group h =
      let at = any_among (is_member_of nat_eq group) (own_mounts nat_eq now set) h in
      let from = among-from_filter (is_own world names theirs) world.mounts at.0 at.1 in
      cc (any_from_among (is_member_of nat_eq group) (own_mounts nat_eq world names) at.0 (among-filter (is_own world
      names before) world.mounts at.0 from.0 (own_was at.0 from.1)) at.2)

  abbrev spaces : List (Task ℕ) → Namespace ℕ → Bool
  spaces ts n = list_any (λ (t : Task ℕ). nat_eq n.number t.namespace) ts

  namespaces_less : filter (spaces (members now_part set)) (filter (spaces before) world.namespaces)
      ≡ filter (spaces theirs) world.namespaces
  namespaces_less = cc (same, filter_less (spaces theirs) (spaces before) world.namespaces (λ n h. less.own n.number h))

  mounts_now : filter_map (keep world names (members now_part set)) part.mounts
      ≡ filter_map (keep world names theirs) world.mounts
  mounts_now = cc mounts_less

  pub now_less : AreLess world names set now now_part
  now_less = grind (arith, common_steps, mounts_now, masters_same, namespaces_less)

  -- so they have the part of the part
  pub part_of_less : part_of nat_eq now_part set ≡ part_of nat_eq now set
  part_of_less = one_part is now_less
