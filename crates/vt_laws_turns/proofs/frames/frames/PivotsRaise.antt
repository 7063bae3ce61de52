-- A pivot raises the change number of its namespace, so other tasks of a namespace whose number is what it was are what
-- they were.
use Rattle.std.proofs.Common.{◌≡◌, refl, sym, ap, subst, ⊎_elim, ℕ, nat_eq, Bool, true, false, true≢false, cond, ◌||◌, List, [], ◌∷◌, Some, None, Ok, eqb-true, eq-eqb, is_some, arith}
use Rattle.vt_spec.proofs.Common.{Among, Call, Fresh, Location, Mount, PivotRoot, Task, TaskName, ToPivot, World, among-filter, among-from_filter, among-map, child_at, common_steps, filesystems_changed_by, holds_of, is_located, judge_in, mount_at, mount_numbered, mounts_of, nat_eq_itself, none_is_some, number-mount_in, numbers_raised, pivoted, pivoted_mount, policy, settled, stands_at, task_called}
use Rattle.vt_laws_turns.proofs.Common.{MayPivot, all_permits_fit, call_is_judged_then_applied, found_there, name_found, other_tasks_stay, stands_at_its_place}
use Rattle.vt_laws_trees.specs.Calls.Tasks.{Pivots}
use Rattle.vt_laws_worlds.proofs.kept.MountsKeptAttaching.{own_there}
use Rattle.vt_laws_turns.specs.Frames.Unraised.{IsCallIn, OtherTasksOfUnraisedNamespacesStay}
use Rattle.vt_laws_turns.proofs.frames.frames.Unraised.{unraised_namespaces_keep_mounts}

-- where one stands something stands
nothing_stands : (mounts : List (Mount ℕ)) (place : Location ℕ) (mount : Mount ℕ) → Among mount mounts
    → stands_at nat_eq place mount ≡ true → child_at nat_eq mounts place ≡ None → ⊥
nothing_stands [] place mount m stands none = m
nothing_stands (first ∷ rest) place mount m stands none =
    by (stands_at nat_eq place first) refl none (λ later h. nothing_stands rest place mount later stands h)
  where
    by : (b : Bool) → stands_at nat_eq place first ≡ b → cond b (Some first) (child_at nat_eq rest place) ≡ None
        → (Among mount rest → child_at nat_eq rest place ≡ None → ⊥) → ⊥
    by true e h later = none_is_some first (sym h)
    by false e h later = ⊎_elim (λ same. cc)
        (λ n. later n h) m

module _ {world : World ℕ} {fresh : Fresh ℕ} (given : IsCallIn world fresh) (name : TaskName) {caller : Task ℕ}
    (new old : List ℕ) {mount : ℕ} {put : Location ℕ} (found : task_called world name ≡ Some caller)
    (judged : judge_in nat_eq fresh world caller (PivotRoot new old) ≡ Ok (ToPivot mount put)) where
  abbrev call : Call
  call = PivotRoot new old

  abbrev root_mount : Mount ℕ
  root_mount = mount_at nat_eq world caller.root

  abbrev new_mount : Mount ℕ
  new_mount = mount_numbered nat_eq world mount

  called : task_called world caller.name ≡ Some caller
  called = cc (name_found world name caller found)

  may : MayPivot world caller mount put
  may = (all_permits_fit world fresh caller call (ToPivot mount put) given.is given.serves called refl judged).names

  abbrev changed : List ℕ
  changed = filesystems_changed_by nat_eq world (judge_in nat_eq fresh world caller call)

  abbrev left : World ℕ
  left = pivoted nat_eq world caller.namespace root_mount new_mount put

  leaves : (policy nat_eq fresh world name call).world ≡ numbers_raised nat_eq world name changed (settled nat_eq left)
  leaves = grind (arith, common_steps, call_is_judged_then_applied)

  abbrev moved : Mount ℕ
  moved = pivoted_mount nat_eq root_mount new_mount put root_mount

  number_is : root_mount.number ≡ caller.root.mount
  number_is = number-mount_in world.mounts caller.root.mount

  -- the old root mount goes under the new one
  moved_is : moved ≡ record root_mount { mount_point = Some put }
  moved_is = grind (arith, common_steps, nat_eq_itself, number-mount_in, eqb-true, number_is, true≢false, eq-eqb, may)

  in_namespace : (m : Mount ℕ) → m ≡ record root_mount { mount_point = Some put } → m.namespace ≡ Some caller.namespace
  in_namespace m e = cc (may.own_root)

  among_later : Among moved (mounts_of nat_eq (settled nat_eq left) caller.namespace)
  among_later = among-filter _ _ moved (among-filter _ _ moved (among-map _ world.mounts root_mount
      (found_there _ _ (own_there world caller _ may.own_root))) (ap (λ o. is_some o || is_located nat_eq left
      moved.number) (in_namespace moved moved_is))) (cc (in_namespace moved moved_is, nat_eq_itself caller.namespace))

  -- so the namespace has not the mounts that it had
  pub pivots_raise : mounts_of nat_eq (policy nat_eq fresh world name call).world caller.namespace
      ≡ mounts_of nat_eq world caller.namespace → ⊥
  pivots_raise same =
      let here : mounts_of nat_eq (settled nat_eq left) caller.namespace ≡ mounts_of nat_eq world caller.namespace =
      cc (leaves, same) in
      let was : Among moved world.mounts =
      (among-from_filter (λ (m : Mount ℕ). holds_of (nat_eq caller.namespace) m.namespace) world.mounts moved
      (subst (Among moved) here among_later)).0 in
      nothing_stands world.mounts put moved was
      (stands_at_its_place put moved (ap (λ (m : Mount ℕ). m.mount_point) moved_is)) may.destination.free

pub other_tasks_of_unraised_namespaces_stay : OtherTasksOfUnraisedNamespacesStay
other_tasks_of_unraised_namespaces_stay world fresh name call other task given apart is unraised = ⊎_elim (λ same. same)
    (λ pivot. absurd (pivoting pivot.0 pivot.1)) (other_tasks_stay fresh world name call other task apart is)
  where
    pivoting : (goes : Location ℕ → Location ℕ) → Pivots fresh world name call task.namespace goes → ⊥
    pivoting goes known = search (arith, common_steps, pivots_raise, unraised_namespaces_keep_mounts)
