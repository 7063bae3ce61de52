-- Mounts stacked on a place: each new mount comes onto the topmost one, while its namespace has room.
use Rattle.std.proofs.Common.{◌≡◌, refl, ap, ◌∙◌, ℕ, suc, nat_eq, nat_lt, eq-eqb, true, false, not, ◌≤◌, ◌&&◌, List, [], ◌∷◌, ◌++◌, Some, Ok, length, arith}
use Rattle.vt_spec.proofs.Common.{Fresh, Here, IsWorld, Judgement, Location, Mount, MountFlags, MountPlain, Permit, Private, Task, TaskName, ToMountPlain, World, among_from_list_all, and_then, apply, cap_sys_admin, common_steps, found_among, holds_of, is_listed, judge_in, judging, lacks, list_all, looks_of, most_mounts, mount_at, mounts_of, new_mount_rules, overfills, task_called, unless, walk_end, with_mounts}
use Rattle.vt_laws_later_calls.proofs.Common.{IsPlain, K1, M2, M9, added_mounts_count, added_mounts_count_in_no_other, destination_walk, too_many_is_of_one}
use Rattle.vt_laws_later_calls.proofs.limits.AddedMount.{added_mount, mounts-new_mount}
use Rattle.vt_laws_later_calls.proofs.limits.PathWalks.{HasOneWord, IsDestination, WordLeads, destination_is_walked, end_of_one, one_word_leads}

-- Mounts are stacked where the word leads from the task's root: the topmost one is private and in the task's namespace,
-- which has so many mounts.
pub record IsStack (world : World ℕ) (name : TaskName) (word : List ℕ) (count : ℕ) : Type 0 where
  pub is : IsWorld nat_eq world
  pub plain : IsPlain world
  pub task : Task ℕ
  pub called : task_called world name ≡ Some task
  pub admin : lacks task cap_sys_admin ≡ false
  pub object : ℕ
  pub top : Location ℕ
  pub way : WordLeads world task task.root word object top
  pub destination : IsDestination world top
  pub private : (mount_at nat_eq world top).propagation ≡ Private
  pub inside : (mount_at nat_eq world top).namespace ≡ Some task.namespace
  pub counted : length (mounts_of nat_eq world task.namespace) ≡ count

module _ {world : World ℕ} {name : TaskName} {path word : List ℕ} (one : HasOneWord path word) {count : ℕ}
    (stack : IsStack world name word count) (fresh : Fresh ℕ) (flags : MountFlags) where
  abbrev task : Task ℕ
  task = stack.task

  -- the topmost mount's root
  abbrev top : Location ℕ
  top = stack.top

  -- what the call is permitted
  abbrev permit : Permit ℕ
  permit = ToMountPlain stack.top flags

  -- the world with the new mount, before change numbers are raised
  abbrev pub mounted_world : World ℕ
  mounted_world = (apply nat_eq fresh world stack.task (ToMountPlain stack.top flags)).world

  -- the new mount
  abbrev new : Mount ℕ
  new = added_mount fresh world stack.top flags

  -- it comes last
  pub mounts_after : mounted_world.mounts ≡ world.mounts ++ (new ∷ [])
  mounts_after = mounts-new_mount fresh world stack.top flags stack.private stack.task

  -- Counts
  new_is_inside : list_all (λ (mount : Mount ℕ). holds_of (nat_eq stack.task.namespace) mount.namespace) (new ∷ [])
      ≡ true
  new_is_inside = ap (λ namespace. holds_of (nat_eq stack.task.namespace) namespace && true) stack.inside
      ∙ ap (λ b. b && true) (eq-eqb stack.task.namespace stack.task.namespace refl)

  -- its namespace has one mount more
  pub one_more_mount : length (mounts_of nat_eq mounted_world stack.task.namespace) ≡ suc count
  one_more_mount = ap (λ mounts. length (mounts_of nat_eq (with_mounts world mounts) stack.task.namespace)) mounts_after
      ∙ added_mounts_count world (new ∷ []) stack.task.namespace new_is_inside
      ∙ (let same = stack.counted in omega (arith, same))

  -- and no other one has
  as_many_elsewhere : (other : ℕ) → nat_eq other stack.task.namespace ≡ false
      → length (mounts_of nat_eq mounted_world other) ≤ length (mounts_of nat_eq world other)
  as_many_elsewhere other differs =
      grind (arith, common_steps, mounts_after, added_mounts_count_in_no_other, new_is_inside)

  -- the namespace of the task is there
  namespace_is_listed : is_listed nat_eq world stack.task.namespace ≡ true
  namespace_is_listed = among_from_list_all (λ (one : Task ℕ). is_listed nat_eq world one.namespace) world.tasks
      stack.is.namespaces.tasks_listed stack.task (found_among _ world.tasks stack.task stack.called)

  -- M9 fails where the namespace has as many mounts as it may have
  pub overfills_when_full : overfills nat_eq fresh world stack.task permit ≡ nat_lt most_mounts (suc count)
  overfills_when_full = too_many_is_of_one world mounted_world stack.task.namespace stack.is.namespaces.few_mounts refl
      namespace_is_listed as_many_elsewhere ∙ ap (nat_lt most_mounts) one_more_mount

  -- the judgement
  pub judged_by_room : judge_in nat_eq fresh world stack.task (MountPlain path flags)
      ≡ unless ((nat_lt most_mounts (suc count), M9) ∷ []) (Ok permit)
  unfolding judging
  judged_by_room =
      ap (λ b. unless ((b, K1) ∷ []) (and_then (walk_end (destination_walk nat_eq world stack.task path)) judged_at))
      stack.admin ∙ ap (λ walk. and_then (walk_end walk) judged_at) (destination_is_walked stack.task path
      (end_of_one world stack.task one stack.way) (one_word_leads world stack.task one stack.way) stack.destination)
      ∙ ap (λ namespace. unless ((not (holds_of (nat_eq stack.task.namespace) namespace), M2)
      ∷ (overfills nat_eq fresh world stack.task permit, M9) ∷ []) (Ok permit)) stack.inside
      ∙ (λ i. unless ((not (eq-eqb stack.task.namespace stack.task.namespace refl i), M2)
      ∷ (overfills_when_full i, M9) ∷ []) (Ok permit))
    where
      judged_at : Here ℕ → Judgement ℕ
      judged_at here = unless (new_mount_rules nat_eq (looks_of nat_eq world) stack.task here.location
          (overfills nat_eq fresh world stack.task (ToMountPlain here.location flags))) (Ok (ToMountPlain here.location flags))
