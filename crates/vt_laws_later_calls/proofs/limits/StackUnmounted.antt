-- The topmost mount of a stack, unmounted: the stack is as it was before that mount.
use Rattle.std.proofs.Common.{◌≡◌, refl, sym, ap, subst, ◌∙◌, ℕ, suc, nat_eq, eq-eqb, false, not, ◌||◌, ◌<◌, List, [], ◌∷◌, Option, Some, Ok, is_some, map, map-id, arith}
use Rattle.vt_spec.proofs.Common.{Done, Filesystem, Fresh, Here, Judgement, Location, Mount, MountFlags, Namespace, Permit, Serves, Task, TaskName, ToUnmount, Umount, World, all_locations, and_then, common_steps, granted, holds_of, is_busy, judge_in, judging, locations_of, looks_of, most_mounts, mount_at, mount_numbered, numbers_raised, policy, raised_task, settled, umount_rules, unless, unmounted, walk_end}
use Rattle.vt_laws_later_calls.proofs.Common.{AllInUse, K1, M10, M2, M7, M8, all_in_use, counted, directory_walk, flat_map-map, in_use_later}
use Rattle.vt_laws_later_calls.proofs.limits.AddedMount.{added_mount}
use Rattle.vt_laws_later_calls.proofs.limits.PathWalks.{HasOneWord, directory_is_walked, end_of_one, one_word_leads}
use Rattle.vt_laws_later_calls.proofs.limits.Outcomes.{policy_by_judgement}
use Rattle.vt_laws_later_calls.proofs.limits.StackGrows.{grown_stack, grown_top, raised_task_is, stacked_world, stacked_world_is}
use Rattle.vt_laws_later_calls.proofs.limits.StackedMounts.{IsStack}
use Rattle.vt_laws_later_calls.proofs.limits.UnmountedAgain.{new_is_found, none_on_new, none_uses_new, unmount_gives_back, with_new}

module _ {world : World ℕ} {name : TaskName} {path word : List ℕ} (one : HasOneWord path word) {count : ℕ}
    (stack : IsStack world name word count) {fresh : Fresh ℕ} (flags : MountFlags)
    (serves : Serves nat_eq world fresh) (room : count < most_mounts) where
  abbrev new : Mount ℕ
  new = added_mount fresh world stack.top flags

  -- the world with one mount more, and the stack in it
  abbrev stacked : World ℕ
  stacked = stacked_world one stack fresh flags serves room

  -- its stack
  abbrev grown : IsStack (stacked_world one stack fresh flags serves room) name word (suc count)
  grown = grown_stack one stack fresh flags serves room

  -- tasks use the locations that they used
  same_locations : all_locations (record world { tasks = stacked.tasks }) ≡ all_locations world
  same_locations = flat_map-map (raised_task name) locations_of world.tasks (λ task. grind (arith, common_steps))

  -- the world before, with the tasks and namespaces of now
  abbrev pub world_given_back : World ℕ
  world_given_back = record world {
    tasks = stacked.tasks;
    namespaces = stacked.namespaces;
    change = stacked.change;
  }

  -- change numbers of tasks let nothing go
  given_back_in_use : AllInUse world_given_back
  given_back_in_use = subst AllInUse (λ i. record world_given_back {
    filesystems = map-id world.filesystems i;
    tasks = map (λ (task : Task ℕ). sym (raised_task_is name task).1 i) world.tasks;
  }) (record {
    mounts = counted_in_use.mounts;
    filesystems = counted_in_use.filesystems;
    inodes = counted_in_use.inodes;
    groups = counted_in_use.groups;
  })
    where
      counted_in_use : AllInUse (counted (λ (filesystem : Filesystem ℕ). filesystem.change)
          (λ (namespace : Namespace ℕ). namespace.change) (λ (task : Task ℕ). (raised_task_is name task).0) world.change
          world)
      counted_in_use = in_use_later (λ (filesystem : Filesystem ℕ). filesystem.change)
          (λ (namespace : Namespace ℕ). namespace.change) (λ (task : Task ℕ). (raised_task_is name task).0) world.change
          world (all_in_use world stack.is)

  -- the world with the new mount, by its parts
  abbrev with_mount : World ℕ
  with_mount = with_new stack.top flags stack.is stack.plain serves stack.private (ap is_some stack.inside)
      stacked.tasks stacked.namespaces stacked.change same_locations given_back_in_use new

  -- The unmount is granted
  abbrev permit : Permit ℕ
  permit = ToUnmount new.number

  -- the mount is found by its number
  top_is_in : (one : World ℕ) → one ≡ with_mount → mount_numbered nat_eq one new.number ≡ new
  top_is_in one same = cc (new_is_found stack.top flags stack.is stack.plain serves stack.private (cc stack.inside)
      stacked.tasks stacked.namespaces stacked.change same_locations given_back_in_use)

  -- nothing stands on it, and no task uses it
  not_busy : (one : World ℕ) → one ≡ with_mount → is_busy nat_eq one new.number ≡ false
  not_busy one same =
      ap (λ (w : World ℕ). is_busy nat_eq w new.number) same ∙ (λ i. none_on_new stack.top flags stack.is stack.plain
      serves stack.private (cc stack.inside) stacked.tasks stacked.namespaces stacked.change same_locations
      given_back_in_use i || none_uses_new stack.top flags stack.is stack.plain serves stack.private (cc stack.inside)
      stacked.tasks stacked.namespaces stacked.change same_locations given_back_in_use i)

  -- no rule refuses the unmount
  judged_unmount : judge_in nat_eq fresh stacked grown.task (Umount path) ≡ Ok permit
  unfolding judging
  judged_unmount =
      ap (λ b. unless ((b, K1) ∷ []) (and_then (walk_end (directory_walk nat_eq stacked grown.task path)) judged_at))
      grown.admin ∙ ap (λ walk. and_then (walk_end walk) judged_at) (directory_is_walked grown.task path
      (end_of_one stacked grown.task one grown.way) (one_word_leads stacked grown.task one grown.way) grown.destination)
      ∙ ap (λ namespace. judged_by namespace grown.top) grown.inside ∙ ap (judged_by (Some grown.task.namespace))
      (grown_top one stack fresh flags serves room)
      ∙ (λ i. unless ((not (eq-eqb grown.task.namespace grown.task.namespace refl i), M2)
      ∷ (not (nat_eq new.root (top_is_in stacked stacked_is i).root), M7) ∷ (not_busy stacked stacked_is i, M8)
      ∷ (not (is_some (top_is_in stacked stacked_is i).mount_point), M10) ∷ []) (Ok permit))
      ∙ ap (λ b. unless ((false, M2) ∷ (not b, M7) ∷ (false, M8) ∷ (false, M10) ∷ []) (Ok permit))
      (eq-eqb new.root new.root refl)
    where
      judged_at : Here ℕ → Judgement ℕ
      judged_at here = unless (umount_rules nat_eq (looks_of nat_eq stacked) grown.task here.location)
          (Ok (ToUnmount here.location.mount))

      judged_by : Option ℕ → Location ℕ → Judgement ℕ
      judged_by namespace top = unless ((not (holds_of (nat_eq grown.task.namespace) namespace), M2)
          ∷ (not (nat_eq top.node (mount_at nat_eq stacked top).root), M7) ∷ (is_busy nat_eq stacked top.mount, M8)
          ∷ (not (is_some (mount_at nat_eq stacked top).mount_point), M10) ∷ []) (Ok (ToUnmount top.mount))

      stacked_is : stacked ≡ with_mount
      stacked_is = stacked_world_is one stack fresh flags serves room

  -- the world after the unmount
  abbrev pub unmounted_world : World ℕ
  unmounted_world = numbers_raised nat_eq stacked name [] world_given_back

  -- the call is granted, and leaves the world before the mount, but for tasks and change numbers
  pub top_is_unmounted : (handed : Fresh ℕ)
      → policy nat_eq handed stacked name (Umount path) ≡ granted Done unmounted_world
  unfolding judging
  top_is_unmounted handed =
      policy_by_judgement stacked handed name (Umount path) grown.called (Ok permit) judged_unmount
      ∙ ap (λ (w : World ℕ). granted Done (numbers_raised nat_eq stacked name [] (settled nat_eq
      (unmounted nat_eq w new.number)))) (stacked_world_is one stack fresh flags serves room)
      ∙ ap (λ left. granted Done (numbers_raised nat_eq stacked name [] left))
      (unmount_gives_back stack.top flags stack.is stack.plain serves stack.private
      (ap is_some stack.inside) stacked.tasks stacked.namespaces stacked.change same_locations given_back_in_use)
