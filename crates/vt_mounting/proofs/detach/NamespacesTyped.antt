-- The end of a namespace whose mounts are in peer groups: exit(2), setns(2), unshare(2). Its mounts leave their groups
-- at once, and the others get the types that the groups then tell.
use Rattle.std.proofs.Common.{◌≡◌, refl, sym, ap, subst, ◌∙◌, ℕ, nat_eq, Bool, false, cond, List, map, filter, Some, is_some, arith}
use Rattle.vt_spec.proofs.Common.{Location, Mount, MountInvariants, Namespace, Private, World, common_steps, detached, mount_at, regrouped, taken_away, with_mounts}
use Rattle.vt_mounting.proofs.Common.{Among, Grouping, Has, TakesAway, Tasks, among-from_map, among_from_list_all, map_same, regrouped_living}
use Rattle.vt_mounting.proofs.detach.Grouped.{same_has}
use Rattle.vt_mounting.proofs.detach.Midway.{gone_if}
use Rattle.vt_mounting.proofs.detach.NamespacesEnded.{taken_regrouped}

-- Groups are lost by mounts and masters alone
pub regrouped_beside : (world : World ℕ) (namespaces : List (Namespace ℕ)) (tasks : Tasks)
    → regrouped nat_eq (record world { namespaces = namespaces; tasks = tasks })
    ≡ record (regrouped nat_eq world) { namespaces = namespaces; tasks = tasks }
regrouped_beside world namespaces tasks = grind (arith, common_steps)

-- Mounts of a world are detached, and then the groups without members end
-- Some mounts of a world can go: none that stays is on one of them.
pub record CanGo (world : World ℕ) (goes : Mount ℕ → Bool) : Type 0 where
  pub invariants : MountInvariants nat_eq world
  pub stays : (mount : Mount ℕ) → Among mount world.mounts → goes mount ≡ false → (place : Location ℕ)
      → mount.mount_point ≡ Some place → goes (mount_at nat_eq world place) ≡ false

module _ {world : World ℕ} {goes : Mount ℕ → Bool} (can_go : CanGo world goes) (tasks : Tasks)
    (namespaces : List (Namespace ℕ)) where
  open can_go use {invariants, stays}

  -- the world with these mounts detached, and no group ended yet
  abbrev pub left_world : World ℕ
  left_world = record (with_mounts world (map (gone_if goes) world.mounts)) { namespaces = namespaces; tasks = tasks }

  abbrev pub gone_numbers : List ℕ
  gone_numbers = map (λ (mount : Mount ℕ). mount.number) (filter goes world.mounts)

  pub taken_is_left : record (taken_away nat_eq
      (record world { tasks = tasks }) gone_numbers) { namespaces = namespaces } ≡ regrouped nat_eq left_world
  taken_is_left = ap (λ (one : World ℕ). record one { namespaces = namespaces })
      (taken_regrouped (record world { tasks = tasks }) invariants.one_number goes stays)
      ∙ ap (λ (one : World ℕ). record one { namespaces = namespaces })
      (regrouped_beside (with_mounts world (map (gone_if goes) world.mounts)) world.namespaces tasks)
      ∙ sym (regrouped_beside (with_mounts world (map (gone_if goes) world.mounts)) namespaces tasks)

  -- the groups are those of that world, once it is regrouped
  pub left_has_groups : {before : Grouping} (groups : Grouping) → Has world before
      → TakesAway before groups gone_numbers
      → Has (regrouped nat_eq left_world) groups
  left_has_groups groups has follows = subst (λ one. Has one groups) (sym
      (regrouped_beside (with_mounts world (map (gone_if goes) world.mounts)) namespaces tasks))
      (same_has (record (regrouped nat_eq (with_mounts world
      (map (gone_if goes) world.mounts))) { namespaces = namespaces; tasks = tasks })
      (subst (λ one. Has one groups) (taken_regrouped world invariants.one_number goes stays)
      (follows world has invariants.groups)) refl (λ group. refl))

  -- where none is detached, no group ends
  pub left_has_same : ((mount : Mount ℕ) → goes mount ≡ false) → {groups : Grouping} → Has world groups
      → Has (regrouped nat_eq left_world) groups
  left_has_same none {groups} has =
      subst (λ one. Has one groups) (sym none_end) (same_has left_world has same_mounts (λ group. refl))
    where
      same_mounts : map (gone_if goes) world.mounts ≡ world.mounts
      same_mounts = map_same (gone_if goes) world.mounts (λ mount m.
          ap (λ b. cond b (detached mount) mount) (none mount))

      none_end : regrouped nat_eq left_world ≡ left_world
      none_end = cc (same_mounts, regrouped_beside world namespaces tasks, regrouped_living world invariants.groups)

  -- a mount that is in no namespace is private
  pub nowhere_private : (mount : Mount ℕ) → Among mount left_world.mounts → is_some mount.namespace ≡ false
      → mount.propagation ≡ Private
  nowhere_private mount m none = grind (arith, common_steps, among_from_list_all, among-from_map)
