-- A granted rmdir, or rename, takes away mounts of other namespaces alone, so the mount that it goes through stays.
use Rattle.std.proofs.Common.{arith, ◌≡◌, refl, sym, subst, ⊎_elim, true≢false, ℕ, nat_eq, true, false, Ok, Option, Some, None, flat_map, is_some, length, option_to_list}
use Rattle.vt_spec.proofs.Common.{Among, Call, Fresh, IsWorld, Location, Looks, Mount, Permit, Stands, Task, ToRemoveDirectory, ToRename, World, among-from_filter, among-from_flat_map, among-from_map, among_from_all, among_from_list_all, among_numbers, any_among, common_steps, false_from_ne_true, holds_of, is_among, is_mount_point_in, is_point, judge_in, list_all, list_any, looks_of, mount_numbered, mount_tree, mounts_on, name_of, none_among, object_there, or_parts, overfills, points_of, task_called, tree_among, ⊤}
use Rattle.vt_laws_mounts.specs.LettingGo.Unmounting.{numbers_of_trees}
use Rattle.vt_laws_mounts.proofs.letting_go.leaving.PlacesLeft.{nowhere_parts}
use Rattle.vt_laws_mounts.proofs.mounts.MountsReplaced.{found_itself}
use Rattle.vt_laws_worlds.specs.OverlaysLetGo.OverlayCalls.{RemovingKeepsTheMount, ReplacingKeepsTheMount}
use Rattle.vt_laws_worlds.specs.Worlds.Permits.{IsReached}
use Rattle.vt_laws_worlds.proofs.worlds.Reached.{is_reached}
use Rattle.vt_laws_worlds.proofs.worlds.ReachedPlaces.{IsOldPlace, old_leaf_walk_found, old_walk_found}
use Rattle.vt_laws_worlds.proofs.worlds.SeenMounts.{tree_namespace}
use Rattle.vt_laws_rules.proofs.given.Ways.{calls_are_granted}
use Rattle.vt_laws_rules.proofs.given.Ways.{IsGranted}
use Rattle.vt_laws_rules.proofs.given.Ways.IsGranted.{removes_directory, renames}
use Rattle.vt_laws_trees.proofs.trees.TreesWalked.{at_end}

-- P1: no mount of the task's namespace stands on the directory
abbrev IsFreeFor : World ℕ → Task ℕ → Location ℕ → Type 0
IsFreeFor world task directory = is_mount_point_in nat_eq (looks_of nat_eq world) task.namespace directory ≡ false

module _ (world : World ℕ) (whole : IsWorld nat_eq world) where
  -- what stands there has a mount point, so it is in a namespace
  has_point : (filesystem node : ℕ) (mount : Mount ℕ) → is_point nat_eq world filesystem node mount ≡ true
      → is_some mount.mount_point ≡ true
  has_point filesystem node mount e = grind (arith, common_steps, true≢false)

  -- what stands on the directory, with all below it, is in other namespaces
  others_go : (task : Task ℕ) (directory : Location ℕ) → IsFreeFor world task directory → (number : ℕ)
      → is_among nat_eq number (numbers_of_trees world (mounts_on nat_eq world directory)) ≡ true
      → list_all (nat_eq task.namespace) (option_to_list (mount_numbered nat_eq world number).namespace) ≡ false
  others_go task directory free number goes =
      let tops = mounts_on nat_eq world directory in
      let trees = flat_map (mount_tree nat_eq world.mounts) tops in
      let gone = among-from_map _ trees number (among_numbers _ number goes) in
      let tree = among-from_flat_map _ tops gone.0 gone.1 in
      let top = among-from_filter (λ (mount : Mount ℕ). list_any (λ point. is_point nat_eq world point.0 point.1 mount)
      (points_of nat_eq world directory)) world.mounts tree.0 tree.1 in
      let there : Among gone.0 world.mounts = ⊎_elim (λ e. subst (λ m. Among m world.mounts) (sym e) top.0) (λ m. m)
      (tree_among (length world.mounts) world.mounts tree.0 gone.0 tree.2) in
      let same : (mount_numbered nat_eq world number).namespace ≡ tree.0.namespace = cc (
        found_itself world.mounts whole.mounts.one_number gone.0 there,
        tree_namespace world whole.mounts.one_number
            (λ m n. among_from_all (λ (x : Mount ℕ). Stands nat_eq world x.number) world.mounts
            whole.mounts.standing m n)
            (length world.mounts) tree.0 (found_itself world.mounts whole.mounts.one_number tree.0 top.0) gone.0 tree.2,
      ) in
      let point = any_among (λ (point : ℕ × ℕ). is_point nat_eq world point.0 point.1 tree.0)
      (points_of nat_eq world directory) top.1 in
      cc (by tree.0 top.0 (has_point point.0.0 point.0.1 tree.0 point.2) tree.0.namespace refl
      (none_among (λ (m : Mount ℕ). holds_of (nat_eq task.namespace) m.namespace) tops free tree.0 tree.1))
    where
      by : (mount : Mount ℕ) → Among mount world.mounts → is_some mount.mount_point ≡ true → (o : Option ℕ)
          → mount.namespace ≡ o → holds_of (nat_eq task.namespace) mount.namespace ≡ false
          → list_all (nat_eq task.namespace) (option_to_list mount.namespace) ≡ false
      by mount m placed o e free = grind (arith, common_steps, true≢false, nowhere_parts, among_from_list_all)

  -- what a task reaches is on none of these
  pub reached_stays : (task : Task ℕ) (directory location : Location ℕ) → IsFreeFor world task directory
      → IsReached world task location
      → is_among nat_eq location.mount (numbers_of_trees world (mounts_on nat_eq world directory)) ≡ false
  reached_stays task directory location free reached =
      false_from_ne_true _ (λ goes. true≢false (cc (others_go task directory free location.mount goes)))

-- What a call of a task goes through is reached, and no mount of the task's namespace stands on what it removes
module _ (fresh : Fresh ℕ) (world : World ℕ) (whole : IsWorld nat_eq world) (task : Task ℕ)
    (called : task_called world task.name ≡ Some task) where
  abbrev looks : Looks ℕ
  looks = looks_of nat_eq world

  abbrev Removes : Permit ℕ → Type 0
  Removes (ToRemoveDirectory parent name directory) = IsReached world task parent × IsFreeFor world task directory
  Removes (ToRename from old to new object None) = ⊤
  Removes (ToRename from old to new object (Some replaced)) = IsReached world task from × IsFreeFor world task replaced
  Removes permit = ⊤

  granted_removes : (call : Call) (permit : Permit ℕ)
      → IsGranted nat_eq looks (overfills nat_eq fresh world task) task call permit → Removes permit
  granted_removes call permit (removes_directory path place end word passed) =
      let is = at_end _ _ place (old_walk_found world whole task called path) end in
      (is_reached world whole task _ is.0.0, passed.1.1.1.1.1.0)
  granted_removes call permit (renames old new from to names two passed) =
      by _ ((or_parts _ _ passed.1.1.1.1.1.1.1.0).1)
    where
      is : IsOldPlace world whole task called from
      is = at_end _ _ from (old_leaf_walk_found world whole task called old) names.from_end

      by : (o : Option (Location ℕ)) → holds_of (is_mount_point_in nat_eq looks task.namespace) o ≡ false
          → Removes (ToRename from.parent (name_of from.last) to.parent (name_of to.last) (object_there from) o)
      by None free = tt
      by (Some replaced) free = (is_reached world whole task _ is.0.0, free)
  granted_removes call permit granted = tt

  pub removal_reached : (call : Call) (permit : Permit ℕ) → judge_in nat_eq fresh world task call ≡ Ok permit
      → Removes permit
  removal_reached call permit e = granted_removes call permit (calls_are_granted nat_eq looks _ task call permit e)

-- so the mount that it goes through stays
pub removing_keeps_the_mount : RemovingKeepsTheMount
removing_keeps_the_mount fresh world task call parent name directory whole called e =
    let is = removal_reached fresh world whole task called call _ e in
    reached_stays world whole task _ parent is.1 is.0

pub replacing_keeps_the_mount : ReplacingKeepsTheMount
replacing_keeps_the_mount fresh world task call from old to new object replaced whole called e =
    let is = removal_reached fresh world whole task called call _ e in
    reached_stays world whole task _ from is.1 is.0
