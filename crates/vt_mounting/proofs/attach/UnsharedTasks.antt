-- A task gets copies of its namespace's mounts: where its root and its working directory are then, and what the copies
-- stand on.
use Rattle.std.proofs.Common.{◌≡◌, refl, sym, ap, subst, ◌∙◌, ◌⊎◌, ⊎_elim, inl, inr, ℕ, nat_eq, eqb-true, Bool, true, false, true≢false, cond, ◌&&◌, List, [], ◌∷◌, ◌++◌, map, flat_map, Option, Some, None, option_map, is_some, arith}
use Rattle.vt_spec.proofs.Common.{Fresh, Location, Mount, Namespace, Serves, Task, TaskName, World, all_locations, and_parts, copied_mount, evens, holds_of, is_among, is_copied, is_listed, is_located_well, location_on_copy, locations_of, map-append, mount_at, mount_in, mount_numbered, mounts_of, moved_location, numbers_by, numbers_in_use, odds, same_Some, task_called, unshared_task, used_by_filesystem, used_by_mount}
use Rattle.vt_spec.proofs.Lists as spec
use Rattle.vt_mounting.proofs.Common.{Among, IsHeld, OneNumberAMount, Tasks, WorldValue, among-append_left, among-append_right, among-filter, among-from_filter, among-from_map, among-map, among_from_list_all, among_numbers, any_among, found_itself, inode_at, is_among_left, is_among_numbers, locations_in, replaced, world_of, writes_of_task}
use Rattle.vt_laws_mounts.proofs.mounts.MountsNumbered.{unshare_keeps_numbers}
use Rattle.vt_laws_mounts.proofs.namespaces.Unsharing.{parent_of}
use Rattle.vt_laws_worlds.proofs.worlds.Roots.{found_copy}
use Rattle.vt_mounting.proofs.attach.AddedBegins.{IsAdded, with_added}
use Rattle.vt_mounting.proofs.detach.Splits.{IsSplit, locations_around, replaced_split, writes_replaced}

-- the same words of two libraries

pub to_spec : {A : Type 0} (xs : List A) (x : A) → Among x xs → spec.Among x xs
to_spec [] x m = m
to_spec (y ∷ ys) x m = ⊎_elim (λ same. inl same) (λ later. inr (to_spec ys x later)) m

pub from_spec : {A : Type 0} (xs : List A) (x : A) → spec.Among x xs → Among x xs
from_spec [] x m = m
from_spec (y ∷ ys) x m = ⊎_elim (λ same. inl same) (λ later. inr (from_spec ys x later)) m

-- A task of the world is to get a namespace of its own, with numbers that serve.
pub record Unsharing (value : WorldValue) (name : TaskName) (task : Task ℕ) (fresh : Fresh ℕ) : Type 0 where
  pub whole : IsHeld value
  pub found : task_called (world_of value) name ≡ Some task
  pub serves : Serves nat_eq (world_of value) fresh

module _ {value : WorldValue} {name : TaskName} {task : Task ℕ} {fresh : Fresh ℕ}
    (it : Unsharing value name task fresh) where
  open it use {whole, found, serves}

  abbrev world : World ℕ
  world = world_of value

  abbrev pub copied : List (Mount ℕ)
  copied = mounts_of nat_eq world task.namespace

  abbrev pub copy : ℕ → ℕ
  copy = numbers_by nat_eq (odds fresh) copied

  abbrev pub new_namespace : ℕ
  new_namespace = evens fresh 0

  abbrev pub added : List (Mount ℕ)
  added = map (copied_mount copy new_namespace) copied

  abbrev pub moved_task : Task ℕ
  moved_task = unshared_task nat_eq copied copy new_namespace task

  abbrev pub tasks_moved : Tasks
  tasks_moved = replaced moved_task value.tasks

  abbrev base : World ℕ
  base = with_added value added tasks_moved

  abbrev pub come_to : List (Location ℕ)
  come_to = moved_task.root ∷ moved_task.directory ∷ []

  abbrev pub gone_from : List (Location ℕ)
  gone_from = task.root ∷ task.directory ∷ []

  abbrev split : IsSplit task moved_task value.tasks tasks_moved
  split = replaced_split name value.tasks task moved_task whole.in_world.tasks.one_task found refl

  pub one_number : OneNumberAMount base.mounts
  one_number = unshare_keeps_numbers world fresh task serves whole.in_world.mounts.one_number

  in_copied : (mount : Mount ℕ) → Among mount copied
      → Among mount world.mounts × (holds_of (nat_eq task.namespace) mount.namespace ≡ true)
  in_copied mount m = among-from_filter
      (λ (x : Mount ℕ). holds_of (nat_eq task.namespace) x.namespace) world.mounts mount m

  is_own : (o : Option ℕ) → holds_of (nat_eq task.namespace) o ≡ true → is_some o ≡ true
  is_own None e = absurd (true≢false (sym e))
  is_own (Some n) e = refl

  pub copy_is : (mount : Mount ℕ) → Among mount copied
      → mount_numbered nat_eq base (copy mount.number) ≡ copied_mount copy new_namespace mount
  copy_is mount m = found_copy world fresh task whole.in_world serves mount (to_spec copied mount m)

  old_is : (mount : Mount ℕ) → Among mount world.mounts → mount_numbered nat_eq base mount.number ≡ mount
  old_is mount m = found_itself base.mounts one_number mount (among-append_left world.mounts added mount m)

  -- where a location goes

  pub record GoesTo (location moved : Location ℕ) : Type 0 where
    pub inode : inode_at base moved ≡ inode_at base location
    pub there : is_among nat_eq moved.mount (map (λ mount. mount.number) base.mounts) ≡ true
    pub left : (is_some (mount_at nat_eq world location).namespace ≡ true) ⊎ (location ≡ moved)

  goes_to : (location : Location ℕ) → is_among nat_eq location.mount (map (λ mount. mount.number) world.mounts) ≡ true
      → GoesTo location (moved_location nat_eq copied copy location)
  goes_to location standing = by (is_copied nat_eq copied location) refl
    where
      by : (b : Bool) → is_copied nat_eq copied location ≡ b
          → GoesTo location (cond b (location_on_copy copy location) location)
      by false e = record {
        inode = refl;
        there = ap (is_among nat_eq location.mount) (map-append (λ (x : Mount ℕ). x.number) world.mounts added)
            ∙ is_among_left location.mount (map (λ (x : Mount ℕ). x.number) world.mounts)
            (map (λ (x : Mount ℕ). x.number) added) standing;
        left = inr refl;
      }
      by true e =
          let one = any_among (λ (x : Mount ℕ). nat_eq location.mount x.number) copied e in
          let same : location.mount ≡ one.0.number = eqb-true location.mount one.0.number one.2 in
          let was = in_copied one.0 one.1 in
          let old : mount_numbered nat_eq base location.mount ≡ one.0 = ap (mount_numbered nat_eq base) same
          ∙ old_is one.0 was.0 in
          let new : mount_numbered nat_eq base (copy location.mount) ≡ copied_mount copy new_namespace one.0 =
          ap (λ n. mount_numbered nat_eq base (copy n)) same ∙ copy_is one.0 one.1 in
          record {
            inode = λ i. (
              (ap (λ (x : Mount ℕ). x.filesystem) new ∙ sym (ap (λ (x : Mount ℕ). x.filesystem) old)) i,
              location.node,
            );
            there = is_among_numbers (copy location.mount) (map (λ (x : Mount ℕ). x.number) base.mounts)
                (subst (λ n. Among n (map (λ (x : Mount ℕ). x.number) base.mounts)) (ap copy (sym same))
                (among-map (λ (x : Mount ℕ). x.number) base.mounts (copied_mount copy new_namespace one.0)
                (among-append_right world.mounts added (copied_mount copy new_namespace one.0)
                (among-map (copied_mount copy new_namespace) copied one.0 one.1))));
            left = inl (ap (λ (x : Mount ℕ). is_some x.namespace) (ap (mount_in nat_eq world.mounts) same
                ∙ found_itself world.mounts whole.in_world.mounts.one_number one.0 was.0)
                ∙ is_own one.0.namespace was.1);
          }

  stands : (location : Location ℕ) → Among location (locations_of task)
      → is_among nat_eq location.mount (map (λ mount. mount.number) world.mounts) ≡ true
  stands location m = (and_parts (is_among nat_eq location.mount (map (λ mount. mount.number) world.mounts)) _
      (among_from_list_all (is_located_well nat_eq world) (all_locations world) whole.in_world.tasks.locations_live
      location
      (subst (λ all. Among location all)
      (sym (ap locations_in split.was ∙ locations_around split.front task split.back))
      (among-append_right (locations_in split.front) (locations_of task ++ locations_in split.back) location
      (among-append_left (locations_of task) (locations_in split.back) location m))))).0

  root_goes : GoesTo task.root moved_task.root
  root_goes = goes_to task.root (stands task.root (inl refl))

  directory_goes : GoesTo task.directory moved_task.directory
  directory_goes = goes_to task.directory (stands task.directory (inr (inl refl)))

  -- the new namespace is another
  pub another : nat_eq task.namespace new_namespace ≡ false
  another = by (nat_eq task.namespace new_namespace) refl
    where
      among_tasks : Among task value.tasks
      among_tasks = subst (λ all. Among task all) (sym split.was)
          (among-append_right split.front (task ∷ split.back) task (inl refl))

      by : (b : Bool) → nat_eq task.namespace new_namespace ≡ b → b ≡ false
      by false e = refl
      by true e =
          let listed = among_numbers task.namespace (map (λ (n : Namespace ℕ). n.number) world.namespaces)
          (among_from_list_all (λ (one : Task ℕ). is_listed nat_eq world one.namespace) world.tasks
          whole.in_world.namespaces.tasks_listed task among_tasks) in
          absurd (true≢false (sym (is_among_numbers new_namespace (numbers_in_use world)
          (subst (λ n. Among n (numbers_in_use world)) (eqb-true task.namespace new_namespace e)
          (among-append_right (flat_map used_by_mount world.mounts ++ flat_map used_by_filesystem world.filesystems)
          (map (λ (n : Namespace ℕ). n.number) world.namespaces) task.namespace listed))) ∙ serves.unused 0))

  module _ (goes : Option ℕ → Bool) (new_stays : goes (Some new_namespace) ≡ false) where
    from_copied : (mount : Mount ℕ) → Among mount added
        → (x : Mount ℕ) × Among x copied × (mount ≡ copied_mount copy new_namespace x)
    from_copied mount m = among-from_map (copied_mount copy new_namespace) copied mount m

    parent_is : (x : Mount ℕ) → Among x copied → (o : Option (Location ℕ)) → x.mount_point ≡ o
        → (place : Location ℕ) → option_map (location_on_copy copy) o ≡ Some place
        → (is_some (mount_at nat_eq base place).namespace ≡ true)
        × (goes (mount_at nat_eq base place).namespace ≡ false)
    parent_is x m None e place is = absurd cc
    parent_is x m (Some at) e place is =
        let was = in_copied x m in
        let parent = parent_of world whole.in_world.mounts x (to_spec world.mounts x was.0) at e in
        let inside : Among parent.parent copied = among-filter
        (λ (y : Mount ℕ). holds_of (nat_eq task.namespace) y.namespace) world.mounts parent.parent
        (from_spec world.mounts parent.parent parent.there)
        (ap (holds_of (nat_eq task.namespace)) (sym parent.namespace) ∙ was.1) in
        let it : mount_numbered nat_eq base (copy at.mount) ≡ copied_mount copy new_namespace parent.parent =
        ap (λ n. mount_numbered nat_eq base (copy n)) (sym parent.number) ∙ copy_is parent.parent inside in
        let same : location_on_copy copy at ≡ place = same_Some (location_on_copy copy at) place is in
        let there : (mount_at nat_eq base place).namespace ≡ Some new_namespace =
        ap (λ (l : Location ℕ). (mount_at nat_eq base l).namespace) (sym same) ∙ ap (λ (y : Mount ℕ). y.namespace) it in
        (ap is_some there, ap goes there ∙ new_stays)

    pub task_is_moved : IsAdded value added tasks_moved come_to gone_from (λ mount. goes mount.namespace)
    task_is_moved = record {
      front = locations_in split.front;
      back = map (λ descriptor. descriptor.location) task.descriptors ++ locations_in split.back;
      was = ap locations_in split.was ∙ locations_around split.front task split.back;
      is = ap locations_in split.is ∙ locations_around split.front moved_task split.back;
      same_inodes = λ i. root_goes.inode i ∷ directory_goes.inode i ∷ [];
      there = λ i. root_goes.there i && (directory_goes.there i && true);
      writes = λ mount.
          let moved = writes_replaced name value.tasks task moved_task whole.in_world.tasks.one_task found refl mount in
          let own : writes_of_task mount moved_task ≡ writes_of_task mount task = refl in
          omega (arith, moved, own);
      one_number = one_number;
      attached = λ mount m. ap (λ (x : Mount ℕ). is_some x.namespace) (from_copied mount m).2;
      stays = λ mount m. ap (λ (x : Mount ℕ). goes x.namespace) (from_copied mount m).2 ∙ new_stays;
      parent = λ mount m place e. let from = from_copied mount m in
          parent_is from.0 from.1 from.0.mount_point refl place (ap (λ (x : Mount ℕ). x.mount_point) (sym from.2) ∙ e);
      left = λ location m. ⊎_elim
          (λ root. subst (λ l. (is_some (mount_at nat_eq world l).namespace ≡ true) ⊎ Among l come_to) (sym root)
          (⊎_elim (λ attached. inl attached) (λ same. inr (inl same)) root_goes.left)) (λ rest. ⊎_elim
          (λ directory. subst (λ l. (is_some (mount_at nat_eq world l).namespace ≡ true) ⊎ Among l come_to)
          (sym directory) (⊎_elim (λ attached. inl attached) (λ same. inr (inr (inl same))) directory_goes.left))
          (λ none. absurd none) rest) m;
    }
