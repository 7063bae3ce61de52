-- Where two mounts change places and tasks go from the root of one to that of the other, what is used more and less:
-- pivot_root(2).
use Rattle.std.proofs.Common.{◌≡◌, refl, sym, ap, ◌∙◌, ⊎_elim, ℕ, ◌+◌, zero, suc, nat_eq, eq-eqb, Bool, true, false, cond, List, [], ◌∷◌, ◌++◌, map, filter, flat_map, Option, Some, None, arith, filter_map, option_to_list, replicate}
use Rattle.vt_spec.proofs.Common.{Location, Mount, Task, World, all_locations, any_pair, list_any, located_in, locations_of, mount_in, nat_eq_turned, or_parts, pivoted, pivoted_location, pivoted_mount, pivoted_task, root_of, shown-mapped, common_steps}
use Rattle.vt_ns.proofs.Common.{Among, Exchanges, Inode, Tasks, Use, inode_at, inodes_of_uses, mount_uses, standing, times, writes_of, writes_of_task}
use Rattle.vt_laws_mounts.specs.Counts.Using.{is_inode}
use Rattle.vt_laws_mounts.proofs.counts.using.Places.{count_append, count_in, count_places, located_uses, same_found}
use Rattle.vt_laws_mounts.proofs.letting_go.Lists.{none_among}
use Rattle.vt_laws_mounts.proofs.letting_go.sweeps.UpperUses.{times_append}
use Rattle.vt_tasks.specs.Counts.{all_places_at, uses}
use Rattle.vt_tasks.proofs.PivotCounts.{pivoted_uses}
use Rattle.vt_mounting.proofs.detach.Moving.{is_use_on, writes_on_mount}
use Rattle.vt_mounting.proofs.detach.MountsChanged.{times_map}
use Rattle.vt_tasks.specs.Counts as counted_uses

-- Lists

times_kept : {A : Type 0} (test : A → Bool) (change : A → A) → ((a : A) → test (change a) ≡ test a) → (list : List A)
    → times test (map change list) ≡ times test list
times_kept test change same [] = refl
times_kept test change same (a ∷ rest) = λ i. cond (same a i) 1 0 + times_kept test change same rest i

times_replicate : {A : Type 0} (test : A → Bool) (n : ℕ) (a : A) → times test (replicate n a) ≡ cond (test a) n 0
times_replicate test zero a = grind (arith, common_steps)
times_replicate test (suc n) a = grind (arith, common_steps, times_replicate test n a, cond)

-- what the tasks count is what the world does
counted_so : {A B : Type 0} (test : B → Bool) (f : A → B) (list : List A)
    → times test (map f list) ≡ counted_uses.times (λ a. test (f a)) list
counted_so test f [] = refl
counted_so test f (a ∷ rest) = ap (λ n. cond (test (f a)) 1 0 + n) (counted_so test f rest)

counted_too : {A : Type 0} (test : A → Bool) (list : List A) → times test list ≡ counted_uses.times test list
counted_too test [] = refl
counted_too test (a ∷ rest) = ap (λ n. cond (test a) 1 0 + n) (counted_too test rest)

-- Sums over mounts

abbrev total : (Mount ℕ → ℕ) → List (Mount ℕ) → ℕ
total weight [] = 0
total weight (mount ∷ rest) = weight mount + total weight rest

total_map : (weight : Mount ℕ → ℕ) (change : Mount ℕ → Mount ℕ) (mounts : List (Mount ℕ))
    → total weight (map change mounts) ≡ total (λ mount. weight (change mount)) mounts
total_map weight change [] = refl
total_map weight change (mount ∷ rest) = ap (λ n. weight (change mount) + n) (total_map weight change rest)

sums : (f g h a b c : Mount ℕ → ℕ) → ((mount : Mount ℕ) → (f mount + g mount) + h mount ≡ (a mount + b mount) + c mount)
    → (mounts : List (Mount ℕ))
    → (total f mounts + total g mounts) + total h mounts ≡ (total a mounts + total b mounts) + total c mounts
sums f g h a b c each [] = refl
sums f g h a b c each (mount ∷ rest) =
    let here = each mount in let later = sums f g h a b c each rest in omega (arith, here, later)

-- the weight of the mount with a number
abbrev of_one : ℕ → (Mount ℕ → ℕ) → Mount ℕ → ℕ
of_one number weight mount = cond (nat_eq number mount.number) (weight mount) 0

none_weighs : (number : ℕ) (weight : Mount ℕ → ℕ) (mounts : List (Mount ℕ))
    → list_any (λ (mount : Mount ℕ). nat_eq number mount.number) mounts ≡ false
    → total (of_one number weight) mounts ≡ 0
none_weighs number weight [] none = refl
none_weighs number weight (mount ∷ rest) none =
    let parts = or_parts (nat_eq number mount.number) _ none in
    λ i. cond (parts.0 i) (weight mount) 0 + none_weighs number weight rest parts.1 i

one_weighs : (weight : Mount ℕ → ℕ) (mounts : List (Mount ℕ)) (mount : Mount ℕ)
    → any_pair (λ (a b : Mount ℕ). nat_eq a.number b.number) mounts ≡ false → Among mount mounts
    → total (of_one mount.number weight) mounts ≡ weight mount
one_weighs weight [] mount one m = absurd m
one_weighs weight (first ∷ rest) mount one m =
    let parts = or_parts (list_any (λ (other : Mount ℕ). nat_eq first.number other.number) rest) _ one in
    ⊎_elim (here parts.0) (later parts.0 (one_weighs weight rest mount parts.1)) m
  where
    here : list_any (λ (other : Mount ℕ). nat_eq first.number other.number) rest ≡ false → mount ≡ first
        → cond (nat_eq mount.number first.number) (weight first) 0 + total (of_one mount.number weight) rest
        ≡ weight mount
    here none same = grind (arith, common_steps, cond, eq-eqb, of_one, none_weighs)

    later : list_any (λ (other : Mount ℕ). nat_eq first.number other.number) rest ≡ false
        → (Among mount rest → total (of_one mount.number weight) rest ≡ weight mount) → Among mount rest
        → cond (nat_eq mount.number first.number) (weight first) 0 + total (of_one mount.number weight) rest
        ≡ weight mount
    later none others there = grind (arith, common_steps, nat_eq_turned, none_among, cond)

-- The mounts

module _ (root new : Mount ℕ) (put : Location ℕ) where
  abbrev pub pivoting : Mount ℕ → Mount ℕ
  pivoting = pivoted_mount nat_eq root new put

  -- a mount keeps all but its mount point
  pub kept_part : {A : Type 0} (part : Mount ℕ → A)
      → ((mount : Mount ℕ) (point : Option (Location ℕ)) → part (record mount { mount_point = point }) ≡ part mount)
      → (mount : Mount ℕ) → part (pivoting mount) ≡ part mount
  kept_part part same mount = grind (arith, common_steps)

  pub kept_number : (mount : Mount ℕ) → (pivoting mount).number ≡ mount.number
  kept_number = kept_part (λ mount. mount.number) (λ mount point. refl)

  pub kept_filesystem : (mount : Mount ℕ) → (pivoting mount).filesystem ≡ mount.filesystem
  kept_filesystem = kept_part (λ mount. mount.filesystem) (λ mount point. refl)

  -- as many mounts show a filesystem
  pub kept_showing : (mounts : List (Mount ℕ)) (number : ℕ)
      → times (λ (mount : Mount ℕ). nat_eq number mount.filesystem) (map pivoting mounts)
      ≡ times (λ (mount : Mount ℕ). nat_eq number mount.filesystem) mounts
  kept_showing mounts number = grind (arith, common_steps, times_kept, kept_filesystem)

  kept_roots : (mounts : List (Mount ℕ)) → map root_of (map pivoting mounts) ≡ map root_of mounts
  kept_roots [] = refl
  kept_roots (mount ∷ rest) = λ i. kept_part root_of (λ one point. refl) mount i ∷ kept_roots rest i

  -- What mount points weigh: that of the new root mount goes, and the place of the old one comes

  module _ (weight : Location ℕ → ℕ) where
    abbrev weight_at : Option (Location ℕ) → ℕ
    weight_at None = 0
    weight_at (Some place) = weight place

    abbrev point_weight : Mount ℕ → ℕ
    point_weight mount = weight_at mount.mount_point

    one_pivots : nat_eq new.number root.number ≡ false → (mount : Mount ℕ)
        → (point_weight (pivoting mount) + of_one new.number point_weight mount) + of_one root.number point_weight mount
        ≡ (point_weight mount + of_one new.number (λ one. weight_at root.mount_point) mount)
        + of_one root.number (λ one. weight put) mount
    one_pivots another mount = grind (arith, common_steps)

    points_weigh : (mounts : List (Mount ℕ)) → any_pair (λ (a b : Mount ℕ). nat_eq a.number b.number) mounts ≡ false
        → Among root mounts → Among new mounts → nat_eq new.number root.number ≡ false
        → total point_weight (map pivoting mounts) + point_weight new ≡ total point_weight mounts + weight put
    points_weigh mounts one root_there new_there another =
        let all = sums (λ mount. point_weight (pivoting mount)) (of_one new.number point_weight)
        (of_one root.number point_weight) point_weight (of_one new.number (λ mount. weight_at root.mount_point))
        (of_one root.number (λ mount. weight put)) (one_pivots another) mounts in
        let moved = total_map point_weight pivoting mounts in
        let a = one_weighs point_weight mounts new one new_there in
        let b = one_weighs point_weight mounts root one root_there in
        let c = one_weighs (λ mount. weight_at root.mount_point) mounts new one new_there in
        let d = one_weighs (λ mount. weight put) mounts root one root_there in
        omega (arith, all, moved, a, b, c, d)

  module _ (mounts : List (Mount ℕ)) (k n : ℕ) where
    abbrev place_weight : Location ℕ → ℕ
    place_weight place = count_in mounts k n (place ∷ [])

    point_counts : (point : Option (Location ℕ))
        → count_in mounts k n (option_to_list point) ≡ weight_at place_weight point
    point_counts point = grind (arith, common_steps)

    points_count : (some : List (Mount ℕ))
        → count_in mounts k n (filter_map (λ (mount : Mount ℕ). mount.mount_point) some)
        ≡ total (point_weight place_weight) some
    points_count [] = refl
    points_count (mount ∷ rest) = grind (arith, common_steps, points_count rest)

    -- locations of tasks
    locations_count : (tasks : Tasks) → count_in mounts k n (flat_map locations_of tasks)
        ≡ uses (λ location. is_inode k n ((mount_in nat_eq mounts location.mount).filesystem, location.node)) tasks
    locations_count tasks = sym (count_places mounts k n (flat_map locations_of tasks)) ∙ counted_so (is_inode k n)
        (λ (location : Location ℕ). ((mount_in nat_eq mounts location.mount).filesystem, location.node))
        (flat_map locations_of tasks)

-- The world

module _ (world : World ℕ) (namespace : ℕ) (root new : Mount ℕ) (put : Location ℕ) where
  abbrev pub pivoted_world : World ℕ
  pivoted_world = pivoted nat_eq world namespace root new put

  -- how many roots and working directories move
  abbrev pub moved : ℕ
  moved = all_places_at namespace (root_of root) world.tasks

  abbrev pub coming : List Use
  coming = replicate moved (standing (root_of new))

  abbrev pub leaving : List Use
  leaving = replicate moved (standing (root_of root))

  -- the uses of a mount
  pub mount_uses_pivot : (number : ℕ) → mount_uses pivoted_world number + times (is_use_on number) leaving
      ≡ mount_uses world number + times (is_use_on number) coming
  mount_uses_pivot number = grind (arith, common_steps, counted_too, pivoted_uses, times_replicate, standing)

  -- none of them is a file that is open for writing
  pub none_writes : (number count : ℕ) (place : Location ℕ)
      → times (writes_on_mount number) (replicate count (standing place)) ≡ 0
  none_writes number count place = times_replicate (writes_on_mount number) count (standing place)

  pub writes_pivot : (number : ℕ) (tasks : Tasks)
      → writes_of number (map (pivoted_task nat_eq namespace root new) tasks) ≡ writes_of number tasks
  writes_pivot number [] = refl
  writes_pivot number (task ∷ rest) = λ i. by (nat_eq namespace task.namespace) i + writes_pivot number rest i
    where
      by : (b : Bool) → writes_of_task number (cond b (record task {
        root = pivoted_location nat_eq root new task.root;
        directory = pivoted_location nat_eq root new task.directory;
      }) task) ≡ writes_of_task number task
      by true = refl
      by false = refl

  pub inside_pivot : (number : ℕ) (tasks : Tasks)
      → times (λ (task : Task ℕ). nat_eq number task.namespace) (map (pivoted_task nat_eq namespace root new) tasks)
      ≡ times (λ (task : Task ℕ). nat_eq number task.namespace) tasks
  inside_pivot number tasks =
      times_kept (λ (task : Task ℕ). nat_eq number task.namespace) (pivoted_task nat_eq namespace root new)
      (λ task. ap (nat_eq number) (by task (nat_eq namespace task.namespace))) tasks
    where
      by : (task : Task ℕ) (b : Bool) → (cond b (record task {
        root = pivoted_location nat_eq root new task.root;
        directory = pivoted_location nat_eq root new task.directory;
      }) task).namespace ≡ task.namespace
      by task true = refl
      by task false = refl

  -- The uses of inodes

  abbrev pub gained : List Inode
  gained = inode_at world put ∷ inodes_of_uses world coming

  abbrev pub lost : List Inode
  lost = inodes_of_uses world leaving ++ map (inode_at world) (option_to_list new.mount_point)

  moved_uses : (k n : ℕ) (place : Location ℕ)
      → times (is_inode k n) (inodes_of_uses world (replicate moved (standing place)))
      ≡ cond (is_inode k n (inode_at world place)) moved 0
  moved_uses k n place = grind (arith, common_steps, times_map, is_inode, inode_at, standing, times_replicate)

  module _ (one : any_pair (λ (a b : Mount ℕ). nat_eq a.number b.number) world.mounts ≡ false)
      (root_there : Among root world.mounts) (new_there : Among new world.mounts)
      (another : nat_eq new.number root.number ≡ false) where
    counts : (k n : ℕ) → times (nat_eq n) (located_in nat_eq world k) + times (is_inode k n) gained
        ≡ times (nat_eq n) (located_in nat_eq pivoted_world k) + times (is_inode k n) lost
    counts k n =
        let mounts = world.mounts in
        let count = count_in mounts k n in
        let test : Location ℕ → Bool = λ (location : Location ℕ). is_inode k n
        ((mount_in nat_eq mounts location.mount).filesystem, location.node) in
        let locations = all_locations world in
        let later = all_locations pivoted_world in
        let roots = map root_of mounts in
        let points : List (Location ℕ) = filter_map (λ (mount : Mount ℕ). mount.mount_point) mounts in
        let others : List (Location ℕ) = filter_map (λ (mount : Mount ℕ). mount.mount_point)
        (map (pivoting root new put) mounts) in
        let was : times (nat_eq n) (located_in nat_eq world k) ≡ count ((locations ++ roots) ++ points) = refl in
        let is : times (nat_eq n) (located_in nat_eq pivoted_world k) ≡ count ((later ++ roots) ++ others) =
        (λ i. times (nat_eq n) (map (λ (location : Location ℕ). location.node)
        (filter (λ (location : Location ℕ). nat_eq k (shown-mapped (pivoting root new put) (kept_number root new put)
        (kept_filesystem root new put) mounts location.mount i))
        ((later ++ kept_roots root new put mounts i) ++ others)))) in
        let a = count_append mounts k n (locations ++ roots) points in
        let b = count_append mounts k n locations roots in
        let c = count_append mounts k n (later ++ roots) others in
        let d = count_append mounts k n later roots in
        let tasks_were = locations_count root new put mounts k n world.tasks in
        let tasks_are = locations_count root new put mounts k n (map (pivoted_task nat_eq namespace root new) world.tasks) in
        let all = pivoted_uses test world.tasks namespace root new in
        let points_were = points_count root new put mounts k n mounts in
        let points_are = points_count root new put mounts k n (map (pivoting root new put) mounts) in
        let pivot = points_weigh root new put (place_weight root new put mounts k n) mounts one root_there new_there another in
        let put_counts = count_places mounts k n (put ∷ []) in
        let left = count_places mounts k n (option_to_list new.mount_point) in
        let left_weighs = point_counts root new put mounts k n new.mount_point in
        let more = moved_uses k n (root_of new) in
        let less = moved_uses k n (root_of root) in
        let apart = times_append (is_inode k n) (inodes_of_uses world leaving)
        (map (inode_at world) (option_to_list new.mount_point)) in
        omega (
          arith,
          was,
          is,
          a,
          b,
          c,
          d,
          tasks_were,
          tasks_are,
          all,
          points_were,
          points_are,
          pivot,
          put_counts,
          left,
          left_weighs,
          more,
          less,
          apart,
        )

    -- are exchanged
    pub uses_pivot : (filesystem : ℕ) → Exchanges gained lost filesystem world pivoted_world
    uses_pivot k = record {
      same = same_found world pivoted_world refl k;
      uses = λ n. located_uses world pivoted_world refl k n (times (is_inode k n) gained)
          (times (is_inode k n) lost) (counts k n);
    }
