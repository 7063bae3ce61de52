-- Whether an overlay has an upper layer is as it was after the sweep, and where worlds are the same.
use Rattle.std.proofs.Common.{arith, Bool, List, None, Some, [], cond, eqb-true, false, filter, find, inr, is_some, map, nat_eq, not, refl, sym, true, true≢false, ℕ, ◌&&◌, ◌||◌, ◌∙◌, ◌∷◌, ◌≡◌, unwrap_or}
use Rattle.vt_laws_trees.proofs.trees.Lists.{find-filter}
use Rattle.vt_spec.proofs.Common.{Among, Descriptor, Filesystem, Location, SameFilesystems, Task, World, all_from_among, all_locations, among-flat_map, among-map, among_from_all, among_from_list_all, any_from_among, common_steps, filesystem_numbered, has_layer_on, has_no_upper, is_among, is_mounted, is_overlay, list_all, list_all_from_among, list_any, locations_of, looks_of, mount_at, mount_in, nat_eq_itself, no_filesystem, number-only_used, of_overlay, only_used, only_used_by, settled, used_in, without_dead_filesystems, without_dead_in, without_dead_mounts}
use Rattle.vt_laws_worlds.specs.OverlaysRead.Writers.{PlainWorldsHaveLayers, SameWorldsHaveLayersAlike, SweepsKeepWriters, WritersHaveLayers, writes_to_a_layer}
use Rattle.vt_laws_trees.proofs.trees.TreesOfWorlds.{numbered_anyhow}

-- the filesystem is an overlay without an upper layer
abbrev pub lacks_upper : Filesystem ℕ → Bool
lacks_upper filesystem = of_overlay false (λ overlay. not (is_some overlay.upper)) filesystem

abbrev pub writes : World ℕ → Task ℕ → Bool
writes world task = list_all (writes_to_a_layer world) task.descriptors

-- One descriptor

pub writes_still : (one other : World ℕ) (descriptor : Descriptor ℕ)
    → (has_no_upper (looks_of nat_eq one) descriptor.location ≡ false
    → has_no_upper (looks_of nat_eq other) descriptor.location ≡ false)
    → writes_to_a_layer one descriptor ≡ true → writes_to_a_layer other descriptor ≡ true
writes_still one other descriptor = grind (arith, common_steps, true≢false)

pub writes_there : (world : World ℕ) (descriptor : Descriptor ℕ)
    → has_no_upper (looks_of nat_eq world) descriptor.location ≡ false → writes_to_a_layer world descriptor ≡ true
writes_there world descriptor layer = grind (arith, common_steps)

-- Tasks that keep their descriptors
pub all_write_alike : (test : List (Descriptor ℕ) → Bool) (change : Task ℕ → Task ℕ)
    → ((task : Task ℕ) → (change task).descriptors ≡ task.descriptors) → (tasks : List (Task ℕ))
    → list_all (λ (task : Task ℕ). test task.descriptors) (map change tasks)
    ≡ list_all (λ (task : Task ℕ). test task.descriptors) tasks
all_write_alike test change same [] = refl
all_write_alike test change same (task ∷ tasks) = λ i. test (same task i) && all_write_alike test change same tasks i

-- Lists of filesystems

abbrev numbered : ℕ → List (Filesystem ℕ) → Filesystem ℕ
numbered number list = unwrap_or (find (λ filesystem. nat_eq number filesystem.number) list) (no_filesystem number)

lacks_alike : (number : ℕ) (ones others : List (Filesystem ℕ)) → SameFilesystems ones others
    → lacks_upper (numbered number ones) ≡ lacks_upper (numbered number others)
lacks_alike number [] [] same = refl
lacks_alike number [] (other ∷ others) same = absurd same
lacks_alike number (one ∷ ones) [] same = absurd same
lacks_alike number (one ∷ ones) (other ∷ others) same =
    cc (by (nat_eq number other.number) (lacks_alike number ones others same.1))
  where
    by : (b : Bool) → lacks_upper (numbered number ones) ≡ lacks_upper (numbered number others)
        → lacks_upper (unwrap_or (cond b (Some one) (find (λ filesystem. nat_eq number filesystem.number) ones))
        (no_filesystem number))
        ≡ lacks_upper (unwrap_or (cond b (Some other) (find (λ filesystem. nat_eq number filesystem.number) others))
        (no_filesystem number))
    by true later = cc
    by false later = later

-- filesystems that keep their numbers and upper layers
lacks_mapped : (change : Filesystem ℕ → Filesystem ℕ) → ((f : Filesystem ℕ) → (change f).number ≡ f.number)
    → ((f : Filesystem ℕ) → lacks_upper (change f) ≡ lacks_upper f) → (number : ℕ) (list : List (Filesystem ℕ))
    → lacks_upper (numbered number (map change list)) ≡ lacks_upper (numbered number list)
lacks_mapped change numbers uppers number [] = refl
lacks_mapped change numbers uppers number (first ∷ list) =
    cc (numbers first, by (nat_eq number first.number) (lacks_mapped change numbers uppers number list))
  where
    by : (b : Bool) → lacks_upper (numbered number (map change list)) ≡ lacks_upper (numbered number list)
        → lacks_upper (unwrap_or (cond b (Some (change first))
        (find (λ filesystem. nat_eq number filesystem.number) (map change list))) (no_filesystem number))
        ≡ lacks_upper (unwrap_or (cond b (Some first)
        (find (λ filesystem. nat_eq number filesystem.number) list)) (no_filesystem number))
    by true later = uppers first
    by false later = later

-- What is looked for in a filtered list
module _ {A : Type 0} (test wanted : A → Bool) where
  found_never : (list : List A) → ((a : A) → wanted a ≡ true → test a ≡ false) → find wanted (filter test list) ≡ None
  found_never [] none = refl
  found_never (first ∷ list) none = grind (arith, common_steps, found_never list none)

-- filesystems go by their numbers
lacks_filtered : (lives : ℕ → Bool) (number : ℕ) (list : List (Filesystem ℕ))
    → lacks_upper (numbered number list) ≡ false
    → lacks_upper (numbered number (filter (λ f. lives f.number) list)) ≡ false
lacks_filtered lives number list layer = grind (arith, common_steps, lives, eqb-true, find-filter, found_never)

-- The sweep

lacks_by : (used : List ℕ) (b : Bool) (f : Filesystem ℕ) → lacks_upper (only_used_by nat_eq b used f) ≡ lacks_upper f
lacks_by used b f = grind (arith, common_steps)

lacks_less : (world : World ℕ) (b : Bool) (f : Filesystem ℕ) → lacks_upper (only_used nat_eq world b f) ≡ lacks_upper f
lacks_less world true f =
    lacks_by (used_in nat_eq world f) (list_all (λ n. is_among nat_eq n (used_in nat_eq world f)) f.files.numbers) f
lacks_less world false f = refl

lacks_in : (chosen : Filesystem ℕ → Bool) (world : World ℕ) (number : ℕ)
    → lacks_upper (filesystem_numbered nat_eq (without_dead_in nat_eq chosen world) number)
    ≡ lacks_upper (filesystem_numbered nat_eq world number)
lacks_in chosen world number = lacks_mapped _ (λ f. number-only_used world (chosen f) f)
    (λ f. lacks_less world (chosen f) f) number world.filesystems

module _ (world : World ℕ) where
  abbrev mounted : World ℕ
  mounted = without_dead_mounts nat_eq world

  abbrev living : World ℕ
  living = without_dead_filesystems nat_eq mounted

  -- a mount on which a location is stays
  mount_stays : (location : Location ℕ) → Among location (all_locations world)
      → mount_at nat_eq (settled nat_eq world) location ≡ mount_at nat_eq world location
  mount_stays location m = grind (arith, common_steps, find-filter, any_from_among, nat_eq_itself, eqb-true)

  abbrev lives_numbered : ℕ → Bool
  lives_numbered number = is_mounted nat_eq mounted number
      || list_any (λ merged. has_layer_on nat_eq number merged && is_mounted nat_eq mounted merged.number)
      world.filesystems

  upper_stays : (number : ℕ) → lacks_upper (filesystem_numbered nat_eq world number) ≡ false
      → lacks_upper (filesystem_numbered nat_eq (settled nat_eq world) number) ≡ false
  upper_stays number layer = lacks_in (λ f. not (is_overlay f)) (without_dead_in nat_eq is_overlay living) number
      ∙ lacks_in is_overlay living number ∙ lacks_filtered lives_numbered number _ layer

  swept_layer : (location : Location ℕ) → Among location (all_locations world)
      → has_no_upper (looks_of nat_eq world) location ≡ false
      → has_no_upper (looks_of nat_eq (settled nat_eq world)) location ≡ false
  swept_layer location m layer =
      cc (mount_stays location m, upper_stays (mount_at nat_eq world location).filesystem layer)

pub sweeps_keep_writers : SweepsKeepWriters
sweeps_keep_writers world well = list_all_from_among (writes (settled nat_eq world)) world.tasks (λ task m.
    list_all_from_among (writes_to_a_layer (settled nat_eq world)) task.descriptors (λ descriptor d.
    writes_still world (settled nat_eq world) descriptor (swept_layer world descriptor.location
    (among-flat_map locations_of world.tasks task descriptor.location m
    (inr (inr (among-map (λ (x : Descriptor ℕ). x.location) task.descriptors descriptor d)))))
    (among_from_list_all (writes_to_a_layer world) task.descriptors
    (among_from_list_all (writes world) world.tasks well task m) descriptor d)))

-- Worlds

pub plain_worlds_have_layers : PlainWorldsHaveLayers
plain_worlds_have_layers world plain = list_all_from_among (writes world) world.tasks (λ task m.
    list_all_from_among (writes_to_a_layer world) task.descriptors (λ descriptor d.
    writes_there world descriptor
    (numbered_anyhow (λ f. lacks_upper f ≡ false) (mount_at nat_eq world descriptor.location).filesystem
    world.filesystems (all_from_among (λ f. lacks_upper f ≡ false) world.filesystems (λ f n.
    has_one f (among_from_all (λ g. is_overlay g ≡ false) world.filesystems plain f n))) refl)))
  where
    has_one : (f : Filesystem ℕ) → is_overlay f ≡ false → lacks_upper f ≡ false
    has_one f e = grind (arith, common_steps, true≢false)

-- where layers and descriptors are the same
pub writers_alike : (one other : World ℕ) → ((location : Location ℕ) → has_no_upper (looks_of nat_eq other) location
    ≡ has_no_upper (looks_of nat_eq one) location)
    → ((test : List (Descriptor ℕ) → Bool) → list_all (λ (task : Task ℕ). test task.descriptors) other.tasks
    ≡ list_all (λ (task : Task ℕ). test task.descriptors) one.tasks) → WritersHaveLayers one → WritersHaveLayers other
writers_alike one other layers tasks well = tasks (list_all (writes_to_a_layer other))
    ∙ (λ i. list_all (λ (task : Task ℕ). list_all
    (λ (descriptor : Descriptor ℕ). not (descriptor.writes && layers descriptor.location i)) task.descriptors)
    one.tasks) ∙ well

pub same_worlds_have_layers_alike : SameWorldsHaveLayersAlike
same_worlds_have_layers_alike one other same = writers_alike one other layers tasks
  where
    layers : (location : Location ℕ) → has_no_upper (looks_of nat_eq other) location
        ≡ has_no_upper (looks_of nat_eq one) location
    layers location = sym (lacks_alike (mount_at nat_eq one location).filesystem _ _ same.filesystems
        ∙ (λ i. lacks_upper (numbered (mount_in nat_eq (same.mounts i) location.mount).filesystem other.filesystems)))

    tasks : (test : List (Descriptor ℕ) → Bool) → list_all (λ (task : Task ℕ). test task.descriptors) other.tasks
        ≡ list_all (λ (task : Task ℕ). test task.descriptors) one.tasks
    tasks test = cc (
      all_write_alike test (λ (task : Task ℕ). record task { change = 0 }) (λ task. refl) other.tasks,
      all_write_alike test (λ (task : Task ℕ). record task { change = 0 }) (λ task. refl) one.tasks,
    )
