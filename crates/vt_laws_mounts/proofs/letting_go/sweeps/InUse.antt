-- Where all is in use nothing goes, and what is left is in use.
use Rattle.std.proofs.Common.{arith, ◌≡◌, refl, sym, ap, subst, ◌∙◌, ⊎_elim, ℕ, nat_eq, eq-eqb, Bool, true, false, cond, not, ◌||◌, ◌&&◌, List, [], ◌∷◌, filter, map, true≢false, flat_map, ◌++◌, None, All, filter_map}
use Rattle.vt_spec.proofs.Common.{Filesystem, Layer, Location, World, all_locations, and_parts, cases_Bool, common_steps, filesystem_lives, filter_all, has_layer_on, is_among, is_among_left, is_among_right, is_mounted, is_overlay, layers_in, layers_of, list_all, list_any, located_in, mount_at, mount_lives, named_in, objects_of_overlay, of_overlay, only_used, only_used_by, or_cases, or_parts, root_of, settled, targets_in, used_in, with_mounts, without_dead_filesystems, without_dead_groups, without_dead_in, without_dead_mounts}
use Rattle.vt_laws_mounts.specs.LettingGo.InUse.{AllInUse, FilesystemsInUse, GroupsInUse, HasTrees, InodesInUse, IsListedTree, MountsInUse, NothingGoes, OneSweepIsEnough, UppersArePlain, WhatIsLeftIsInUse, has_upper_in, is_inode_used}
use Rattle.vt_laws_mounts.proofs.letting_go.Lists.{Among, all_from_among, list_all_from_among, among-filter, among-flat_map, among-from_flat_map, among-from_map, among-map, among_from_all, any_from_among, flat_map_none, any_among, or_left, among-from_filter, flat_map-filter, flat_map-map, flat_map_alike, is_among_numbers, map_same, or_right, among_from_list_all}
use Rattle.vt_laws_mounts.proofs.letting_go.Trees.{unnamed_is_empty}

-- Where all is in use

used_by_all : (world : World ℕ) (filesystem : Filesystem ℕ) (chosen : Bool)
    → list_all (is_inode_used world filesystem) filesystem.files.numbers ≡ true
    → only_used nat_eq world chosen filesystem ≡ filesystem
used_by_all world filesystem true all = ap (λ b. only_used_by nat_eq b (used_in nat_eq world filesystem) filesystem) all
used_by_all world filesystem false all = refl

pub inodes_stay : (chosen : Filesystem ℕ → Bool) (world : World ℕ) → InodesInUse world
    → without_dead_in nat_eq chosen world ≡ world
inodes_stay chosen world all = ap (λ filesystems. record world { filesystems = filesystems })
    (map_same (λ filesystem. only_used nat_eq world (chosen filesystem) filesystem) world.filesystems
    (λ filesystem m. used_by_all world filesystem (chosen filesystem)
    (among_from_all (λ f. list_all (is_inode_used world f) f.files.numbers ≡ true) world.filesystems all filesystem m)))

pub groups_stay : (world : World ℕ) → GroupsInUse world → without_dead_groups nat_eq world ≡ world
groups_stay world all = grind (arith, common_steps)

pub mounts_stay : (world : World ℕ) → MountsInUse world → without_dead_mounts nat_eq world ≡ world
mounts_stay world all = ap (with_mounts world) (filter_all _ _ (among_from_list_all _ _ all))

pub filesystems_stay : (world : World ℕ) → FilesystemsInUse world → without_dead_filesystems nat_eq world ≡ world
filesystems_stay world all = ap (λ filesystems. record world { filesystems = filesystems })
    (filter_all _ _ (among_from_list_all _ _ all))

pub nothing_goes : NothingGoes
nothing_goes world all = grind (arith, common_steps, mounts_stay, filesystems_stay, inodes_stay, groups_stay)

-- What is left

-- a filesystem of which unused inodes went keeps its number, its root, its layers
module _ (used : List ℕ) (filesystem : Filesystem ℕ) where
  abbrev pub left_by : Bool → Filesystem ℕ
  left_by all = only_used_by nat_eq all used filesystem

  pub number-left : (all : Bool) → (left_by all).number ≡ filesystem.number
  number-left true = refl
  number-left false = refl

  pub root-left : (all : Bool) → (left_by all).files.tree.root ≡ filesystem.files.tree.root
  root-left true = refl
  root-left false = refl

  pub overlay-left : (all : Bool) → is_overlay (left_by all) ≡ is_overlay filesystem
  overlay-left true = refl
  overlay-left false = grind (arith, common_steps)

  pub layers-left : (all : Bool) → of_overlay [] layers_of (left_by all) ≡ of_overlay [] layers_of filesystem
  layers-left true = refl
  layers-left false = grind (arith, common_steps)

  pub upper-left : (number : ℕ) (all : Bool) → has_upper_in number (left_by all) ≡ has_upper_in number filesystem
  upper-left number true = refl
  upper-left number false = grind (arith, common_steps)

  -- an inode that is used no more has no entries
  abbrev pub UnusedAreEmpty : Type 0
  UnusedAreEmpty = (number : ℕ) → is_among nat_eq number used ≡ false
      → targets_in (filesystem.files.tree.node number) ≡ []

  -- so the names stay
  pub named-left : UnusedAreEmpty → (all : Bool) → named_in (left_by all).files ≡ named_in filesystem.files
  named-left empty true = refl
  named-left empty false = grind (arith, common_steps, flat_map_alike, flat_map-filter)

  -- and each number that is left is used
  pub numbers-left : (all : Bool) → list_all (λ number. is_among nat_eq number used) filesystem.files.numbers ≡ all
      → list_all (λ number. is_among nat_eq number used) (left_by all).files.numbers ≡ true
  numbers-left true e = e
  numbers-left false e = list_all_from_among (λ number. is_among nat_eq number used)
      (filter (λ number. is_among nat_eq number used) filesystem.files.numbers)
      (λ x m. (among-from_filter (λ number. is_among nat_eq number used) filesystem.files.numbers x m).1)

-- In a tree, what a world uses is empty if it is unused
pub unused_are_empty : (world : World ℕ) (filesystem : Filesystem ℕ) → IsListedTree filesystem.files
    → UnusedAreEmpty (used_in nat_eq world filesystem) filesystem
unused_are_empty world filesystem conditions number unused =
    grind (arith, common_steps, or_parts, unnamed_is_empty, true≢false, eq-eqb, or_right, is_among_left, cases_Bool)

-- a place that is there is in use
pub used_at : (world : World ℕ) (filesystem : Filesystem ℕ) (location : Location ℕ) → Among location
    (all_locations world ++ map root_of world.mounts ++ filter_map (λ mount. mount.mount_point) world.mounts)
    → filesystem.number ≡ (mount_at nat_eq world location).filesystem
    → is_inode_used world filesystem location.node ≡ true
used_at world filesystem location m e = or_right (nat_eq location.node filesystem.files.tree.root) _
    (is_among_left location.node (named_in filesystem.files ++ located_in nat_eq world filesystem.number
    ++ layers_in nat_eq world filesystem.number)
    (flat_map (objects_of_overlay nat_eq filesystem.number) world.filesystems)
    (is_among_left location.node (named_in filesystem.files ++ located_in nat_eq world filesystem.number)
    (layers_in nat_eq world filesystem.number)
    (is_among_right location.node (named_in filesystem.files) (located_in nat_eq world filesystem.number)
    (is_among_numbers location.node (located_in nat_eq world filesystem.number) (among-map (λ l. l.node) (filter
    (λ l. nat_eq filesystem.number (mount_at nat_eq world l).filesystem) places) location
    (among-filter (λ l. nat_eq filesystem.number (mount_at nat_eq world l).filesystem) places location m
    (eq-eqb filesystem.number (mount_at nat_eq world location).filesystem e)))))))
  where
    places : List (Location ℕ)
    places = all_locations world ++ map root_of world.mounts ++ filter_map (λ mount. mount.mount_point) world.mounts

-- layers of filesystems that are there still are layers still
pub layers_stay : (before after : World ℕ)
    → ((f : Filesystem ℕ) → Among f before.filesystems → (g : Filesystem ℕ) × Among g after.filesystems
    × (of_overlay [] layers_of g ≡ of_overlay [] layers_of f))
    → (filesystem number : ℕ) → Among number (layers_in nat_eq before filesystem)
    → Among number (layers_in nat_eq after filesystem)
layers_stay before after still filesystem number m =
    let one = among-from_map (λ (layer : Layer ℕ). layer.directory)
    (filter is_in (flat_map (of_overlay [] layers_of) before.filesystems)) number m in
    let two = among-from_filter is_in (flat_map (of_overlay [] layers_of) before.filesystems) one.0 one.1 in
    let three = among-from_flat_map (of_overlay [] layers_of) before.filesystems one.0 two.0 in
    subst (λ n. Among n (layers_in nat_eq after filesystem)) (sym one.2)
    (among-map (λ (layer : Layer ℕ). layer.directory)
    (filter is_in (flat_map (of_overlay [] layers_of) after.filesystems)) one.0
    (among-filter is_in (flat_map (of_overlay [] layers_of) after.filesystems) one.0
    (is_layer three.0 one.0 three.2 (still three.0 three.1)) two.1))
  where
    is_layer : (f : Filesystem ℕ) (layer : Layer ℕ) → Among layer (of_overlay [] layers_of f)
        → ((g : Filesystem ℕ) × Among g after.filesystems × (of_overlay [] layers_of g ≡ of_overlay [] layers_of f))
        → Among layer (flat_map (of_overlay [] layers_of) after.filesystems)
    is_layer f layer among same = among-flat_map (of_overlay [] layers_of) after.filesystems same.0 layer same.1
        (subst (Among layer) (sym same.2) among)

    is_in : Layer ℕ → Bool
    is_in layer = nat_eq filesystem layer.filesystem

module _ (world : World ℕ) where
  abbrev mounted : World ℕ
  mounted = without_dead_mounts nat_eq world

  abbrev living : World ℕ
  living = without_dead_filesystems nat_eq mounted

  -- first the inodes of overlays go, then those of plain trees
  abbrev first : World ℕ
  first = without_dead_in nat_eq is_overlay living

  abbrev pub after_first : Filesystem ℕ → Filesystem ℕ
  after_first filesystem = only_used nat_eq living (is_overlay filesystem) filesystem

  abbrev pub after_second : Filesystem ℕ → Filesystem ℕ
  after_second filesystem = only_used nat_eq first (not (is_overlay filesystem)) filesystem

  pub number-first : (filesystem : Filesystem ℕ) → (after_first filesystem).number ≡ filesystem.number
  number-first filesystem = grind (arith, common_steps, number-left)

  pub number-second : (filesystem : Filesystem ℕ) → (after_second filesystem).number ≡ filesystem.number
  number-second filesystem = grind (arith, common_steps, number-left)

  pub layers-first : (filesystem : Filesystem ℕ)
      → of_overlay [] layers_of (after_first filesystem) ≡ of_overlay [] layers_of filesystem
  layers-first filesystem = grind (arith, common_steps, layers-left)

  pub layers-second : (filesystem : Filesystem ℕ)
      → of_overlay [] layers_of (after_second filesystem) ≡ of_overlay [] layers_of filesystem
  layers-second filesystem = grind (arith, common_steps, layers-left)

  same_layers : (number : ℕ) → layers_in nat_eq (settled nat_eq world) number ≡ layers_in nat_eq living number
  same_layers number =
      ap (λ layers. map (λ layer. layer.directory) (filter (λ layer. nat_eq number layer.filesystem) layers))
      (flat_map-map after_second (of_overlay [] layers_of) first.filesystems layers-second
      ∙ flat_map-map after_first (of_overlay [] layers_of) living.filesystems layers-first)

  pub first_layers : (number : ℕ) → layers_in nat_eq first number ≡ layers_in nat_eq living number
  first_layers number =
      ap (λ layers. map (λ layer. layer.directory) (filter (λ layer. nat_eq number layer.filesystem) layers))
      (flat_map-map after_first (of_overlay [] layers_of) living.filesystems layers-first)

  -- the second round leaves overlays
  pub second_leaves : (filesystem : Filesystem ℕ) → is_overlay filesystem ≡ true → after_second filesystem ≡ filesystem
  second_leaves filesystem e = ap (λ b. only_used nat_eq first (not b) filesystem) e

  -- a plain tree has no objects
  pub no_objects : (number : ℕ) (filesystem : Filesystem ℕ) → is_overlay filesystem ≡ false
      → objects_of_overlay nat_eq number filesystem ≡ []
  no_objects number filesystem e = grind (arith, common_steps, true≢false)

  objects_after_second : (number : ℕ) (filesystem : Filesystem ℕ)
      → objects_of_overlay nat_eq number (after_second filesystem) ≡ objects_of_overlay nat_eq number filesystem
  objects_after_second number filesystem =
      grind (arith, common_steps, second_leaves, no_objects, overlay-left, cases_Bool)

  same_objects : (number : ℕ) → flat_map (objects_of_overlay nat_eq number) (settled nat_eq world).filesystems
      ≡ flat_map (objects_of_overlay nat_eq number) first.filesystems
  same_objects number = flat_map-map after_second (objects_of_overlay nat_eq number) first.filesystems
      (objects_after_second number)

  abbrev used_of : ℕ → List ℕ → List ℕ → List ℕ → List ℕ → List ℕ
  used_of root named located layers objects = root ∷ (named ++ located ++ layers ++ objects)

  -- Overlays
  overlays_used : (filesystem : Filesystem ℕ) → IsListedTree filesystem.files → is_overlay filesystem ≡ true
      → flat_map (objects_of_overlay nat_eq filesystem.number) living.filesystems ≡ []
      → list_all (is_inode_used (settled nat_eq world) (after_second (after_first filesystem)))
      (after_second (after_first filesystem)).files.numbers ≡ true
  overlays_used filesystem conditions e plain =
      ap (λ f. list_all (is_inode_used (settled nat_eq world) f) f.files.numbers)
      (second_leaves (after_first filesystem) (ap (λ b. is_overlay (only_used nat_eq living b filesystem)) e
      ∙ overlay-left used filesystem _ ∙ e) ∙ ap (λ b. only_used nat_eq living b filesystem) e)
      ∙ by (list_all (λ number. is_among nat_eq number used) filesystem.files.numbers) refl
    where
      used : List ℕ
      used = used_in nat_eq living filesystem

      same : (all : Bool) → used_in nat_eq (settled nat_eq world) (left_by used filesystem all)
          ≡ used_of filesystem.files.tree.root (named_in filesystem.files) (located_in nat_eq living filesystem.number)
          (layers_in nat_eq living filesystem.number)
          (flat_map (objects_of_overlay nat_eq (left_by used filesystem all).number) (settled nat_eq world).filesystems)
      same all = λ i. used_of (root-left used filesystem all i)
          (named-left used filesystem (unused_are_empty living filesystem conditions) all i)
          (located_in nat_eq living (number-left used filesystem all i))
          ((same_layers (left_by used filesystem all).number
          ∙ ap (layers_in nat_eq living) (number-left used filesystem all)) i)
          (flat_map (objects_of_overlay nat_eq (left_by used filesystem all).number) (settled nat_eq world).filesystems)

      still : (all : Bool) (number : ℕ) → is_among nat_eq number used ≡ true
          → is_among nat_eq number (used_in nat_eq (settled nat_eq world) (left_by used filesystem all)) ≡ true
      still all number is = grind (arith, common_steps, same all)

      by : (all : Bool) → list_all (λ number. is_among nat_eq number used) filesystem.files.numbers ≡ all
          → list_all (is_inode_used (settled nat_eq world) (left_by used filesystem all))
          (left_by used filesystem all).files.numbers ≡ true
      by all f = list_all_from_among (is_inode_used (settled nat_eq world) (left_by used filesystem all))
          (left_by used filesystem all).files.numbers (λ number m. still all number
          (among_from_list_all (λ n. is_among nat_eq n used) (left_by used filesystem all).files.numbers
          (numbers-left used filesystem all f) number m))

  -- Plain trees
  plain_used : (filesystem : Filesystem ℕ) → IsListedTree filesystem.files → is_overlay filesystem ≡ false
      → list_all (is_inode_used (settled nat_eq world) (after_second (after_first filesystem)))
      (after_second (after_first filesystem)).files.numbers ≡ true
  plain_used filesystem conditions e = ap (λ f. list_all (is_inode_used (settled nat_eq world) f) f.files.numbers)
      (ap after_second (ap (λ b. only_used nat_eq living b filesystem) e)
      ∙ ap (λ b. only_used nat_eq first (not b) filesystem) e)
      ∙ by (list_all (λ number. is_among nat_eq number used) filesystem.files.numbers) refl
    where
      used : List ℕ
      used = used_in nat_eq first filesystem

      same : (all : Bool) → used_in nat_eq (settled nat_eq world) (left_by used filesystem all) ≡ used
      same all = λ i. used_of (root-left used filesystem all i)
          (named-left used filesystem (unused_are_empty first filesystem conditions) all i)
          (located_in nat_eq living (number-left used filesystem all i))
          ((same_layers (left_by used filesystem all).number ∙ sym (first_layers (left_by used filesystem all).number)
          ∙ ap (layers_in nat_eq first) (number-left used filesystem all)) i)
          ((same_objects (left_by used filesystem all).number
          ∙ ap (λ n. flat_map (objects_of_overlay nat_eq n) first.filesystems) (number-left used filesystem all)) i)

      by : (all : Bool) → list_all (λ number. is_among nat_eq number used) filesystem.files.numbers ≡ all
          → list_all (is_inode_used (settled nat_eq world) (left_by used filesystem all))
          (left_by used filesystem all).files.numbers ≡ true
      by all f =
          ap (λ u. list_all (λ number. is_among nat_eq number u) (left_by used filesystem all).files.numbers) (same all)
          ∙ numbers-left used filesystem all f

  -- a filesystem that is left was there, and lived
  was_there : (last : Filesystem ℕ) → Among last (settled nat_eq world).filesystems
      → (filesystem : Filesystem ℕ) × Among filesystem world.filesystems
      × (filesystem_lives nat_eq mounted filesystem ≡ true) × (last ≡ after_second (after_first filesystem))
  was_there last m =
      let second = among-from_map _ _ last m in
      let one = among-from_map _ _ _ second.1 in
      let was = among-from_filter _ _ one.0 one.1 in
      (one.0, was.0, was.1, second.2 ∙ ap after_second one.2)

  pub layers_on : (number : ℕ) (filesystem : Filesystem ℕ) → has_layer_on nat_eq number filesystem
      ≡ list_any (λ layer. nat_eq number layer.filesystem) (of_overlay [] layers_of filesystem)
  layers_on number filesystem = grind (arith, common_steps)

  still_lives : (filesystem : Filesystem ℕ) → filesystem_lives nat_eq mounted filesystem ≡ true
      → filesystem_lives nat_eq (settled nat_eq world) (after_second (after_first filesystem)) ≡ true
  still_lives filesystem lives =
      ap (λ n. is_mounted nat_eq mounted n || list_any (λ merged. has_layer_on nat_eq n merged
      && is_mounted nat_eq mounted merged.number) (settled nat_eq world).filesystems)
      (number-second (after_first filesystem) ∙ number-first filesystem) ∙ ⊎_elim
      (λ here. or_left (is_mounted nat_eq mounted filesystem.number) _ here)
      (λ layered. or_right (is_mounted nat_eq mounted filesystem.number) _ (by_overlay layered))
      (or_cases (is_mounted nat_eq mounted filesystem.number) _ lives)
    where
      by_overlay : list_any (λ merged. has_layer_on nat_eq filesystem.number merged
          && is_mounted nat_eq mounted merged.number) world.filesystems ≡ true
          → list_any (λ merged. has_layer_on nat_eq filesystem.number merged && is_mounted nat_eq mounted merged.number)
          (settled nat_eq world).filesystems ≡ true
      by_overlay layered =
          let t = any_among (λ merged. has_layer_on nat_eq filesystem.number merged
          && is_mounted nat_eq mounted merged.number) world.filesystems layered in
          let parts = and_parts (has_layer_on nat_eq filesystem.number t.0)
          (is_mounted nat_eq mounted t.0.number) t.2 in
          any_from_among
          (λ merged. has_layer_on nat_eq filesystem.number merged && is_mounted nat_eq mounted merged.number)
          (settled nat_eq world).filesystems (after_second (after_first t.0))
          (among-map after_second first.filesystems (after_first t.0) (among-map after_first living.filesystems t.0
          (among-filter (filesystem_lives nat_eq mounted) world.filesystems t.0 t.1
          (or_left (is_mounted nat_eq mounted t.0.number) _ parts.1))))
          (ap (λ b. b && is_mounted nat_eq mounted (after_second (after_first t.0)).number)
          (layers_on filesystem.number (after_second (after_first t.0))
          ∙ ap (list_any (λ layer. nat_eq filesystem.number layer.filesystem))
          (layers-second (after_first t.0) ∙ layers-first t.0) ∙ sym (layers_on filesystem.number t.0) ∙ parts.0)
          ∙ ap (is_mounted nat_eq mounted) (number-second (after_first t.0) ∙ number-first t.0) ∙ parts.1)

  -- an overlay that has no upper layer there has no objects there
  pub no_upper_objects : (number : ℕ) (merged : Filesystem ℕ) → has_upper_in number merged ≡ false
      → objects_of_overlay nat_eq number merged ≡ []
  no_upper_objects number merged e = grind (arith, common_steps)

  pub left_in_use : HasTrees world → UppersArePlain world → AllInUse (settled nat_eq world)
  left_in_use trees plain = record {
    mounts = list_all_from_among (mount_lives nat_eq world) mounted.mounts
        (λ mount m. (among-from_filter (mount_lives nat_eq world) world.mounts mount m).1);
    filesystems = list_all_from_among (filesystem_lives nat_eq (settled nat_eq world))
        (settled nat_eq world).filesystems
        (λ last m. let was = was_there last m in ap (filesystem_lives nat_eq (settled nat_eq world)) was.3
        ∙ still_lives was.0 was.2);
    inodes = all_from_among (λ f. list_all (is_inode_used (settled nat_eq world) f) f.files.numbers ≡ true)
        (settled nat_eq world).filesystems (λ last m. let was = was_there last m in
        let tree = among_from_all (λ f. IsListedTree f.files) world.filesystems trees was.0 was.1 in
        ap (λ f. list_all (is_inode_used (settled nat_eq world) f) f.files.numbers) was.3 ∙ ⊎_elim
        (λ e. overlays_used was.0 tree e (flat_map_none (objects_of_overlay nat_eq was.0.number) living.filesystems
        (λ merged n. no_upper_objects was.0.number merged
        (among_from_all (λ f. has_upper_in was.0.number f ≡ false) world.filesystems
        (among_from_all (λ f. is_overlay f ≡ true → All (λ other. has_upper_in f.number other
        ≡ false) world.filesystems) world.filesystems plain was.0 was.1 e)
        merged (among-from_filter (filesystem_lives nat_eq mounted) world.filesystems merged n).0))))
        (λ e. plain_used was.0 tree e) (cases_Bool (is_overlay was.0)));
    groups = λ group none. ap (λ b. cond b (world.master group) None) none;
  }

pub what_is_left_is_in_use : WhatIsLeftIsInUse
what_is_left_is_in_use world trees plain = left_in_use world trees plain

pub one_sweep_is_enough : OneSweepIsEnough
one_sweep_is_enough world trees plain = nothing_goes (settled nat_eq world) (left_in_use world trees plain)
