-- What has a name, and what a task is at, stays where what nothing uses goes.
use Rattle.std.proofs.Common.{arith, eqb-true, ◌≡◌, refl, sym, ap, subst, ◌∙◌, true≢false, ℕ, nat_eq, eq-eqb, Bool, true, false, cond, List, [], ◌∷◌, ◌++◌, map, ◌&&◌, ◌||◌, ⊎_elim, Some, None, is_some, filter_map, unwrap_or, filter, find}
use Rattle.vt_spec.proofs.Common.{All-filter, Filesystem, HasName, Location, Mount, World, all_locations, and_parts, common_steps, entry_at, filesystem_numbered, has_layer_on, is_among, is_located, is_mounted, is_overlay, list_any, list_any-append, located_in, mount_at, mount_in, mount_lives, no_filesystem, no_mount, node_at, none_is_not, number-only_used, only_used, or_right, root_of, same_location, same_location_is, settled, used_in, without_dead_filesystems, without_dead_in, without_dead_mounts}
use Rattle.vt_laws_trees.specs.Trees.{IsFileTree}
use Rattle.vt_laws_trees.specs.Trees.Settling.{HasFileTrees, HoldsTree, LocatedStays, NamedStays}
use Rattle.vt_laws_trees.proofs.trees.TreesForgotten.{among_located, entry_used, named_is_used, used_stays, without_dead_in_is}
use Rattle.vt_laws_trees.proofs.trees.TreesOfWorlds.{number_numbered, numbered, numbered_all}

-- A filesystem of a shorter list, where those of its number stay
filtered : (stays : ℕ → Bool) (number : ℕ) (list : List (Filesystem ℕ)) → stays number ≡ true
    → numbered number (filter (λ f. stays f.number) list) ≡ numbered number list
filtered stays number [] h = refl
filtered stays number (filesystem ∷ list) h =
    grind (arith, common_steps, numbered, true≢false, eqb-true, filtered stays number list h)

-- a mount of a shorter list, where those of its number stay
filtered_mount : (stays : Mount ℕ → Bool) (number : ℕ) (list : List (Mount ℕ))
    → ((mount : Mount ℕ) → mount.number ≡ number → stays mount ≡ true)
    → mount_in nat_eq (filter stays list) number ≡ mount_in nat_eq list number
filtered_mount stays number [] h = refl
filtered_mount stays number (mount ∷ list) h =
    grind (arith, common_steps, true≢false, eqb-true, filtered_mount stays number list h)

-- a filesystem of a list of which each was changed, but not its number
mapped_node : (change : Filesystem ℕ → Filesystem ℕ) → ((f : Filesystem ℕ) → (change f).number ≡ f.number)
    → (number object : ℕ) (list : List (Filesystem ℕ))
    → (change (numbered number list)).files.tree.node object ≡ (numbered number list).files.tree.node object
    → (numbered number (map change list)).files.tree.node object ≡ (numbered number list).files.tree.node object
mapped_node change same number object [] h = refl
mapped_node change same number object (filesystem ∷ list) h =
    cc (same filesystem, by (nat_eq number filesystem.number) h (λ g. mapped_node change same number object list g))
  where
    by : (b : Bool) → (change (unwrap_or (cond b (Some filesystem) (find (λ f. nat_eq number f.number) list))
        (no_filesystem number))).files.tree.node object
        ≡ (unwrap_or (cond b (Some filesystem) (find (λ f. nat_eq number f.number) list))
        (no_filesystem number)).files.tree.node object
        → ((change (numbered number list)).files.tree.node object ≡ (numbered number list).files.tree.node object
        → (numbered number (map change list)).files.tree.node object ≡ (numbered number list).files.tree.node object)
        → (unwrap_or (cond b (Some (change filesystem)) (find (λ f. nat_eq number f.number) (map change list)))
        (no_filesystem number)).files.tree.node object
        ≡ (unwrap_or (cond b (Some filesystem) (find (λ f. nat_eq number f.number) list))
        (no_filesystem number)).files.tree.node object
    by true g rest = g
    by false g rest = rest g

-- a round of forgetting leaves a used inode
module _ (chosen : Filesystem ℕ → Bool) (world : World ℕ) (number object : ℕ) where
  round_keeps : is_among nat_eq object (used_in nat_eq world (filesystem_numbered nat_eq world number)) ≡ true
      → (filesystem_numbered nat_eq (without_dead_in nat_eq chosen world) number).files.tree.node object ≡
      (filesystem_numbered nat_eq world number).files.tree.node object
  round_keeps used = mapped_node _ (λ f. number-only_used world (chosen f) f) number object world.filesystems (by _)
    where
      by : (b : Bool) → (only_used nat_eq world b (numbered number world.filesystems)).files.tree.node object ≡
          (numbered number world.filesystems).files.tree.node object
      by true = used_stays world (numbered number world.filesystems) object used
      by false = refl

-- a filesystem lives by its number
module _ (world : World ℕ) where
  abbrev mounted_world : World ℕ
  mounted_world = without_dead_mounts nat_eq world

  abbrev living : World ℕ
  living = without_dead_filesystems nat_eq mounted_world

  abbrev first_round : World ℕ
  first_round = without_dead_in nat_eq is_overlay living

  abbrev stays_by_number : ℕ → Bool
  stays_by_number number = is_mounted nat_eq mounted_world number
      || list_any (λ merged. has_layer_on nat_eq number merged
      && is_mounted nat_eq mounted_world merged.number) mounted_world.filesystems

  living_numbered : (number : ℕ) → is_mounted nat_eq mounted_world number ≡ true
      → filesystem_numbered nat_eq living number ≡ filesystem_numbered nat_eq world number
  living_numbered number mounted = filtered stays_by_number number world.filesystems (ap (λ b. b || list_any
      (λ merged. has_layer_on nat_eq number merged
      && is_mounted nat_eq mounted_world merged.number) mounted_world.filesystems) mounted)

  -- a used inode stays through both rounds
  both_rounds : (number object : ℕ) → is_mounted nat_eq mounted_world number ≡ true
      → is_among nat_eq object (used_in nat_eq living (filesystem_numbered nat_eq living number)) ≡ true
      → is_among nat_eq object (used_in nat_eq first_round (filesystem_numbered nat_eq first_round number)) ≡ true
      → (filesystem_numbered nat_eq (settled nat_eq world) number).files.tree.node object ≡
      (filesystem_numbered nat_eq world number).files.tree.node object
  both_rounds number object mounted first second = round_keeps _ first_round number object second ∙ round_keeps _
      living number object first ∙ ap (λ (f : Filesystem ℕ). f.files.tree.node object) (living_numbered number mounted)

  -- Names
  named_stays_there : HasFileTrees living → (number object : ℕ) → is_mounted nat_eq mounted_world number ≡ true
      → HasName (filesystem_numbered nat_eq living number).files.tree object
      → IsFileTree (filesystem_numbered nat_eq living number).files
      → (filesystem_numbered nat_eq (settled nat_eq world) number).files.tree.node object ≡
      (filesystem_numbered nat_eq world number).files.tree.node object
  named_stays_there trees number object mounted named tree =
      both_rounds number object mounted (used_first.named object named) used_second
    where
      used_first : HoldsTree (used_in nat_eq living (filesystem_numbered nat_eq living number))
          (filesystem_numbered nat_eq living number).files
      used_first = named_is_used living (filesystem_numbered nat_eq living number) tree

      -- the directory of the name is used too, so the name is still there after the first round
      directory_stays : (filesystem_numbered nat_eq first_round number).files.tree.node named.0 ≡
          (filesystem_numbered nat_eq living number).files.tree.node named.0
      directory_stays = round_keeps is_overlay living number named.0
          (entry_used (used_in nat_eq living (filesystem_numbered nat_eq living number))
          (filesystem_numbered nat_eq living number).files used_first tree named.0 named.1 object named.2)

      named_second : HasName (filesystem_numbered nat_eq first_round number).files.tree object
      named_second = (named.0, named.1, cc (directory_stays, named.2))

      used_second : is_among nat_eq object (used_in nat_eq first_round (filesystem_numbered nat_eq first_round number))
          ≡ true
      used_second = ⊎_elim (λ is. (named_is_used first_round (filesystem_numbered nat_eq first_round number) is).named
          object named_second) (λ missing. none_is_not None object refl (ap
          (λ (f : Filesystem ℕ). entry_at f.files.tree named_second.0 named_second.1) (sym missing.0) ∙ named_second.2))
          (numbered_all (λ f. IsFileTree f.files) number _ (without_dead_in_is is_overlay living trees))

pub named_stays : NamedStays
named_stays world number object trees mounted named = ⊎_elim
    (λ is. named_stays_there world living_trees number object mounted named_living
    (subst (λ (f : Filesystem ℕ). IsFileTree f.files) (sym same) is)) (λ missing. none_is_not None object refl
    (ap (λ (f : Filesystem ℕ). entry_at f.files.tree named.0 named.1) (sym missing.0) ∙ named.2))
    (numbered_all (λ f. IsFileTree f.files) number world.filesystems trees)
  where
    same : filesystem_numbered nat_eq (living world) number ≡ filesystem_numbered nat_eq world number
    same = living_numbered world number mounted

    named_living : HasName (filesystem_numbered nat_eq (living world) number).files.tree object
    named_living = subst (λ (f : Filesystem ℕ). HasName f.files.tree object) (sym same) named

    living_trees : HasFileTrees (living world)
    living_trees = All-filter _ (λ f. IsFileTree f.files) world.filesystems trees

-- Locations
listed_node : (test : Location ℕ → Bool) (list : List (Location ℕ)) (location : Location ℕ)
    → list_any (same_location nat_eq location) list ≡ true → test location ≡ true
    → is_among nat_eq location.node (map (λ l. l.node) (filter test list)) ≡ true
listed_node test [] location h t = cc
listed_node test (first ∷ list) location h t = by _ refl (test first) refl h (λ g. listed_node test list location g t)
  where
    by : (b : Bool) → same_location nat_eq location first ≡ b → (c : Bool) → test first ≡ c
        → (b || list_any (same_location nat_eq location) list) ≡ true
        → (list_any (same_location nat_eq location) list ≡ true
        → is_among nat_eq location.node (map (λ l. l.node) (filter test list)) ≡ true)
        → is_among nat_eq location.node (map (λ l. l.node) (cond c (first ∷ filter test list) (filter test list)))
        ≡ true
    by b e c d g rest = grind (arith, common_steps, eq-eqb, same_location_is, true≢false, or_right)

-- its mount is located
located_mount : (list : List (Location ℕ)) (location : Location ℕ)
    → list_any (same_location nat_eq location) list ≡ true → list_any (λ l. nat_eq location.mount l.mount) list ≡ true
located_mount [] location h = cc
located_mount (first ∷ list) location h = by _ refl h (λ g. located_mount list location g)
  where
    by : (b : Bool) → same_location nat_eq location first ≡ b
        → (b || list_any (same_location nat_eq location) list) ≡ true
        → (list_any (same_location nat_eq location) list ≡ true
        → list_any (λ l. nat_eq location.mount l.mount) list ≡ true)
        → (nat_eq location.mount first.mount || list_any (λ l. nat_eq location.mount l.mount) list) ≡ true
    by true e g rest = ap (λ b. b || list_any (λ l. nat_eq location.mount l.mount) list)
        ((and_parts (nat_eq location.mount first.mount) (nat_eq location.node first.node) e).0)
    by false e g rest = or_right (nat_eq location.mount first.mount) _ (rest g)

-- a listed mount's filesystem is mounted
listed_mounts : (list : List (Mount ℕ)) (number : ℕ) → is_among nat_eq number (map (λ m. m.number) list) ≡ true
    → list_any (λ m. nat_eq (mount_in nat_eq list number).filesystem m.filesystem) list ≡ true
listed_mounts [] number h = cc
listed_mounts (mount ∷ list) number h = by (nat_eq number mount.number) h (λ g. listed_mounts list number g)
  where
    by : (b : Bool) → (b || is_among nat_eq number (map (λ m. m.number) list)) ≡ true
        → (is_among nat_eq number (map (λ m. m.number) list) ≡ true
        → list_any (λ m. nat_eq (mount_in nat_eq list number).filesystem m.filesystem) list ≡ true)
        → (nat_eq (unwrap_or (cond b (Some mount) (find (λ m. nat_eq number m.number) list))
        (no_mount number)).filesystem mount.filesystem || list_any (λ m. nat_eq
        (unwrap_or (cond b (Some mount) (find (λ m. nat_eq number m.number) list))
        (no_mount number)).filesystem m.filesystem) list) ≡ true
    by true g rest = ap (λ b. b || list_any (λ m. nat_eq mount.filesystem m.filesystem) list)
        (eq-eqb mount.filesystem mount.filesystem refl)
    by false g rest = or_right (nat_eq (mount_in nat_eq list number).filesystem mount.filesystem) _ (rest g)

still_listed : (stays : Mount ℕ → Bool) (list : List (Mount ℕ)) (number : ℕ)
    → ((mount : Mount ℕ) → mount.number ≡ number → stays mount ≡ true)
    → is_among nat_eq number (map (λ m. m.number) list) ≡ true
    → is_among nat_eq number (map (λ m. m.number) (filter stays list)) ≡ true
still_listed stays [] number h g = g
still_listed stays (mount ∷ list) number h g = by _ refl (stays mount) refl g (λ k. still_listed stays list number h k)
  where
    by : (b : Bool) → nat_eq number mount.number ≡ b → (c : Bool) → stays mount ≡ c
        → (b || is_among nat_eq number (map (λ m. m.number) list)) ≡ true
        → (is_among nat_eq number (map (λ m. m.number) list) ≡ true
        → is_among nat_eq number (map (λ m. m.number) (filter stays list)) ≡ true)
        → is_among nat_eq number (map (λ m. m.number) (cond c (mount ∷ filter stays list) (filter stays list))) ≡ true
    by b e c d k rest = grind (arith, common_steps, true≢false, eqb-true, or_right)

module _ (world : World ℕ) (location : Location ℕ)
    (located : list_any (same_location nat_eq location) (all_locations world) ≡ true)
    (listed : is_among nat_eq location.mount (map (λ m. m.number) world.mounts) ≡ true) where
  mount_stays : (mount : Mount ℕ) → mount.number ≡ location.mount → mount_lives nat_eq world mount ≡ true
  mount_stays mount same = or_right (is_some mount.namespace) (is_located nat_eq world mount.number)
      (ap (is_located nat_eq world) same ∙ located_mount (all_locations world) location located)

  abbrev shown_filesystem : ℕ
  shown_filesystem = (mount_at nat_eq (mounted_world world) location).filesystem

  same_shown : shown_filesystem ≡ (mount_at nat_eq world location).filesystem
  same_shown = ap (λ (m : Mount ℕ). m.filesystem) (filtered_mount _ location.mount world.mounts mount_stays)

  shown_mounted : is_mounted nat_eq (mounted_world world) shown_filesystem ≡ true
  shown_mounted = listed_mounts (filter (mount_lives nat_eq world) world.mounts) location.mount
      (still_listed (mount_lives nat_eq world) world.mounts location.mount mount_stays listed)

  -- what it is at is used, in a world with these mounts and tasks
  located_used : (filesystems : List (Filesystem ℕ)) → is_among nat_eq location.node
      (used_in nat_eq (record (mounted_world world) { filesystems = filesystems })
      (numbered shown_filesystem filesystems)) ≡ true
  located_used filesystems = among_located (record (mounted_world world) { filesystems = filesystems })
      (numbered shown_filesystem filesystems) location.node (ap (λ n. is_among nat_eq location.node
      (located_in nat_eq (record (mounted_world world) { filesystems = filesystems }) n))
      (number_numbered shown_filesystem filesystems)
      ∙ listed_node (λ l. nat_eq shown_filesystem (mount_at nat_eq (mounted_world world) l).filesystem)
      (all_locations world ++ map root_of (mounted_world world).mounts ++ filter_map (λ mount. mount.mount_point)
      (mounted_world world).mounts) location
      (list_any-append (same_location nat_eq location) (all_locations world ++ map root_of (mounted_world world).mounts)
      (filter_map (λ mount. mount.mount_point) (mounted_world world).mounts) ∙ ap (λ b. b
      || list_any (same_location nat_eq location)
      (filter_map (λ mount. mount.mount_point) (mounted_world world).mounts))
      (list_any-append (same_location nat_eq location) (all_locations world) (map root_of (mounted_world world).mounts)
      ∙ ap (λ b. b || list_any (same_location nat_eq location) (map root_of (mounted_world world).mounts)) located))
      (eq-eqb shown_filesystem shown_filesystem refl))

  located_stays_there : node_at nat_eq (settled nat_eq world) location ≡ node_at nat_eq world location
  located_stays_there = both_rounds world shown_filesystem location.node shown_mounted (located_used _) (located_used _)
      ∙ ap (λ n. (filesystem_numbered nat_eq world n).files.tree.node location.node) same_shown

pub located_stays : LocatedStays
located_stays world location located listed = located_stays_there world location located listed
