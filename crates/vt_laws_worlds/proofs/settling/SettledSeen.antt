-- What is seen where tasks are, at the roots of mounts and at their places stays where what nothing uses goes.
use Rattle.std.proofs.Common.{arith, ◌≡◌, refl, ap, ◌∙◌, ℕ, nat_eq, eqb-true, eq-eqb, Bool, true, false, not, List, [], ◌∷◌, ◌++◌, find, map, filter, is_some, true≢false, filter_map, unwrap_or}
use Rattle.vt_spec.proofs.Common.{Filesystem, Location, Mount, World, all_locations, common_steps, filesystem_lives, filesystem_numbered, is_among, is_mounted, is_overlay, located_in, map_twice, mount_at, mount_lives, mount_numbered, no_filesystem, node_at, only_used, root_of, settled, without_dead_filesystems, without_dead_in, without_dead_mounts}
use Rattle.vt_laws_mounts.proofs.letting_go.Lists.{Among, among-filter, among-map, among_from_list_all, any_from_among, is_among_numbers, or_left, or_right}
use Rattle.vt_laws_mounts.proofs.letting_go.leaving.PlacesLeft.{found_in_filter, found_itself, nowhere_parts}
use Rattle.vt_laws_trees.proofs.trees.TreesForgotten.{among_located, used_stays}
use Rattle.vt_laws_worlds.specs.Worlds.Kept.{IsUnderWay}
pub use Rattle.vt_spec.proofs.Worlds.{number-only_used}

-- an inode of a filesystem by its number, where those of the number stay and keep it
node_kept : (stays : Filesystem ℕ → Bool) (change : Filesystem ℕ → Filesystem ℕ)
    → ((f : Filesystem ℕ) → (change f).number ≡ f.number) → (number object : ℕ) (list : List (Filesystem ℕ))
    → ((f : Filesystem ℕ) → f.number ≡ number → stays f ≡ true)
    → ((f : Filesystem ℕ) → f.number ≡ number → (change f).files.tree.node object ≡ f.files.tree.node object)
    → (unwrap_or (find (λ f. nat_eq number f.number) (map change (filter stays list)))
    (no_filesystem number)).files.tree.node object
    ≡ (unwrap_or (find (λ f. nat_eq number f.number) list) (no_filesystem number)).files.tree.node object
node_kept stays change same number object [] stay keep = refl
node_kept stays change same number object (filesystem ∷ list) stay keep = grind (
  arith,
  common_steps,
  stays filesystem,
  node_kept stays change same number object list stay keep,
  eqb-true,
  true≢false,
)

located_kept : (world : World ℕ) (chosen : Bool) (filesystem : Filesystem ℕ) (object : ℕ)
    → is_among nat_eq object (located_in nat_eq world filesystem.number) ≡ true
    → (only_used nat_eq world chosen filesystem).files.tree.node object ≡ filesystem.files.tree.node object
located_kept world true filesystem object is =
    used_stays world filesystem object (among_located world filesystem object is)
located_kept world false filesystem object is = refl

module _ (world : World ℕ) (unsettled : IsUnderWay world) where
  abbrev mounted : World ℕ
  mounted = without_dead_mounts nat_eq world

  abbrev living : World ℕ
  living = without_dead_filesystems nat_eq mounted

  abbrev first_round : World ℕ
  first_round = without_dead_in nat_eq is_overlay living

  abbrev pub settled_world : World ℕ
  settled_world = settled nat_eq world

  -- Mounts
  pub itself : (mount : Mount ℕ) → Among mount world.mounts → mount_numbered nat_eq world mount.number ≡ mount
  itself mount m = found_itself _ unsettled.mounts.one_number mount m

  -- a mount that lives is found as it was
  pub found_still : (number : ℕ) → mount_lives nat_eq world (mount_numbered nat_eq world number) ≡ true
      → mount_numbered nat_eq settled_world number ≡ mount_numbered nat_eq world number
  found_still number lives = found_in_filter _ _ number (λ mount m e. cc (itself mount m))

  pub attached_lives : (mount : Mount ℕ) → is_some mount.namespace ≡ true → mount_lives nat_eq world mount ≡ true
  attached_lives mount e = or_left _ _ e

  pub located_lives : (location : Location ℕ) → Among location (all_locations world) → (mount : Mount ℕ)
      → mount.number ≡ location.mount → mount_lives nat_eq world mount ≡ true
  located_lives location m mount e = or_right (is_some mount.namespace) _
      (any_from_among _ _ location m (eq-eqb mount.number location.mount e))

  -- what has a place is in a namespace
  pub placed_attached : (mount : Mount ℕ) → Among mount world.mounts → is_some mount.mount_point ≡ true
      → is_some mount.namespace ≡ true
  placed_attached mount m placed = grind (arith, common_steps, true≢false, nowhere_parts, among_from_list_all)

  -- Locations
  abbrev pub used_locations : List (Location ℕ)
  used_locations = all_locations world ++ map root_of mounted.mounts
      ++ filter_map (λ mount. mount.mount_point) mounted.mounts

  -- an inode stays where something is at it
  node_stays : (number object : ℕ) → is_mounted nat_eq mounted number ≡ true
      → is_among nat_eq object (located_in nat_eq mounted number) ≡ true
      → (filesystem_numbered nat_eq settled_world number).files.tree.node object
      ≡ (filesystem_numbered nat_eq world number).files.tree.node object
  node_stays number object shown located =
      ap (λ filesystems. (unwrap_or (find (λ f. nat_eq number f.number) filesystems)
      (no_filesystem number)).files.tree.node object) (map_twice second first living.filesystems)
      ∙ node_kept (filesystem_lives nat_eq mounted) (λ f. second (first f))
      (λ f. number-only_used first_round (not (is_overlay (first f))) (first f)
      ∙ number-only_used living (is_overlay f) f) number object world.filesystems
      (λ f e. or_left (is_mounted nat_eq mounted f.number) _ (ap (is_mounted nat_eq mounted) e ∙ shown)) (λ f e.
      located_kept first_round (not (is_overlay (first f))) (first f) object
      (ap (λ n. is_among nat_eq object (located_in nat_eq mounted n)) (number-only_used living (is_overlay f) f ∙ e)
      ∙ located) ∙ located_kept living (is_overlay f) f object
      (ap (λ n. is_among nat_eq object (located_in nat_eq mounted n)) e ∙ located))
    where
      first : Filesystem ℕ → Filesystem ℕ
      first f = only_used nat_eq living (is_overlay f) f

      second : Filesystem ℕ → Filesystem ℕ
      second f = only_used nat_eq first_round (not (is_overlay f)) f

  -- so what is seen at a location that is used stays, where its mount lives
  pub seen_stays : (location : Location ℕ) → Among location used_locations
      → Among (mount_at nat_eq world location) world.mounts
      → mount_lives nat_eq world (mount_at nat_eq world location) ≡ true
      → node_at nat_eq settled_world location ≡ node_at nat_eq world location
  seen_stays location used there lives = grind (
    arith,
    common_steps,
    found_still,
    node_stays,
    is_among_numbers,
    among-map,
    among-filter,
    eq-eqb,
    any_from_among,
  )
