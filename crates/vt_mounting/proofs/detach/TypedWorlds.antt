-- Worlds whose mounts get the types of other groups: they are in use as before. A world from which mounts are taken
-- away is such
-- a world.
use Rattle.std.proofs.Common.{◌≡◌, refl, sym, ap, subst, ◌∙◌, ℕ, ◌+◌, nat_eq, Bool, true, false, cond, ◌&&◌, ◌||◌, List, [], ◌∷◌, ◌++◌, map, filter, flat_map, Option, None, is_some, filter_map}
use Rattle.vt_spec.proofs.Common.{Filesystem, Location, Mount, Private, Unbindable, World, all_locations, cons_option, filesystem_lives, filesystem_numbered, has_layer_on, has_members, inherited, inheriting, is_mounted, is_unbindable, layers_in, list_any, located_in, map_twice, mount_lives, named_in, objects_of_overlay, or_false_left, regrouped, root_of, settled, shown-mapped, without_dead_mounts}
use Rattle.vt_mounting.proofs.Common.{Among, Exchanges, Grouping, Has, Inode, among-from_map, among-map, among_from_all, any-map, filter-map, filter_alike, in_use_of, inode_uses, is_inode, is_ungrouped, master_in, mounts_showing, propagation_in, times, typed_by}
use Rattle.vt_group.specs.Laws.{shown}
use Rattle.vt_group.proofs.Showing.{shows_types}
use Rattle.vt_group.proofs.Typed.{regrouped_is_typed}
use Rattle.vt_mounting.proofs.detach.Grouped.{settled_has}
use Rattle.vt_mounting.proofs.detach.MountsChanged.{times_map}
use Rattle.vt_laws_mounts.proofs.Groups.{mounts-regrouped}
use Rattle.vt_laws_mounts.proofs.letting_go.SweptBetween.{settled_without_groups}

module _ (groups : Grouping) where
  -- the world with the types and the masters that groups tell
  abbrev pub typed_world : World ℕ → World ℕ
  typed_world world = record world { mounts = map (typed_by groups) world.mounts; master = master_in groups }

  -- What is in use

  mounts_live : (world : World ℕ) → filter (mount_lives nat_eq (typed_world world)) (map (typed_by groups) world.mounts)
      ≡ map (typed_by groups) (filter (mount_lives nat_eq world) world.mounts)
  mounts_live world =
      filter-map (mount_lives nat_eq (typed_world world)) {q = mount_lives nat_eq world} (typed_by groups) world.mounts
      (λ mount. refl)

  pub mounted_still : (world : World ℕ) (number : ℕ)
      → is_mounted nat_eq (without_dead_mounts nat_eq (typed_world world)) number
      ≡ is_mounted nat_eq (without_dead_mounts nat_eq world) number
  mounted_still world number = ap (list_any (λ (mount : Mount ℕ). nat_eq number mount.filesystem)) (mounts_live world)
      ∙ any-map (λ (mount : Mount ℕ). nat_eq number mount.filesystem) {q = λ mount. nat_eq number mount.filesystem}
      (typed_by groups) (filter (mount_lives nat_eq world) world.mounts) (λ mount. refl)

  -- what lives is the same where types change
  pub living_typed : (world : World ℕ) → in_use_of (typed_world world) ≡ typed_world (in_use_of world)
  living_typed world = λ i. record world {
    mounts = mounts_live world i;
    master = master_in groups;
    filesystems = filter_alike (filesystem_lives nat_eq (without_dead_mounts nat_eq (typed_world world)))
        (filesystem_lives nat_eq (without_dead_mounts nat_eq world)) world.filesystems (λ f m j.
        mounted_still world f.number j || list_any (λ merged. has_layer_on nat_eq f.number merged
        && mounted_still world merged.number j) world.filesystems) i;
  }

  -- Uses

  points_typed : (mounts : List (Mount ℕ))
      → filter_map (λ (mount : Mount ℕ). mount.mount_point) (map (typed_by groups) mounts)
      ≡ filter_map (λ (mount : Mount ℕ). mount.mount_point) mounts
  points_typed [] = refl
  points_typed (mount ∷ rest) = ap (cons_option mount.mount_point) (points_typed rest)

  located_typed : (world : World ℕ) (filesystem : ℕ)
      → located_in nat_eq (typed_world world) filesystem ≡ located_in nat_eq world filesystem
  located_typed world filesystem = λ i. map (λ (location : Location ℕ). location.node)
      (filter (λ (location : Location ℕ). nat_eq filesystem
      (shown-mapped (typed_by groups) (λ mount. refl) (λ mount. refl) world.mounts location.mount i))
      (all_locations world ++ map_twice root_of (typed_by groups) world.mounts i ++ points_typed world.mounts i))

  uses_typed : (world : World ℕ) (filesystem : Filesystem ℕ) (number : ℕ)
      → inode_uses (typed_world world) filesystem number ≡ inode_uses world filesystem number
  uses_typed world filesystem number = λ i.
      times (nat_eq number) (filesystem.files.tree.root ∷ (named_in filesystem.files
      ++ located_typed world filesystem.number i ++ layers_in nat_eq world filesystem.number
      ++ flat_map (objects_of_overlay nat_eq filesystem.number) world.filesystems))

  -- uses that are gained and lost are the same where types change
  pub exchanges_typed : {gained lost : List Inode} {filesystem : ℕ} {before world : World ℕ}
      → Exchanges gained lost filesystem before world → Exchanges gained lost filesystem before (typed_world world)
  exchanges_typed {lost} {filesystem} {world} exchanges = record {
    same = exchanges.same;
    uses = λ number. exchanges.uses number ∙ ap (λ n. n + times (is_inode filesystem number) lost)
        (sym (uses_typed world (filesystem_numbered nat_eq world filesystem) number));
  }

  -- as many mounts show a filesystem
  pub mounts_showing_typed : (world : World ℕ) (number : ℕ)
      → mounts_showing (typed_world world) number ≡ mounts_showing world number
  mounts_showing_typed world number = times_map (λ (mount : Mount ℕ). nat_eq number mount.filesystem)
      (typed_by groups) world.mounts

-- A world that is regrouped, and what nothing uses goes

once_more : (b : Bool) (o : Option ℕ) → cond b (cond b o None) None ≡ cond b o None
once_more true o = refl
once_more false o = refl

module _ (world : World ℕ) (groups : Grouping) (has : Has (regrouped nat_eq world) groups) where
  -- a regrouped world settles to what the typed one settles to
  pub settled_typed : settled nat_eq (regrouped nat_eq world) ≡ settled nat_eq (typed_world groups world)
  settled_typed =
      sym (settled_without_groups (regrouped nat_eq world)) ∙ ap (settled nat_eq) (regrouped_is_typed world groups has)

  typed_has : Has (typed_world groups world) groups
  typed_has = subst (λ one. Has one groups) (regrouped_is_typed world groups has) (record {
    order = has.order;
    peers = has.peers;
    masters_order = has.masters_order;
    masters = λ group. has.masters group ∙ sym (once_more (has_members nat_eq (regrouped nat_eq world).mounts group)
        ((regrouped nat_eq world).master group));
  })

  -- a private mount stays so
  private_stays : (mount : Mount ℕ) → Among mount world.mounts → mount.propagation ≡ Private
      → (typed_by groups mount).propagation ≡ Private
  private_stays mount m private =
      ap (λ kind. cond (is_unbindable kind) Unbindable (propagation_in groups mount.number)) private
      ∙ among_from_all (λ (x : Mount ℕ). propagation_in groups x.number ≡ shown x.propagation)
      (regrouped nat_eq world).mounts (shows_types (regrouped nat_eq world) groups has) (inheriting nat_eq world mount)
      (subst (Among (inheriting nat_eq world mount)) (sym (mounts-regrouped world))
      (among-map (inheriting nat_eq world) world.mounts mount m))
      ∙ ap (λ kind. shown (inherited nat_eq world kind)) private

  -- and has the same groups, where mounts outside are private
  pub settled_typed_has : ((mount : Mount ℕ) → Among mount world.mounts → is_some mount.namespace ≡ false
      → mount.propagation ≡ Private) → Has (settled nat_eq (typed_world groups world)) groups
  settled_typed_has nowhere = settled_has (typed_world groups world) groups typed_has (λ mount m dead.
      let from = among-from_map (typed_by groups) world.mounts mount m in
      ap (λ (x : Mount ℕ). is_ungrouped x.propagation) from.2
      ∙ ap is_ungrouped (private_stays from.0 from.1 (nowhere from.0 from.1
      (ap (λ (x : Mount ℕ). is_some x.namespace) (sym from.2) ∙ or_false_left (is_some mount.namespace) _ dead))))
