-- What tasks leave goes, in worlds with overlays.
use Rattle.std.proofs.Common.{◌≡◌, sym, ap, subst, ◌∙◌, ⊎_elim, inl, inr, ◌⊎◌, ℕ, nat_eq, eqb-true, eq-eqb, true, cond, ◌||◌, ◌&&◌, List, [], ◌∷◌, map, flat_map, ◌++◌}
use Rattle.vt_spec.proofs.Common.{Filesystem, Layer, Location, Task, World, and_parts, cases_Bool, filesystem_lives, has_layer_on, is_among, is_among_left, is_among_right, is_mounted, layers_in, layers_of, list_all, list_any-append, located_in, mount_at, named_in, objects_of_overlay, of_overlay, or_cases}
use Rattle.vt_laws_mounts.specs.LettingGo.InUse.{AllInUse, is_inode_used}
use Rattle.vt_laws_mounts.specs.LettingGo.Leaving.{MountsStand, inodes_of_location, only_these_are_left, with_tasks}
use Rattle.vt_laws_mounts.specs.LettingGo.LeavingOverlays.{LeavingOverlaysLetsGo, StayingKeepsOverlays, filesystems_of_layers, filesystems_of_location, used_with_layers}
use Rattle.vt_laws_mounts.specs.LettingGo.OneByOne.{AllInUseBut, FilesystemsInUseBut, Inode, InodesInUseBut, is_inode_among, is_used_or_among}
use Rattle.vt_laws_mounts.proofs.letting_go.sweeps.InUse.{layers_on}
use Rattle.vt_laws_mounts.proofs.letting_go.Lists.{Among, all_from_among, among-filter, among-flat_map, among-map, among_from_all, among_from_list_all, among_numbers, any_among, any_from_among, is_among_numbers, list_all_from_among, or_left, or_right}
use Rattle.vt_laws_mounts.proofs.letting_go.sweeps.OverlaysGone.{filesystems_take_their_uses}
use Rattle.vt_laws_mounts.proofs.letting_go.leaving.PlacesLeft.{after, by_located, dead_was_left, filesystem_left, groups_but, mounted, mounts_but}
use Rattle.vt_laws_mounts.proofs.letting_go.sweeps.WithOverlays.{with_overlays_all_goes}

-- the filesystem of a layer is among those of its overlay
pub in_layers : (world : World ℕ) (number : ℕ) (merged : Filesystem ℕ) → Among merged world.filesystems
    → (filesystem : ℕ) → merged.number ≡ filesystem
    → has_layer_on nat_eq number merged ≡ true → Among number (filesystems_of_layers world filesystem)
in_layers world number merged m filesystem e has =
    let t = any_among _ layers (sym (layers_on world number merged) ∙ has) in
    among-flat_map _ _ merged number m
    (subst (λ b. Among number (cond b (map (λ (layer : Layer ℕ). layer.filesystem) layers) []))
    (sym (eq-eqb merged.number filesystem e)) (subst (λ n. Among n (map (λ (layer : Layer ℕ). layer.filesystem) layers))
    (sym (eqb-true number t.0.filesystem t.2)) (among-map _ layers t.0 t.1)))
  where
    layers : List (Layer ℕ)
    layers = of_overlay [] layers_of merged

module _ (world : World ℕ) (tasks : List (Task ℕ)) (left : List (Location ℕ)) (in_use : AllInUse world)
    (stand : MountsStand world) (only : only_these_are_left world tasks left ≡ true) where
  abbrev now : World ℕ
  now = after world tasks left in_use stand only

  abbrev swept : World ℕ
  swept = mounted world tasks left in_use stand only

  abbrev losing : List ℕ
  losing = flat_map (filesystems_of_location world) left

  abbrev inodes : List Inode
  inodes = flat_map (inodes_of_location world) left

  -- a filesystem that was mounted is, or was left with the mount
  still_mounted : (number : ℕ) → is_mounted nat_eq world number ≡ true
      → (is_mounted nat_eq swept number ≡ true) ⊎ ((location : Location ℕ) × Among location left
      × (number ≡ (mount_at nat_eq world location).filesystem))
  still_mounted number is =
      let t = any_among _ _ is in
      ⊎_elim (λ lives. inl (any_from_among _ _ t.0 (among-filter _ _ t.0 t.1 lives) t.2))
      (λ dead. let gone = dead_was_left world tasks left in_use stand only t.0 t.1 dead in
      inr (
        gone.0,
        gone.1,
        eqb-true number t.0.filesystem t.2 ∙ ap (λ x. x.filesystem)
            (sym (filesystem_left world tasks left in_use stand only t.0 t.1 gone.0 gone.1 gone.2)),
      )) (cases_Bool _)

  all_filesystems_but : FilesystemsInUseBut losing swept
  all_filesystems_but =
      list_all_from_among (λ f. is_among nat_eq f.number losing || filesystem_lives nat_eq swept f) world.filesystems
      (λ f m. ⊎_elim (λ here. ⊎_elim
      (λ lives. or_right (is_among nat_eq f.number losing) (filesystem_lives nat_eq swept f)
      (or_left (is_mounted nat_eq swept f.number) _ lives))
      (λ gone. or_left (is_among nat_eq f.number losing) (filesystem_lives nat_eq swept f)
      (is_among_numbers f.number losing
      (among-flat_map (filesystems_of_location world) left gone.0 f.number gone.1 (inl gone.2))))
      (still_mounted f.number here)) (λ layered. let t = any_among (λ merged. has_layer_on nat_eq f.number merged
      && is_mounted nat_eq world merged.number) world.filesystems layered in
      let parts = and_parts (has_layer_on nat_eq f.number t.0) (is_mounted nat_eq world t.0.number) t.2 in
      ⊎_elim (λ lives. or_right (is_among nat_eq f.number losing) (filesystem_lives nat_eq swept f)
      (or_right (is_mounted nat_eq swept f.number) _ (any_from_among (λ merged. has_layer_on nat_eq f.number merged
      && is_mounted nat_eq swept merged.number) world.filesystems t.0 t.1
      (ap (λ b. b && is_mounted nat_eq swept t.0.number) parts.0 ∙ lives))))
      (λ gone. or_left (is_among nat_eq f.number losing) (filesystem_lives nat_eq swept f)
      (is_among_numbers f.number losing (among-flat_map (filesystems_of_location world) left gone.0 f.number gone.1
      (inr (in_layers world f.number t.0 t.1 (mount_at nat_eq world gone.0).filesystem gone.2 parts.0)))))
      (still_mounted t.0.number parts.1)) (or_cases (is_mounted nat_eq world f.number) _
      (among_from_list_all (filesystem_lives nat_eq world) world.filesystems in_use.filesystems f m)))

  -- what the world used is used where mounts have gone, or may go
  use_left : (f : Filesystem ℕ) (number : ℕ) → is_inode_used world f number ≡ true
      → is_used_or_among inodes swept f number ≡ true
  use_left f number is = ⊎_elim (λ front. ⊎_elim (λ first. ⊎_elim
      (λ named. used (is_among_left number (names ++ located_in nat_eq swept f.number ++ layers) objects
      (is_among_left number (names ++ located_in nat_eq swept f.number) layers
      (is_among_left number names (located_in nat_eq swept f.number) named))))
      (λ at. by_located world tasks left in_use stand only world.filesystems f number
      (among_numbers number (located_in nat_eq world f.number) at))
      (or_cases (is_among nat_eq number names) (is_among nat_eq number (located_in nat_eq world f.number))
      (cc (list_any-append (nat_eq number) names (located_in nat_eq world f.number)))))
      (λ layer. used (is_among_left number (names ++ located_in nat_eq swept f.number ++ layers) objects
      (is_among_right number (names ++ located_in nat_eq swept f.number) layers layer)))
      (or_cases (is_among nat_eq number (names ++ located_in nat_eq world f.number)) (is_among nat_eq number layers)
      (cc (list_any-append (nat_eq number) (names ++ located_in nat_eq world f.number) layers))))
      (λ object. used (is_among_right number (names ++ located_in nat_eq swept f.number ++ layers) objects object))
      (or_cases (is_among nat_eq number (names ++ located_in nat_eq world f.number ++ layers))
      (is_among nat_eq number objects)
      (sym (list_any-append (nat_eq number) (names ++ located_in nat_eq world f.number ++ layers) objects) ∙ is))
    where
      names : List ℕ
      names = f.files.tree.root ∷ named_in f.files

      layers : List ℕ
      layers = layers_in nat_eq world f.number

      objects : List ℕ
      objects = flat_map (objects_of_overlay nat_eq f.number) world.filesystems

      used : is_inode_used swept f number ≡ true → is_used_or_among inodes swept f number ≡ true
      used h = or_right (is_inode_among f.number number inodes) (is_inode_used swept f number) h

  all_inodes_but : InodesInUseBut inodes swept
  all_inodes_but =
      all_from_among (λ f. list_all (is_used_or_among inodes swept f) f.files.numbers ≡ true) world.filesystems
      (λ f m. list_all_from_among (is_used_or_among inodes swept f) f.files.numbers (λ number n. use_left f number
      (among_from_list_all (is_inode_used world f) f.files.numbers
      (among_from_all (λ x. list_all (is_inode_used world x) x.files.numbers
      ≡ true) world.filesystems in_use.inodes f m) number n)))

-- all but what the locations that were left used is in use
pub leaving_but : (world : World ℕ) (tasks : List (Task ℕ)) (left : List (Location ℕ)) → AllInUse world
    → MountsStand world
    → only_these_are_left world tasks left ≡ true → AllInUseBut (used_with_layers world left) (with_tasks world tasks)
leaving_but world tasks left in_use stand only = record {
  mounts = mounts_but world tasks left in_use stand only;
  filesystems = all_filesystems_but world tasks left in_use stand only;
  inodes = filesystems_take_their_uses (mounted world tasks left in_use stand only)
      (flat_map (filesystems_of_location world) left)
      (flat_map (inodes_of_location world) left) (all_filesystems_but world tasks left in_use stand only)
      (all_inodes_but world tasks left in_use stand only);
  groups = groups_but world tasks left in_use stand only;
}

pub leaving_overlays_lets_go : LeavingOverlaysLetsGo
leaving_overlays_lets_go world tasks left is only =
    with_overlays_all_goes (with_tasks world tasks) (used_with_layers world left) is.trees is.uppers is.reals
    (leaving_but world tasks left is.in_use is.mounts only)

pub staying_keeps_overlays : StayingKeepsOverlays
staying_keeps_overlays world tasks is only = leaving_overlays_lets_go world tasks [] is only
