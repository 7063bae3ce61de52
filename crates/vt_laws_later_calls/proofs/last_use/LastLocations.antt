-- The whole sweep, where the last location on a mount is left, and its filesystem goes.
use Rattle.std.proofs.Common.{◌≡◌, refl, sym, ap, subst, ◌∙◌, inl, inr, ⊎_elim, ℕ, nat_eq, eqb-true, eq-eqb, Bool, true, false, true≢false, cond, not, ◌||◌, ◌&&◌, ◌+◌, List, [], ◌∷◌, ◌++◌, filter, find, map, is_some, arith, nat_lt}
use Rattle.vt_spec.proofs.Common.{Filesystem, IsWorld, Location, Mount, Task, World, all_locations, common_steps, filesystem_numbered, filter_alike, is_among, is_member_of, is_nowhere_or_attached, is_overlay, list_all, mount_at, nat_eq-swapped, no_filesystem, or_parts, settled, without_dead_filesystems, without_dead_groups, without_dead_in, without_dead_inodes, without_dead_mounts}
use Rattle.vt_laws_later_calls.proofs.Common.{AllInUse, Among, Exchanges, GroupsInUse, InodesInUse, MountsStand, all_from_among, all_in_use, among-append, among-append_left, among-append_right, among-from_filter, among-from_map, among_from_all, among_from_list_all, among_numbers, any-filter, exchanges_follow, found_by, groups_stay, inode_at, inode_uses, inodes_stay, is_inode_used, is_mount_used, list_all_from_among, locations_are_uses, locations_of_worlds_stand, mount_uses, mounts_of_worlds_stand, mounts_showing, none_among, nowhere_parts, others_use_nothing, private_is_no_member, root_inode, used_while_counted, with_tasks, without_filesystem, without_mount}
use Rattle.vt_laws_mounts.specs.LettingGo.Keeping.{LocationsStand}
use Rattle.vt_laws_mounts.specs.LettingGo.OneByOne.{IsPlain}
use Rattle.vt_laws_mounts.proofs.letting_go.leaving.PlacesLeft.{found_itself}
use Rattle.vt_laws_mounts.specs.Counts.Counted
use Rattle.vt_laws_mounts.proofs.counts.using.MountRoots.{mounts_leave_their_roots}
use Rattle.vt_laws_later_calls.specs.LastUse.{LocationTakesItsFilesystem}
use Rattle.vt_laws_later_calls.proofs.last_use.OneLess.{IsSplit, split_around}
use Rattle.vt_laws_later_calls.proofs.last_use.MountsAndFilesystems.{filesystem_goes_with_its_last_use, located_still, mount_goes_with_its_last_use}

-- what is found of the filesystems without another one
found_beside : (filesystems : List (Filesystem ℕ)) (k gone : ℕ) → nat_eq k gone ≡ false
    → find (λ (f : Filesystem ℕ). nat_eq k f.number) (filter (λ f. not (nat_eq f.number gone)) filesystems)
    ≡ find (λ (f : Filesystem ℕ). nat_eq k f.number) filesystems
found_beside [] k gone differs = refl
found_beside (first ∷ rest) k gone differs =
    grind (arith, common_steps, true≢false, eqb-true, found_beside rest k gone differs)

module _ {world : World ℕ} (tasks : List (Task ℕ)) (front back : List (Location ℕ)) (location : Location ℕ)
    (whole : IsWorld nat_eq world) (plain : IsPlain world) (before : all_locations world ≡ front ++ (location ∷ back))
    (left : all_locations (with_tasks world tasks) ≡ front ++ back)
    (goes : (is_some (mount_at nat_eq world location).namespace || nat_lt 1 (mount_uses world location.mount)) ≡ false)
    (last : nat_lt 1 (mounts_showing world (mount_at nat_eq world location).filesystem) ≡ false) where
  abbrev after : World ℕ
  after = with_tasks world tasks

  abbrev its : Mount ℕ
  its = mount_at nat_eq world location

  abbrev unmounted : World ℕ
  unmounted = without_mount after location.mount

  abbrev freed : World ℕ
  freed = without_filesystem unmounted its.filesystem

  in_use : AllInUse world
  in_use = all_in_use world whole

  stand : MountsStand world
  stand = mounts_of_worlds_stand world whole

  at_mounts : LocationsStand world
  at_mounts = locations_of_worlds_stand world whole

  located : Among location (all_locations world)
  located = rw before (among-append_right front _ location (inl refl))

  -- the mount is there
  numbered : is_among nat_eq location.mount (map (λ mount. mount.number) world.mounts) ≡ true
  numbered = among_from_list_all (λ l. is_among nat_eq l.mount (map (λ mount. mount.number) world.mounts))
      (all_locations world)
      at_mounts location located

  its_there : Among its world.mounts × (its.number ≡ location.mount)
  its_there =
      let from = among-from_map (λ (mount : Mount ℕ). mount.number) world.mounts location.mount
      (among_numbers location.mount (map (λ mount. mount.number) world.mounts) numbered) in
      let found : its ≡ from.0 = cc (from.2, found_itself world.mounts stand.one_number from.0 from.1) in
      (rw found from.1, cc from.2)

  split : IsSplit (λ (a b : Mount ℕ). nat_eq a.number b.number) world.mounts its
  split = split_around (λ (a b : Mount ℕ). nat_eq a.number b.number) (λ m. eq-eqb m.number m.number refl)
      (λ a b. nat_eq-swapped a.number b.number false) world.mounts stand.one_number its its_there.0

  mount_goes : without_dead_mounts nat_eq after ≡ unmounted
  mount_goes = cc (mount_goes_with_its_last_use world tasks front back location in_use stand.one_number before left)

  filesystem_goes : without_dead_filesystems nat_eq unmounted ≡ freed
  filesystem_goes =
      cc (filesystem_goes_with_its_last_use world unmounted split.front split.back its in_use plain refl split.whole
      (filter_alike (λ mount. not (nat_eq mount.number location.mount)) (λ mount. not (nat_eq its.number mount.number))
      world.mounts (λ mount m. ap (λ n. not (nat_eq mount.number n)) (sym its_there.1) ∙ ap not
      (nat_eq-swapped its.number mount.number _ refl)) ∙ split.left))

  -- Inodes of other filesystems are used as before

  stand_after : MountsStand after
  stand_after = record { one_number = stand.one_number; nowhere = stand.nowhere; on_attached = stand.on_attached }

  at_mounts_after : LocationsStand after
  at_mounts_after = cc (list_all_from_among (λ l. is_among nat_eq l.mount (map (λ mount. mount.number) world.mounts))
      (front ++ back) (λ l m. among_from_list_all (λ x. is_among nat_eq x.mount
      (map (λ mount. mount.number) world.mounts)) _ at_mounts l
      (subst (Among l) (sym before) (⊎_elim (λ f. among-append_left front _ l f)
      (λ b. among-append_right front _ l (inr b)) (among-append front back l m)))))

  unused : is_mount_used after location.mount ≡ false
  unused = cc (located_still world tasks front back location before left)

  plain_there : Counted.IsPlain unmounted
  plain_there = all_from_among (λ f. is_overlay f ≡ false) world.filesystems
      (none_among is_overlay world.filesystems plain)

  plain_freed : Counted.IsPlain freed
  plain_freed = all_from_among (λ f. is_overlay f ≡ false) freed.filesystems
      (λ f m. none_among is_overlay world.filesystems plain f
      (among-from_filter (λ g. not (nat_eq g.number its.filesystem)) world.filesystems f m).0)

  exchange : (k : ℕ) → nat_eq k its.filesystem ≡ false
      → Exchanges [] (inode_at world location ∷ root_inode after location.mount ∷ []) k world freed
  exchange k differs = exchanges_follow world unmounted freed [] (inode_at world location ∷ root_inode after
      location.mount ∷ []) [] [] k (exchanges_follow world after unmounted [] (inode_at world location ∷ []) []
      (root_inode after location.mount ∷ []) k (locations_are_uses world after [] (location ∷ []) front back refl refl
      before left k) (mounts_leave_their_roots after location.mount stand_after at_mounts_after numbered unused k))
      (others_use_nothing unmounted freed k plain_there plain_freed refl refl
      (cc (found_beside world.filesystems k its.filesystem differs)))

  inodes_used : InodesInUse freed
  inodes_used = all_from_among (λ f. list_all (is_inode_used freed f) f.files.numbers ≡ true) freed.filesystems
      (λ f m. let from = among-from_filter (λ g. not (nat_eq g.number its.filesystem)) world.filesystems f m in
      list_all_from_among (is_inode_used freed f) f.files.numbers
      (λ number n. as_before f from.0 (apart (nat_eq f.number its.filesystem) from.1) number
      (among_from_list_all (is_inode_used world f) f.files.numbers
      (among_from_all (λ g. list_all (is_inode_used world g) g.files.numbers ≡ true) world.filesystems in_use.inodes
      f from.0) number n)))
    where
      apart : (b : Bool) → not b ≡ true → b ≡ false
      apart true e = sym e
      apart false e = refl

      alike : (a b : ℕ) → a + 0 ≡ b + 0 → a ≡ b
      alike a b e = omega arith

      as_before : (f : Filesystem ℕ) → Among f world.filesystems → nat_eq f.number its.filesystem ≡ false
          → (number : ℕ) → is_inode_used world f number ≡ true → is_inode_used freed f number ≡ true
      as_before f m differs number was =
          let found : filesystem_numbered nat_eq world f.number ≡ f = found_by (λ (x : Filesystem ℕ). x.number)
          (no_filesystem f.number) world.filesystems whole.files.one_filesystem f m in
          let moved = exchange f.number differs in
          cc (
            used_while_counted freed f number,
            moved.same,
            alike (inode_uses world (filesystem_numbered nat_eq world f.number) number) (inode_uses freed
                (filesystem_numbered nat_eq freed f.number) number) (moved.uses number ∙
                ap (λ b. inode_uses freed (filesystem_numbered nat_eq freed f.number) number +
                (cond (b && nat_eq number location.node) 1 0 + (cond (b && nat_eq number its.root) 1 0 + 0))) differs),
            used_while_counted world f number,
          )

  -- the mount was in no group
  groups_used : GroupsInUse freed
  groups_used group none = in_use.groups group (cc (any-filter (is_member_of nat_eq group)
      (λ mount. not (nat_eq mount.number location.mount)) world.mounts
      (λ mount m gone. private_is_no_member group mount (nowhere_parts mount
      (among_from_list_all is_nowhere_or_attached world.mounts stand.nowhere mount m)
      (ap (λ x. is_some x.namespace) (itself mount m (named (nat_eq mount.number location.mount) gone)) ∙
      (or_parts (is_some its.namespace) (nat_lt 1 (mount_uses world location.mount)) goes).0)).1)))
    where
      named : (b : Bool) → not b ≡ false → b ≡ true
      named true e = refl
      named false e = sym e

      itself : (mount : Mount ℕ) → Among mount world.mounts → nat_eq mount.number location.mount ≡ true → mount ≡ its
      itself mount m e = cc (found_itself world.mounts stand.one_number mount m, eqb-true mount.number location.mount e)

  pub all_goes : settled nat_eq after ≡ freed
  all_goes =
      ap (λ w. without_dead_groups nat_eq (without_dead_inodes nat_eq (without_dead_filesystems nat_eq w))) mount_goes
      ∙ ap (λ w. without_dead_groups nat_eq (without_dead_inodes nat_eq w)) filesystem_goes
      ∙ ap (without_dead_groups nat_eq)
      (ap (without_dead_in nat_eq (λ f. not (is_overlay f))) (inodes_stay is_overlay freed inodes_used)
      ∙ inodes_stay (λ f. not (is_overlay f)) freed inodes_used) ∙ groups_stay freed groups_used

pub location_takes_its_filesystem : LocationTakesItsFilesystem
location_takes_its_filesystem world tasks front back location whole plain before left goes last =
    all_goes tasks front back location whole plain before left goes last
