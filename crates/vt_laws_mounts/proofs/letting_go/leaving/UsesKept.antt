-- Changes of mounts that take no use away.
use Rattle.std.proofs.Common.{arith, ◌≡◌, refl, sym, ap, subst, ◌∙◌, ⊎_elim, ℕ, nat_eq, eqb-true, eq-eqb, Bool, true, cond, ◌||◌, ◌&&◌, List, [], ◌∷◌, filter, map, true≢false, flat_map, ◌++◌, Option, is_some, filter_map}
use Rattle.vt_spec.proofs.Common.{Filesystem, Mount, MountFlags, World, all_locations, common_steps, cons_option, filesystem_lives, has_layer_on, has_members, is_among, is_located, is_mounted, layers_in, list_all, list_any, located_in, map_alike, map_twice, mount_at, mount_in, mount_lives, named_in, number-mount_in, objects_of_overlay, root_of, settled, with_mounts}
use Rattle.vt_laws_mounts.specs.LettingGo.Detaching.{with_changed}
use Rattle.vt_laws_mounts.specs.LettingGo.InUse.{AllInUse, GroupsInUse, is_inode_used}
use Rattle.vt_laws_mounts.specs.LettingGo.Keeping.{FlagsAreOfOne, FlagsKeepAll, KeepsUses, SetFlagsKeepAll, TypesKeepAll, flags_if}
use Rattle.vt_laws_mounts.proofs.letting_go.leaving.Detached.{found-map, not_found-map}
use Rattle.vt_laws_mounts.proofs.letting_go.sweeps.InUse.{nothing_goes}
use Rattle.vt_laws_mounts.proofs.letting_go.Lists.{Among, all_from_among, among-from_map, among_from_all, among_from_list_all, any-map, list_all_from_among}
use Rattle.vt_laws_mounts.proofs.letting_go.leaving.PlacesLeft.{found_itself}

module _ (world : World ℕ) (change : Mount ℕ → Mount ℕ) (master : ℕ → Option ℕ) (keeps : KeepsUses change) where
  abbrev after : World ℕ
  after = with_changed world change master

  same_roots : map root_of (map change world.mounts) ≡ map root_of world.mounts
  same_roots = map_twice _ change _ ∙ map_alike _ _ _
      (λ mount m. λ i. record { mount = keeps.number mount i; node = keeps.root mount i })

  same_places : (mounts : List (Mount ℕ)) → filter_map (λ mount. mount.mount_point) (map change mounts)
      ≡ filter_map (λ mount. mount.mount_point) mounts
  same_places [] = refl
  same_places (mount ∷ rest) = λ i. cons_option (keeps.mount_point mount i) (same_places rest i)

  same_filesystem : (number : ℕ)
      → (mount_in nat_eq after.mounts number).filesystem ≡ (mount_in nat_eq world.mounts number).filesystem
  same_filesystem number = ⊎_elim (λ e. e) (λ found. ap (λ x. x.filesystem)
      (found-map change keeps.number _ number _ found.1 found.2 found.3)
      ∙ keeps.filesystem (mount_in nat_eq world.mounts number)) (not_found-map change keeps.number _ number)

  same_located : (number : ℕ) → located_in nat_eq after number ≡ located_in nat_eq world number
  same_located number = λ i. map (λ location. location.node)
      (filter (λ location. nat_eq number (same_filesystem location.mount i))
      (all_locations world ++ same_roots i ++ same_places world.mounts i))

  same_mounted : (number : ℕ) → is_mounted nat_eq after number ≡ is_mounted nat_eq world number
  same_mounted number = any-map _ change _ (λ mount. ap (nat_eq number) (keeps.filesystem mount))

  same_lives : (filesystem : Filesystem ℕ)
      → filesystem_lives nat_eq after filesystem ≡ filesystem_lives nat_eq world filesystem
  same_lives filesystem = λ i. same_mounted filesystem.number i
      || list_any (λ merged. has_layer_on nat_eq filesystem.number merged
      && same_mounted merged.number i) world.filesystems

  same_used : (filesystem : Filesystem ℕ) (number : ℕ)
      → is_inode_used after filesystem number ≡ is_inode_used world filesystem number
  same_used filesystem number = λ i. is_among nat_eq number
      (filesystem.files.tree.root ∷ (named_in filesystem.files ++ same_located filesystem.number i
      ++ layers_in nat_eq world filesystem.number
      ++ flat_map (objects_of_overlay nat_eq filesystem.number) world.filesystems))

  pub still_in_use : AllInUse world → GroupsInUse after → AllInUse after
  still_in_use all groups = record {
    mounts = list_all_from_among (mount_lives nat_eq after) after.mounts
        (λ last m. let from = among-from_map change world.mounts last m in
        ap (mount_lives nat_eq after) from.2
        ∙ (λ i. is_some (keeps.namespace from.0 i) || is_located nat_eq world (keeps.number from.0 i))
        ∙ among_from_list_all (mount_lives nat_eq world) world.mounts all.mounts from.0 from.1);
    filesystems = list_all_from_among (filesystem_lives nat_eq after) world.filesystems (λ filesystem m.
        same_lives filesystem ∙ among_from_list_all (filesystem_lives nat_eq world) world.filesystems all.filesystems
        filesystem m);
    inodes = all_from_among (λ f. list_all (is_inode_used after f) f.files.numbers ≡ true) world.filesystems
        (λ filesystem m.
        list_all_from_among (is_inode_used after filesystem) filesystem.files.numbers
        (λ number n. same_used filesystem number
        ∙ among_from_list_all (is_inode_used world filesystem) filesystem.files.numbers
        (among_from_all (λ f. list_all (is_inode_used world f) f.files.numbers
        ≡ true) world.filesystems all.inodes filesystem m) number n));
    groups = groups;
  }

pub types_keep_all : TypesKeepAll
types_keep_all world change master all keeps groups =
    nothing_goes (with_changed world change master) (still_in_use world change master keeps all groups)

-- Flags
pub flags_are_of_one : FlagsAreOfOne
flags_are_of_one world here flags one = ap (with_mounts world) (map_alike _ _ _
    (λ mount m. cc (number-mount_in world.mounts here.mount, by mount m (nat_eq here.mount mount.number) refl)))
  where
    by : (mount : Mount ℕ) → Among mount world.mounts → (b : Bool) → nat_eq here.mount mount.number ≡ b
        → cond b (record (mount_at nat_eq world here) { flags = flags }) mount
        ≡ cond (nat_eq mount.number here.mount) (record mount { flags = flags }) mount
    by mount m b e = grind (arith, common_steps, eqb-true, found_itself, eq-eqb, true≢false)

keeps_flags : (number : ℕ) (flags : MountFlags) → KeepsUses (flags_if number flags)
keeps_flags number flags = grind (arith, common_steps)

same_members : (number group : ℕ) (flags : MountFlags) (mounts : List (Mount ℕ))
    → has_members nat_eq (map (flags_if number flags) mounts) group ≡ has_members nat_eq mounts group
same_members number group flags mounts = grind (arith, common_steps, any-map)

pub flags_keep_all : FlagsKeepAll
flags_keep_all world here flags one all = subst (λ w. settled nat_eq w ≡ w)
    (sym (flags_are_of_one world here flags one)) (types_keep_all world (flags_if here.mount flags) world.master all
    (keeps_flags _ flags) (λ group none. all.groups group (cc (same_members here.mount group flags world.mounts))))

pub set_flags_keep_all : SetFlagsKeepAll
set_flags_keep_all fresh world task number flags = flags_keep_all world (record { mount = number; node = 0 }) flags
