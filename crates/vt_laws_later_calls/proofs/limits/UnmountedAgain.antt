-- A new mount on a private mount, unmounted again: when what nothing uses is gone, the world is as it was before.
use Rattle.std.proofs.Common.{arith, ◌≡◌, refl, ap, ◌∙◌, inl, ⊎_elim, true≢false, ℕ, nat_eq, eq-eqb, eqb-true, Bool, true, false, cond, not, ◌||◌, ◌&&◌, List, [], ◌∷◌, ◌++◌, Option, None, Some, filter, find, flat_map, is_some, map, unwrap_or, append-nil, map-id}
use Rattle.vt_spec.proofs.Common.{Among, Filesystem, Fresh, HasLivingGroups, IsWorld, Lives, Location, Mount, MountFlags, Namespace, Private, Serves, Task, World, all_locations, among-append, among-append_left, among-append_right, among-flat_map, among_from_all, and_parts, common_steps, detached, filesystem_lives, filter-append, filter_all, find-append, found_among, found_passes, going, going_from, has_child, has_layer_on, has_master, has_members, has_no_master, is_among, is_lost_group, is_mounted, is_overlay, is_shared, is_used, list_any, list_any-append, lost_a_group, map-append, map_alike, mount_at, mount_lives, mount_numbered, nat_eq_false_turned, no_mount, none_among, none_from_among, numbers_in_use, or-false, regrouped, regrouped_by, settled, source_of, stands_on, unmounted, used_by_filesystem, used_by_mount, without_dead_filesystems, without_dead_groups, without_dead_in, without_dead_inodes}
use Rattle.std.specs.Option.{option_or}
use Rattle.vt_laws_later_calls.proofs.Common.{AllInUse, IsPlain, among_from_list_all, find_none, found-append, groups_stay, inodes_stay, is_one_of, live_members, locations_of_worlds_stand, mounts_of_worlds_stand, numbers_of, place_attached}
use Rattle.vt_laws_mounts.specs.LettingGo.Detaching.{StandsUnshared, detached_if, without_place}
use Rattle.vt_laws_mounts.proofs.letting_go.leaving.Detached.{unmount_is_of_one}
use Rattle.vt_laws_worlds.proofs.Plain.{no_overlay}
use Rattle.vt_laws_later_calls.proofs.limits.AddedMount.{added_filesystem, added_mount, attached_is_mount, other_number}

module _ {world : World ℕ} {fresh : Fresh ℕ} (place : Location ℕ) (flags : MountFlags) (is : IsWorld nat_eq world)
    (plain : IsPlain world) (serves : Serves nat_eq world fresh)
    (private : (mount_at nat_eq world place).propagation ≡ Private)
    (attached : is_some (mount_at nat_eq world place).namespace ≡ true) where
  abbrev new : Mount ℕ
  new = added_mount fresh world place flags

  -- the filesystem that it shows
  abbrev added : Filesystem ℕ
  added = added_filesystem fresh world place flags

  -- a mount of the world has another number than the new one
  other_mount : (mount : Mount ℕ) → Among mount world.mounts → nat_eq mount.number new.number ≡ false
  other_mount mount m = other_number fresh world place flags serves mount.number (is_one_of world.mounts mount m)

  -- the number of the new filesystem is that of no filesystem, and no mount shows it
  other_filesystem : (filesystem : Filesystem ℕ) → Among filesystem world.filesystems
      → nat_eq added.number filesystem.number ≡ false
  other_filesystem filesystem m =
      none_among (nat_eq added.number) (numbers_in_use world) (serves.unused _) filesystem.number (among-append_left _
      (map (λ (namespace : Namespace ℕ). namespace.number) world.namespaces) filesystem.number
      (among-append_right (flat_map used_by_mount world.mounts) _
      filesystem.number
      (among-flat_map used_by_filesystem world.filesystems filesystem filesystem.number m (inl refl))))

  -- no mount of the world shows that filesystem
  pub not_shown : (mount : Mount ℕ) → Among mount world.mounts → nat_eq added.number mount.filesystem ≡ false
  not_shown mount m =
      grind (
        arith,
        common_steps,
        and_parts,
        among_from_list_all,
        true≢false,
        eqb-true,
        found_passes,
        other_filesystem,
        found_among,
      )

  -- The world with the new mount, of tasks that use the same locations
  module _ (tasks : List (Task ℕ)) (namespaces : List (Namespace ℕ)) (change : ℕ)
      (same_locations : all_locations (record world { tasks = tasks }) ≡ all_locations world)
      (in_use : AllInUse (record world { tasks = tasks; namespaces = namespaces; change = change })) where
    -- the world before, with these tasks
    abbrev pub before : World ℕ
    before = record world { tasks = tasks; namespaces = namespaces; change = change }

    -- with the mount and its filesystem last
    abbrev pub with_new : Mount ℕ → World ℕ
    with_new mount = record before {
      mounts = world.mounts ++ (mount ∷ []);
      filesystems = world.filesystems ++ (added ∷ []);
    }

    -- no mount stands on the new one
    pub none_on_new : has_child nat_eq (with_new new) new.number ≡ false
    none_on_new = none_from_among _ (world.mounts ++ (new ∷ [])) (λ mount m.
        ⊎_elim (λ old. by mount old mount.mount_point refl)
        (λ last. ⊎_elim (λ same. ap (stands_on nat_eq new.number) same
        ∙ nat_eq_false_turned place.mount new.number (other_number fresh world place flags serves place.mount
        (attached_is_mount world place.mount attached)))
        (λ none. absurd none) last) (among-append world.mounts (new ∷ []) mount m))
      where
        by : (mount : Mount ℕ) → Among mount world.mounts → (point : Option (Location ℕ)) → mount.mount_point ≡ point
            → stands_on nat_eq new.number mount ≡ false
        by mount m None e = cc
        by mount m (Some at) e = cc (
            nat_eq_false_turned at.mount new.number (other_number fresh world place flags serves at.mount
            (attached_is_mount world at.mount (place_attached world (mounts_of_worlds_stand world is) mount m at e))))

    -- it is found by its number
    pub new_is_found : mount_numbered nat_eq (with_new new) new.number ≡ new
    new_is_found = ap (λ found. unwrap_or found (no_mount new.number))
        (find-append (λ (mount : Mount ℕ). nat_eq new.number mount.number) world.mounts (new ∷ [])
        ∙ ap (λ found. option_or found (find (λ (mount : Mount ℕ). nat_eq new.number mount.number) (new ∷ [])))
        (find_none (λ (mount : Mount ℕ). nat_eq new.number mount.number) world.mounts
        (λ mount m. nat_eq_false_turned mount.number new.number (other_mount mount m)))
        ∙ ap (λ b. cond b (Some new) None) (eq-eqb new.number new.number refl))

    -- it stands on a mount that is not shared
    stands_unshared : StandsUnshared (with_new new) new.number
    stands_unshared = grind (arith, common_steps, new_is_found, found-append, attached_is_mount)

    -- the mount alone is detached
    placed_nowhere : without_place (with_new new) new.number ≡ with_new (detached new)
    placed_nowhere = ap (λ mounts. record (with_new new) { mounts = mounts }) (map-append _ world.mounts (new ∷ []) ∙
        (λ i. (map_alike (detached_if new.number) (λ mount. mount) world.mounts (λ mount m. cc (other_mount mount m)) ∙
        map-id world.mounts) i ++ ap (λ b. cond b (detached new) new ∷ []) (eq-eqb new.number new.number refl) i))

    -- no group loses its members
    same_members : (group : ℕ)
        → has_members nat_eq (world.mounts ++ (detached new ∷ [])) group ≡ has_members nat_eq world.mounts group
    same_members group = cc (
      list_any-append _ world.mounts (detached new ∷ []),
      or-false (has_members nat_eq world.mounts group),
    )

    -- each group of a mount has its members and its master
    no_group_is_lost : (mount : Mount ℕ) → Among mount (world.mounts ++ (detached new ∷ []))
        → lost_a_group nat_eq (with_new (detached new)) mount ≡ false
    no_group_is_lost mount m = ⊎_elim (λ old. by old (source_of mount.propagation) refl)
        (λ last. ⊎_elim (λ same. cc) (λ none. absurd none) last) (among-append world.mounts _ mount m)
      where
        of_master : (group : ℕ) → Lives (has_members nat_eq world.mounts) world.master group
            → (is_lost_group nat_eq (with_new (detached new)) (Some group)
            || is_lost_group nat_eq (with_new (detached new)) (world.master group)) ≡ false
        of_master group (has_no_master it members none) = λ i.
            not ((same_members it ∙ members) i) || is_lost_group nat_eq (with_new (detached new)) (none i)
        of_master group (has_master it above members some lives) = λ i. not ((same_members it ∙ members) i)
            || (ap (is_lost_group nat_eq (with_new (detached new))) some
            ∙ ap not (same_members above ∙ live_members _ _ _ lives)) i

        by : Among mount world.mounts → (source : Option ℕ) → source_of mount.propagation ≡ source
            → lost_a_group nat_eq (with_new (detached new)) mount ≡ false
        by old None e = cc
        by old (Some group) e =
            cc (of_master group (among_from_all (HasLivingGroups nat_eq world) world.mounts is.mounts.groups mount
            old group e))

    -- so the unmount detaches the new mount, and changes nothing else
    unmounted_is : unmounted nat_eq (with_new new) new.number ≡ with_new (detached new)
    unmounted_is = unmount_is_of_one (with_new new) new.number none_on_new stands_unshared
        ∙ ap (regrouped nat_eq) placed_nowhere ∙ ap (λ b. regrouped_by nat_eq b (with_new (detached new)))
        (none_from_among _ _
        no_group_is_lost)

    -- the sweep takes the mount and its filesystem
    located_elsewhere : mount_lives nat_eq (with_new (detached new)) (detached new) ≡ false
    located_elsewhere = cc (
      same_locations,
      none_from_among (λ (location : Location ℕ). nat_eq new.number location.mount) (all_locations world) (λ
          location m. nat_eq_false_turned location.mount new.number (other_number fresh world place flags serves
          location.mount (among_from_list_all (λ (at : Location ℕ). is_among nat_eq at.mount (numbers_of world.mounts))
          _ (locations_of_worlds_stand world is) location m))),
    )

    -- the sweep leaves the mounts that were there
    mounts_left : filter (mount_lives nat_eq (with_new (detached new))) (world.mounts ++ (detached new ∷ []))
        ≡ world.mounts
    mounts_left = filter-append _ world.mounts (detached new ∷ []) ∙ (λ i. filter_all _ world.mounts
        (among_from_list_all _ world.mounts in_use.mounts) i
        ++ cond (located_elsewhere i) (detached new ∷ []) []) ∙ append-nil world.mounts

    -- then the filesystem is left over
    abbrev without_new : World ℕ
    without_new = record before { filesystems = world.filesystems ++ (added ∷ []) }

    -- a mounted overlay has a layer in a filesystem
    abbrev has_its_layer : ℕ → Filesystem ℕ → Bool
    has_its_layer number merged = has_layer_on nat_eq number merged && is_mounted nat_eq without_new merged.number

    -- none has one
    no_layers : (number : ℕ) → list_any (has_its_layer number) (world.filesystems ++ (added ∷ [])) ≡ false
    no_layers number = none_from_among _ (world.filesystems ++ (added ∷ []))
        (λ merged m. ⊎_elim (λ old. cc (no_overlay world plain merged old))
        (λ last. ⊎_elim (λ same. cc) (λ none. absurd none) last) (among-append world.filesystems (added ∷ []) merged m))

    -- each filesystem that was there stays
    filesystem_stays_alive : (filesystem : Filesystem ℕ) → Among filesystem world.filesystems
        → filesystem_lives nat_eq without_new filesystem ≡ true
    filesystem_stays_alive filesystem m = grind (arith, common_steps, among_from_list_all, list_any-append)

    -- the new one goes
    added_is_dead : filesystem_lives nat_eq without_new added ≡ false
    added_is_dead =
        (λ i. none_from_among (λ (mount : Mount ℕ). nat_eq added.number mount.filesystem) world.mounts not_shown i
        || no_layers added.number i)

    -- the sweep leaves the filesystems that were there
    filesystems_left : filter (filesystem_lives nat_eq without_new) (world.filesystems ++ (added ∷ []))
        ≡ world.filesystems
    filesystems_left = filter-append _ world.filesystems (added ∷ [])
        ∙ (λ i. filter_all _ world.filesystems filesystem_stays_alive i
        ++ cond (added_is_dead i) (added ∷ []) []) ∙ append-nil world.filesystems

    -- no task uses the mount
    pub none_uses_new : is_used nat_eq (with_new new) (going nat_eq (with_new new)
        (mount_numbered nat_eq (with_new new) new.number)) ≡ false
    none_uses_new = ap (λ mount. is_used nat_eq (with_new new) (going nat_eq (with_new new) mount)) new_is_found ∙
        ap (λ (mount : Mount ℕ). is_used nat_eq (with_new new) (going_from nat_eq (with_new new) new place
        (is_shared mount.propagation))) (found-append world.mounts (new ∷ []) place.mount
        (attached_is_mount world place.mount attached)) ∙ ap (λ kind. is_used nat_eq (with_new new)
        (going_from nat_eq (with_new new) new place (is_shared kind))) private ∙
        ap (list_any (λ location. is_among nat_eq location.mount (new.number ∷ []))) same_locations ∙ none_from_among
        (λ (location : Location ℕ). is_among nat_eq location.mount (new.number ∷ [])) (all_locations world)
        (λ location m. cc (other_number fresh world place flags serves location.mount
        (among_from_list_all (λ (at : Location ℕ). is_among nat_eq at.mount (numbers_of world.mounts))
        _ (locations_of_worlds_stand world is) location m)))

    -- the sweep after the unmount leaves the world before, with these tasks
    pub unmount_gives_back : settled nat_eq (unmounted nat_eq (with_new new) new.number) ≡ before
    unmount_gives_back = ap (settled nat_eq) unmounted_is
        ∙ ap (λ mounts. without_dead_groups nat_eq (without_dead_inodes nat_eq (without_dead_filesystems nat_eq
        (record (with_new (detached new)) { mounts = mounts })))) mounts_left
        ∙ ap (λ filesystems. without_dead_groups nat_eq (without_dead_inodes nat_eq
        (record without_new { filesystems = filesystems }))) filesystems_left ∙ ap (λ one. without_dead_groups nat_eq
        (without_dead_in nat_eq (λ filesystem. not (is_overlay filesystem)) one))
        (inodes_stay is_overlay before in_use.inodes)
        ∙ ap (without_dead_groups nat_eq) (inodes_stay (λ filesystem. not (is_overlay filesystem)) before in_use.inodes)
        ∙ groups_stay before in_use.groups
