-- What goes when tasks leave places.
use Rattle.std.proofs.Common.{arith, ◌≡◌, refl, sym, ap, subst, ◌∙◌, ◌⊎◌, inl, inr, ⊎_elim, ℕ, nat_eq, eqb-true, eq-eqb, Bool, true, false, ◌||◌, ◌&&◌, List, [], ◌∷◌, filter, map, true≢false, flat_map, ◌++◌, Some, is_some, filter_map}
use Rattle.vt_spec.proofs.Common.{Filesystem, Location, Mount, Task, World, all_locations, and_parts, any_pair, cases_Bool, common_steps, filesystem_lives, has_layer_on, is_among, is_among_left, is_located, is_member_of, is_mounted, is_nowhere_or_attached, is_overlay, is_private, layers_in, list_all, list_any, located_in, mount_at, mount_in, mount_lives, named_in, objects_of_overlay, or_cases, or_parts, root_of, same_location_is, without_dead_filesystems, without_dead_mounts}
use Rattle.vt_laws_mounts.specs.LettingGo.InUse.{AllInUse, is_inode_used}
use Rattle.vt_laws_mounts.specs.LettingGo.Leaving.{LeavingLetsGo, MountsStand, StayingKeepsAll, comes_nowhere, inodes_of_location, is_location_among, only_these_are_left, stands_on_attached, used_by_locations, with_tasks}
use Rattle.vt_laws_mounts.specs.LettingGo.OneByOne.{FilesystemsInUseBut, GroupsInUseBut, InodesInUseBut, IsPlain, Losers, MountsInUseBut, is_inode_among, is_used_or_among}
use Rattle.vt_laws_mounts.proofs.letting_go.sweeps.InUse.{used_at}
use Rattle.vt_laws_mounts.proofs.letting_go.sweeps.Inodes.{all_goes_one_by_one, no_objects_of}
use Rattle.vt_laws_mounts.proofs.letting_go.Lists.{Among, all_from_among, among-append, among-append_left, among-append_right, among-filter, among-filter_map, among-flat_map, among-from_filter, among-from_filter_map, among-from_map, among-map, among_from_all, among_from_list_all, among_numbers, any-filter, any_among, any_from_among, flat_map_none, found_by, is_among_numbers, list_all_from_among, none_among, none_from_among, or_left, or_right}
pub use Rattle.vt_spec.proofs.Worlds.{number-mount_in}

-- Mounts by their numbers
pub found_itself : (mounts : List (Mount ℕ)) → any_pair (λ (a b : Mount ℕ). nat_eq a.number b.number) mounts ≡ false
    → (mount : Mount ℕ) → Among mount mounts → mount_in nat_eq mounts mount.number ≡ mount
found_itself mounts one mount m = found_by _ _ mounts one mount m

-- a mount point is on a mount in a namespace
pub place_attached : (world : World ℕ) → MountsStand world → (mount : Mount ℕ) → Among mount world.mounts
    → (place : Location ℕ) → mount.mount_point ≡ Some place → is_some (mount_at nat_eq world place).namespace ≡ true
place_attached world stand mount m place p = (and_parts (is_some (mount_at nat_eq world place).namespace) true
    (cc (among_from_list_all (stands_on_attached world) world.mounts stand.on_attached mount m))).0

-- a mount of a shorter list, where those of its number stay
pub found_in_filter : (stays : Mount ℕ → Bool) (mounts : List (Mount ℕ)) (number : ℕ)
    → ((mount : Mount ℕ) → Among mount mounts → mount.number ≡ number → stays mount ≡ true)
    → mount_in nat_eq (filter stays mounts) number ≡ mount_in nat_eq mounts number
found_in_filter stays [] number h = refl
found_in_filter stays (first ∷ rest) number h =
    grind (arith, common_steps, true≢false, eqb-true, found_in_filter stays rest number)

-- a mount in a namespace that is found is there
pub found_is_there : (mounts : List (Mount ℕ)) (number : ℕ) → is_some (mount_in nat_eq mounts number).namespace ≡ true
    → Among (mount_in nat_eq mounts number) mounts
found_is_there [] number e = cc
found_is_there (first ∷ rest) number e = grind (arith, common_steps, found_is_there rest number)

-- a mount outside every namespace has no place, and is in no group
pub nowhere_parts : (mount : Mount ℕ) → is_nowhere_or_attached mount ≡ true → is_some mount.namespace ≡ false
    → (is_some mount.mount_point ≡ false) × (is_private mount.propagation ≡ true)
nowhere_parts mount h e = grind (arith, common_steps, true≢false)

pub placed_is_attached : (mount : Mount ℕ) → is_nowhere_or_attached mount ≡ true → (place : Location ℕ)
    → mount.mount_point ≡ Some place → is_some mount.namespace ≡ true
placed_is_attached mount h place p =
    ⊎_elim (λ is. is) (λ out. absurd (cc ((nowhere_parts mount h out).0))) (cases_Bool _)

pub private_is_no_member : (group : ℕ) (mount : Mount ℕ) → is_private mount.propagation ≡ true
    → is_member_of nat_eq group mount ≡ false
private_is_no_member group mount e = grind (arith, common_steps, true≢false)

pub is_it : (list : List (Location ℕ)) (location : Location ℕ) → is_location_among list location ≡ true
    → Among location list
is_it list location e =
    let t = any_among _ list e in
    subst (λ l. Among l list) (sym (same_location_is _ t.0 t.2)) t.1

pub location_among : (list : List (Location ℕ)) (location : Location ℕ) → Among location list
    → is_location_among list location ≡ true
location_among list location m = any_from_among _ list _ m
    (λ i. eq-eqb location.mount location.mount refl i && eq-eqb location.node location.node refl i)

pub comes_nowhere_itself : (world : World ℕ) → comes_nowhere world world.tasks ≡ true
comes_nowhere_itself world =
    list_all_from_among (is_location_among (all_locations world)) (all_locations world)
    (location_among (all_locations world))

-- where tasks come to no new place, each is at one where a task was
pub was_located : (world : World ℕ) (tasks : List (Task ℕ)) → comes_nowhere world tasks ≡ true
    → (location : Location ℕ) → Among location (all_locations (with_tasks world tasks))
    → Among location (all_locations world)
was_located world tasks nowhere_new location m = is_it _ _ (among_from_list_all _ _ nowhere_new _ m)

-- no plain filesystem keeps another
pub no_layers : (number : ℕ) (other : World ℕ) (filesystems : List (Filesystem ℕ))
    → list_any is_overlay filesystems ≡ false
    → list_any (λ merged. has_layer_on nat_eq number merged && is_mounted nat_eq other merged.number) filesystems
    ≡ false
no_layers number other filesystems plain = grind (arith, common_steps, none_from_among, none_among, true≢false)

-- nor has it layers or objects
pub no_layers_of : (world : World ℕ) → IsPlain world → (number : ℕ) → layers_in nat_eq world number ≡ []
no_layers_of world plain number = grind (arith, common_steps, flat_map_none, none_among, true≢false)

-- In a world of plain filesystems an inode is used as the root, by a name, or at a place.
pub plain_uses : (world : World ℕ) → IsPlain world → (filesystem : Filesystem ℕ) (number : ℕ)
    → is_inode_used world filesystem number ≡ true
    → (number ≡ filesystem.files.tree.root) ⊎ ((is_among nat_eq number (named_in filesystem.files) ≡ true)
    ⊎ Among number (located_in nat_eq world filesystem.number))
plain_uses world plain filesystem number is_used =
    ⊎_elim (λ root. inl (eqb-true number filesystem.files.tree.root root)) (λ rest. inr (⊎_elim (λ front. ⊎_elim
    (λ before. ⊎_elim (λ named. inl (is_among_numbers number (named_in filesystem.files) named)) inr
    (among-append (named_in filesystem.files) (located_in nat_eq world filesystem.number) number before))
    (λ layer. absurd (subst (Among number) (no_layers_of world plain filesystem.number) layer))
    (among-append (named_in filesystem.files ++ located_in nat_eq world filesystem.number)
    (layers_in nat_eq world filesystem.number) number front))
    (λ object. absurd (subst (Among number) (no_objects_of world plain filesystem.number) object))
    (among-append (named_in filesystem.files ++ located_in nat_eq world filesystem.number
    ++ layers_in nat_eq world filesystem.number)
    (flat_map (objects_of_overlay nat_eq filesystem.number) world.filesystems) number (among_numbers number _ rest))))
    (or_cases (nat_eq number filesystem.files.tree.root) _ is_used)

module _ (world : World ℕ) (tasks : List (Task ℕ)) (left : List (Location ℕ)) (in_use : AllInUse world)
    (stand : MountsStand world) (only : only_these_are_left world tasks left ≡ true) where
  abbrev pub after : World ℕ
  after = with_tasks world tasks

  abbrev pub mounted : World ℕ
  mounted = without_dead_mounts nat_eq after

  abbrev pub living : World ℕ
  living = without_dead_filesystems nat_eq mounted

  abbrev pub losers : Losers
  losers = used_by_locations world left

  -- a location stays, or was left
  stays_or_left : (location : Location ℕ) → Among location (all_locations world)
      → Among location (all_locations after) ⊎ Among location left
  stays_or_left location m =
      ⊎_elim (λ e. inl (is_it _ _ e)) (λ e. inr (is_it left _ e)) (or_cases _ _ (among_from_list_all _ _ only _ m))

  located_lives : (mount : Mount ℕ) (location : Location ℕ) → Among location (all_locations after)
      → mount.number ≡ location.mount → mount_lives nat_eq after mount ≡ true
  located_lives mount location m e = or_right _ _ (any_from_among _ _ _ m (eq-eqb mount.number location.mount e))

  attached_lives : (mount : Mount ℕ) → is_some mount.namespace ≡ true → mount_lives nat_eq after mount ≡ true
  attached_lives mount e = or_left _ _ e

  -- a mount that is used no more was left
  pub dead_was_left : (mount : Mount ℕ) → Among mount world.mounts → mount_lives nat_eq after mount ≡ false
      → (location : Location ℕ) × Among location left × (mount.number ≡ location.mount)
  dead_was_left mount m dead =
      let parts = or_parts (is_some mount.namespace) (is_located nat_eq after mount.number) dead in
      let lived = among_from_list_all (mount_lives nat_eq world) world.mounts in_use.mounts mount m in
      let t = any_among (λ l. nat_eq mount.number l.mount) (all_locations world) (cc (parts.0, lived)) in
      let same : mount.number ≡ t.0.mount = eqb-true mount.number t.0.mount t.2 in
      ⊎_elim (λ stays. absurd (cc (located_lives mount t.0 stays same)))
      (λ gone. (t.0, gone, same)) (stays_or_left t.0 t.1)

  found_mount : (mount : Mount ℕ) → Among mount world.mounts → mount_in nat_eq world.mounts mount.number ≡ mount
  found_mount mount m = found_itself _ stand.one_number mount m

  -- where a mount stays, it is found as before
  found_still : (number : ℕ) → ((mount : Mount ℕ) → Among mount world.mounts → mount.number ≡ number
      → mount_lives nat_eq after mount ≡ true)
      → mount_in nat_eq mounted.mounts number ≡ mount_in nat_eq world.mounts number
  found_still number stays = found_in_filter _ _ number stays

  only_one : (mount : Mount ℕ) → Among mount world.mounts → mount_lives nat_eq after mount ≡ true
      → (other : Mount ℕ) → Among other world.mounts → other.number ≡ mount.number
      → mount_lives nat_eq after other ≡ true
  only_one mount m lives other n e = cc (found_mount other n, e, found_mount mount m, lives)

  -- the filesystem of a mount that went was left
  pub filesystem_left : (mount : Mount ℕ) → Among mount world.mounts → (location : Location ℕ) → Among location left
      → mount.number ≡ location.mount → (mount_at nat_eq world location) ≡ mount
  filesystem_left mount m location n e = cc (found_mount mount m)

  pub mounts_but : MountsInUseBut losers.mounts after
  mounts_but =
      grind (
        arith,
        common_steps,
        list_all_from_among,
        or_right,
        dead_was_left,
        or_left,
        is_among_numbers,
        among-map,
        cases_Bool,
      )

  filesystems_but : IsPlain world → FilesystemsInUseBut losers.filesystems mounted
  filesystems_but plain = list_all_from_among (λ filesystem. is_among nat_eq filesystem.number losers.filesystems
      || filesystem_lives nat_eq mounted filesystem) world.filesystems (λ filesystem m.
      let lived = among_from_list_all _ _ in_use.filesystems _ m in
      let was = ⊎_elim (λ e. e) (λ layered. absurd (cc (
        layered,
        no_layers filesystem.number world world.filesystems
            plain,
      ))) (or_cases _ _ lived) in
      let t = any_among _ _ was in
      ⊎_elim (λ lives. or_right _ _ (or_left _ _ (any_from_among _ _ t.0 (among-filter _ _ t.0 t.1 lives) t.2)))
      (λ dead. let gone = dead_was_left t.0 t.1 dead in
      or_left _ _ (ap (λ n. is_among nat_eq n losers.filesystems) (eqb-true filesystem.number t.0.filesystem t.2 ∙ ap
      (λ x. x.filesystem) (sym (filesystem_left t.0 t.1 gone.0 gone.1 gone.2))) ∙ is_among_numbers _ _
      (among-map _ left gone.0 gone.1))) (cases_Bool _))

  pub groups_but : GroupsInUseBut losers.groups mounted
  groups_but group among none = in_use.groups group
      (sym (any-filter (is_member_of nat_eq group) (mount_lives nat_eq after) world.mounts
      (λ mount m dead. private_is_no_member group mount
      (nowhere_parts mount (among_from_list_all is_nowhere_or_attached world.mounts stand.nowhere mount m)
      (or_parts (is_some mount.namespace) (is_located nat_eq after mount.number) dead).0).1)) ∙ none)

  -- Inodes, where some filesystems have gone
  module _ (rest : List (Filesystem ℕ)) (filesystem : Filesystem ℕ) where
    abbrev pub swept : World ℕ
    swept = record mounted { filesystems = rest }

    -- what is at a place that is used still
    used_still : (location : Location ℕ) → Among location
        (all_locations after ++ map root_of mounted.mounts ++ filter_map (λ mount. mount.mount_point) mounted.mounts)
        → filesystem.number ≡ (mount_at nat_eq mounted location).filesystem
        → is_inode_used swept filesystem location.node ≡ true
    used_still location m e = used_at swept filesystem location m e

    -- what was left may go
    may_go : (location : Location ℕ) → Among location left
        → filesystem.number ≡ (mount_at nat_eq world location).filesystem
        → (number : ℕ) → (number ≡ location.node) ⊎ (number ≡ (mount_at nat_eq world location).root)
        → is_used_or_among losers.inodes swept filesystem number ≡ true
    may_go location m e number at =
        or_left (is_inode_among filesystem.number number losers.inodes) (is_inode_used swept filesystem number) (⊎_elim
        (λ node. any_from_among (λ inode. nat_eq filesystem.number inode.0 && nat_eq number inode.1) losers.inodes
        ((mount_at nat_eq world location).filesystem, location.node)
        (among-flat_map (inodes_of_location world) left location
        ((mount_at nat_eq world location).filesystem, location.node) m (inl refl)) (both number location.node node))
        (λ root. any_from_among (λ inode. nat_eq filesystem.number inode.0 && nat_eq number inode.1) losers.inodes
        ((mount_at nat_eq world location).filesystem, (mount_at nat_eq world location).root)
        (among-flat_map (inodes_of_location world) left location
        ((mount_at nat_eq world location).filesystem, (mount_at nat_eq world location).root) m (inr (inl refl)))
        (both number (mount_at nat_eq world location).root root)) at)
      where
        both : (a b : ℕ) → a ≡ b → (nat_eq filesystem.number (mount_at nat_eq world location).filesystem && nat_eq a b)
            ≡ true
        both a b same = cc (eq-eqb filesystem.number (mount_at nat_eq world location).filesystem e, eq-eqb a b same)

    -- each location, root of a mount and place
    by_location : (location : Location ℕ) → Among location (all_locations world)
        → filesystem.number ≡ (mount_at nat_eq world location).filesystem
        → is_used_or_among losers.inodes swept filesystem location.node ≡ true
    by_location location m e = ⊎_elim (λ stays. or_right _ _ (used_still location
        (among-append_left _ _ _ (among-append_left _ _ _ stays)) (cc (found_still location.mount
        (λ mount n same. located_lives mount location stays same))))) (λ gone. may_go _ gone e _ (inl refl))
        (stays_or_left _ m)

    by_root : (mount : Mount ℕ) → Among mount world.mounts
        → filesystem.number ≡ (mount_at nat_eq world (root_of mount)).filesystem
        → is_used_or_among losers.inodes swept filesystem mount.root ≡ true
    by_root mount m e = ⊎_elim (λ lives. or_right (is_inode_among filesystem.number mount.root losers.inodes) _
        (used_still (root_of mount) (among-append_left (all_locations after ++ map root_of mounted.mounts)
        (filter_map (λ x. x.mount_point) mounted.mounts) (root_of mount)
        (among-append_right (all_locations after) (map root_of mounted.mounts) (root_of mount)
        (among-map root_of mounted.mounts mount (among-filter (mount_lives nat_eq after) world.mounts mount m lives))))
        (cc (found_still mount.number (only_one mount m lives))))) (λ dead. let gone = dead_was_left mount m dead in
        may_go gone.0 gone.1 (cc (gone.2)) mount.root
        (inr (ap (λ x. x.root) (sym (filesystem_left mount m gone.0 gone.1 gone.2)))))
        (cases_Bool (mount_lives nat_eq after mount))

    by_place : (mount : Mount ℕ) → Among mount world.mounts → (place : Location ℕ) → mount.mount_point ≡ Some place
        → filesystem.number ≡ (mount_at nat_eq world place).filesystem
        → is_used_or_among losers.inodes swept filesystem place.node ≡ true
    by_place mount m place p e = or_right _ _ (used_still place (among-append_right _ _ place
        (among-filter_map _ _ mount place (among-filter _ _ mount m (attached_lives mount (is_attached _ refl))) p))
        (e ∙ ap (λ x. x.filesystem) (sym (found_still _ (λ other n same. only_one on there
        (attached_lives on on_attached) other n (same ∙ sym (number-mount_in _ _)))))))
      where
        on : Mount ℕ
        on = mount_at nat_eq world place

        is_attached : (b : Bool) → is_some mount.namespace ≡ b → is_some mount.namespace ≡ true
        is_attached true f = f
        is_attached false f = absurd (true≢false (sym (ap is_some p) ∙ (nowhere_parts mount
            (among_from_list_all _ _ stand.nowhere mount m) f).0))

        on_attached : is_some (mount_at nat_eq world place).namespace ≡ true
        on_attached = place_attached world stand mount m place p

        there : Among (mount_at nat_eq world place) world.mounts
        there = found_is_there _ _ on_attached

    -- what the world had places at
    pub by_located : (number : ℕ) → Among number (located_in nat_eq world filesystem.number)
        → is_used_or_among losers.inodes swept filesystem number ≡ true
    by_located number m =
        let from = among-from_map _ _ number m in
        let here = among-from_filter _ _ from.0 from.1 in
        let e : filesystem.number ≡ (mount_at nat_eq world from.0).filesystem = eqb-true filesystem.number
        (mount_at nat_eq world from.0).filesystem here.1 in
        ap (is_used_or_among losers.inodes swept filesystem) from.2 ∙ ⊎_elim (λ other. ⊎_elim
        (λ at. by_location from.0 at e) (λ root. let mount = among-from_map _ _ from.0 root in
        ap (λ l. is_used_or_among losers.inodes swept filesystem l.node) mount.2 ∙ by_root _ mount.1
        (e ∙ ap (λ l. (mount_at nat_eq world l).filesystem) mount.2)) (among-append _ _ from.0 other))
        (λ place. let mount = among-from_filter_map _ _ from.0 place in
        by_place _ mount.1 from.0 mount.2 e) (among-append _ _ from.0 here.0)

    -- what the world used is used still, or may go
    by_use : IsPlain world → (number : ℕ) → is_inode_used world filesystem number ≡ true
        → is_used_or_among losers.inodes swept filesystem number ≡ true
    by_use plain number is_used =
        grind (arith, common_steps, or_right, or_left, eq-eqb, is_among_left, by_located, plain_uses)

  inodes_but : IsPlain world → InodesInUseBut losers.inodes living
  inodes_but plain =
      all_from_among (λ f. list_all (is_used_or_among losers.inodes living f) f.files.numbers ≡ true) living.filesystems
      (λ filesystem m. let was = among-from_filter (filesystem_lives nat_eq mounted) world.filesystems filesystem m in
      list_all_from_among (is_used_or_among losers.inodes living filesystem) filesystem.files.numbers
      (λ number n. by_use living.filesystems filesystem plain number
      (among_from_list_all (is_inode_used world filesystem) filesystem.files.numbers
      (among_from_all (λ f. list_all (is_inode_used world f) f.files.numbers
      ≡ true) world.filesystems in_use.inodes filesystem was.0) number n)))

pub leaving_lets_go : LeavingLetsGo
leaving_lets_go world tasks left settles only =
    all_goes_one_by_one (with_tasks world tasks) (used_by_locations world left) settles.plain settles.trees (record {
      mounts = mounts_but world tasks left settles.in_use settles.mounts only;
      filesystems = filesystems_but world tasks left settles.in_use settles.mounts only settles.plain;
      inodes = inodes_but world tasks left settles.in_use settles.mounts only settles.plain;
      groups = groups_but world tasks left settles.in_use settles.mounts only;
    })

pub staying_keeps_all : StayingKeepsAll
staying_keeps_all world tasks settles only = leaving_lets_go world tasks [] settles only
