-- Which things may have lost a use after a change of mounts and tasks.
use Rattle.std.proofs.Common.{arith, ◌≡◌, refl, sym, ap, subst, ◌∙◌, ◌⊎◌, inl, inr, ⊎_elim, ℕ, nat_eq, eqb-true, eq-eqb, Bool, true, false, ◌||◌, List, map, true≢false, flat_map, ◌++◌, Option, Some, is_some, filter_map}
use Rattle.vt_spec.proofs.Common.{Filesystem, Location, Mount, Namespace, Task, World, all_locations, cases_Bool, common_steps, filesystem_lives, is_among, is_among_left, is_mounted, is_nowhere_or_attached, layers_in, list_all, located_in, mount_at, mount_in, mount_lives, mount_numbered, named_in, number-mount_in, objects_of_overlay, or_cases, or_parts, root_of, settled, without_dead_filesystems, without_dead_mounts}
use Rattle.vt_laws_mounts.specs.LettingGo.InUse.{AllInUse, is_inode_used}
use Rattle.vt_laws_mounts.specs.LettingGo.Keeping.{LocationsStand, has_only_named}
use Rattle.vt_laws_mounts.specs.LettingGo.Leaving.{IsSettledPlain, MountsStand}
use Rattle.vt_laws_mounts.specs.LettingGo.Mounting.{inode_at, root_inode, used_by_mounts}
use Rattle.vt_laws_mounts.specs.LettingGo.OneByOne.{AllInUseBut, FilesystemsInUseBut, GroupsInUseBut, Inode, InodesInUseBut, IsPlain, Losers, MountsInUseBut, is_inode_among, is_used_or_among, let_go}
use Rattle.vt_laws_mounts.proofs.letting_go.sweeps.Inodes.{all_goes_one_by_one}
use Rattle.vt_laws_mounts.proofs.letting_go.sweeps.InUse.{used_at}
use Rattle.vt_laws_mounts.proofs.letting_go.Lists.{Among, all_from_among, among-append, among-append_left, among-append_right, among-filter, among-filter_map, among-from_filter, among-from_filter_map, among-from_map, among-map, among_from_all, among_from_list_all, among_numbers, any-filter, any_among, any_from_among, is_among_numbers, list_all_from_among, or_left, or_right}
use Rattle.vt_laws_mounts.proofs.letting_go.leaving.PlacesLeft.{found_in_filter, found_is_there, found_itself, no_layers, nowhere_parts, plain_uses, private_is_no_member, place_attached}

-- the roots, working directories and descriptors, the roots of mounts and the places of a world
abbrev pub places_of : World ℕ → List (Location ℕ)
places_of world = all_locations world ++ map root_of world.mounts
    ++ filter_map (λ mount. mount.mount_point) world.mounts

-- where locations stand, each of these is on a mount that is there
pub places_stand : (world : World ℕ) → MountsStand world → LocationsStand world → (location : Location ℕ)
    → Among location (places_of world)
    → is_among nat_eq location.mount (map (λ mount. mount.number) world.mounts) ≡ true
places_stand world stand located_well location m = ⊎_elim (λ front. ⊎_elim
    (λ at. among_from_list_all (λ l. is_among nat_eq l.mount numbers) (all_locations world) located_well location at)
    (λ root. let t = among-from_map root_of world.mounts location root in
    cc (t.2, numbered t.0 t.1)) (among-append (all_locations world) (map root_of world.mounts) location front)) (λ at.
    let t = among-from_filter_map (λ x. x.mount_point) world.mounts location at in
    let on = place_attached world stand t.0 t.1 location t.2 in
    ap (λ n. is_among nat_eq n numbers) (sym (number-mount_in world.mounts location.mount))
    ∙ numbered (mount_at nat_eq world location) (found_is_there world.mounts location.mount on))
    (among-append (all_locations world ++ map root_of world.mounts)
    (filter_map (λ mount. mount.mount_point) world.mounts) location m)
  where
    numbers : List ℕ
    numbers = map (λ (mount : Mount ℕ). mount.number) world.mounts

    numbered : (mount : Mount ℕ) → Among mount world.mounts → is_among nat_eq mount.number numbers ≡ true
    numbered mount n = is_among_numbers _ _ (among-map _ _ mount n)

-- what a mount is afterwards: another record of its number, with what it shows
abbrev pub Image : List (Mount ℕ) → Mount ℕ → Type 0
Image mounts mount = (image : Mount ℕ)
    × (Among image mounts × ((root_of image ≡ root_of mount) × (image.filesystem ≡ mount.filesystem)))

-- the mounts of a number are none of those that may go, or in a namespace
abbrev pub Stays : List (Mount ℕ) → List ℕ → ℕ → Type 0
Stays mounts gone number = (is_among nat_eq number gone ≡ false)
    ⊎ ((mount : Mount ℕ) → Among mount mounts → mount.number ≡ number → is_some mount.namespace ≡ true)

-- a place that a mount in use has still, on a mount that stays
abbrev pub StillAPlace : List (Mount ℕ) → List ℕ → Location ℕ → Type 0
StillAPlace mounts gone place = (mount : Mount ℕ)
    × (Among mount mounts × ((mount.mount_point ≡ Some place) × Stays mounts gone place.mount))

abbrev pub changed_with : World ℕ → List (Mount ℕ) → (ℕ → Option ℕ) → List (Filesystem ℕ) → List (Namespace ℕ)
    → List (Task ℕ) → World ℕ
changed_with world mounts master filesystems namespaces tasks =
    record world { mounts = mounts; master = master; filesystems = filesystems; namespaces = namespaces; tasks = tasks }

abbrev pub changed : World ℕ → List (Mount ℕ) → (ℕ → Option ℕ) → List (Namespace ℕ) → List (Task ℕ) → World ℕ
changed world mounts master namespaces tasks = changed_with world mounts master world.filesystems namespaces tasks

-- the root of a mount that is none of those that may go
abbrev pub IsARoot : List (Mount ℕ) → List ℕ → Location ℕ → Type 0
IsARoot mounts gone location = (mount : Mount ℕ)
    × (Among mount mounts × ((root_of mount ≡ location) × (is_among nat_eq mount.number gone ≡ false)))

-- a location of a task still, or the root of a mount that stays
abbrev pub StillALocation : World ℕ → List ℕ → Location ℕ → Type 0
StillALocation after gone location = Among location (all_locations after) ⊎ IsARoot after.mounts gone location

-- a new filesystem, which a mount in use shows, and of which each inode is the root or has a name
abbrev pub IsNew : World ℕ → Filesystem ℕ → Type 0
IsNew after filesystem = (mount : Mount ℕ) × (Among mount after.mounts × ((mount_lives nat_eq after mount ≡ true)
    × ((nat_eq filesystem.number mount.filesystem ≡ true) × (has_only_named filesystem ≡ true))))

-- what was there is there, and what is new is shown
pub record Comes (world after : World ℕ) : Type 0 where
  pub kept : (filesystem : Filesystem ℕ) → Among filesystem world.filesystems → Among filesystem after.filesystems
  pub new : (filesystem : Filesystem ℕ) → Among filesystem after.filesystems
      → Among filesystem world.filesystems ⊎ IsNew after filesystem

pub record Loses (world after : World ℕ) (gone : List ℕ) (left : List (Location ℕ)) : Type 0 where
  pub images : (mount : Mount ℕ) → Among mount world.mounts → Image after.mounts mount
  pub shown : (location : Location ℕ) → Among location (places_of world)
      → (mount_at nat_eq after location).filesystem ≡ (mount_at nat_eq world location).filesystem
  pub live : (mount : Mount ℕ) → Among mount after.mounts → is_among nat_eq mount.number gone ≡ false
      → mount_lives nat_eq after mount ≡ true
  pub locations : (location : Location ℕ) → Among location (all_locations world)
      → StillALocation after gone location ⊎ Among location left
  pub places : (mount : Mount ℕ) → Among mount world.mounts → (place : Location ℕ) → mount.mount_point ≡ Some place
      → StillAPlace after.mounts gone place ⊎ Among place left
  pub nowhere : list_all is_nowhere_or_attached after.mounts ≡ true

module _ (world : World ℕ) (mounts : List (Mount ℕ)) (master : ℕ → Option ℕ) (filesystems : List (Filesystem ℕ))
    (namespaces : List (Namespace ℕ)) (tasks : List (Task ℕ)) (gone : List ℕ) (left : List (Location ℕ))
    (groups : List ℕ) (in_use : AllInUse world) (stand : MountsStand world)
    (loses : Loses world (changed_with world mounts master filesystems namespaces tasks) gone left)
    (hears : GroupsInUseBut groups (changed_with world mounts master filesystems namespaces tasks))
    (come : Comes world (changed_with world mounts master filesystems namespaces tasks)) where
  abbrev after : World ℕ
  after = changed_with world mounts master filesystems namespaces tasks

  abbrev pub mounted : World ℕ
  mounted = without_dead_mounts nat_eq after

  abbrev living : World ℕ
  living = without_dead_filesystems nat_eq mounted

  abbrev losers : Losers
  losers = used_by_mounts world gone left groups

  abbrev pub inodes : List Inode
  inodes = map (root_inode world) gone ++ map (inode_at world) left

  found_mount : (mount : Mount ℕ) → Among mount world.mounts → mount_in nat_eq world.mounts mount.number ≡ mount
  found_mount mount m = found_itself _ stand.one_number mount m

  pub mounts_but : MountsInUseBut gone after
  mounts_but = list_all_from_among _ mounts (λ mount m. ⊎_elim (λ is. or_left _ _ is)
      (λ isnt. or_right _ _ (loses.live mount m isnt)) (cases_Bool _))

  -- a mount that is none of those that may go has an image that lives
  image_lives : (mount : Mount ℕ) → is_among nat_eq mount.number gone ≡ false → (image : Image mounts mount)
      → mount_lives nat_eq after image.0 ≡ true
  image_lives mount isnt image =
      loses.live image.0 image.1.0 (ap (λ l. is_among nat_eq l.mount gone) image.1.1.0 ∙ isnt)

  -- a filesystem that a mount in use shows is mounted
  pub shown_is_mounted : (number : ℕ) (mount : Mount ℕ) → Among mount mounts → mount_lives nat_eq after mount ≡ true
      → nat_eq number mount.filesystem ≡ true → is_mounted nat_eq mounted number ≡ true
  shown_is_mounted number mount m lives shows = any_from_among _ _ mount (among-filter _ mounts mount m lives) shows

  -- one that was mounted is, or a mount of it may go
  pub still_mounted : (number : ℕ) → is_mounted nat_eq world number ≡ true → (is_mounted nat_eq mounted number ≡ true)
      ⊎ ((one : ℕ) × Among one gone × (number ≡ (mount_numbered nat_eq world one).filesystem))
  still_mounted number was =
      let t = any_among _ _ was in
      ⊎_elim (λ is. inr (
        t.0.number,
        among_numbers _ gone is,
        cc (eqb-true number t.0.filesystem t.2, found_mount t.0 t.1),
      )) (λ isnt. let image = loses.images t.0 t.1 in
      inl (shown_is_mounted number _ image.1.0 (image_lives t.0 isnt image) (cc (image.1.1.1, t.2)))) (cases_Bool _)

  pub groups_but : GroupsInUseBut groups mounted
  groups_but group among none = hears group among (sym (any-filter _ _ mounts
      (λ mount m dead. private_is_no_member group mount (nowhere_parts mount (among_from_list_all _ mounts loses.nowhere
      mount m) (or_parts _ _ dead).0).1)) ∙ none)

  -- where all of a number live, it is found as before
  found_still : (location : Location ℕ) → Among location (places_of world)
      → ((mount : Mount ℕ) → Among mount mounts → mount.number ≡ location.mount → mount_lives nat_eq after mount ≡ true)
      → (mount_at nat_eq mounted location).filesystem ≡ (mount_at nat_eq world location).filesystem
  found_still location m stays =
      cc (found_in_filter (mount_lives nat_eq after) mounts location.mount stays, loses.shown location m)

  stays_there : (number : ℕ) → is_among nat_eq number gone ≡ false → (mount : Mount ℕ) → Among mount mounts
      → mount.number ≡ number → mount_lives nat_eq after mount ≡ true
  stays_there number isnt mount m e = loses.live mount m (cc)

  module _ (others : List (Filesystem ℕ)) (filesystem : Filesystem ℕ) where
    -- the mounts that are in use, with some filesystems
    abbrev pub swept : World ℕ
    swept = record mounted { filesystems = others }

    -- what is at a place that is used still
    used_still : (location : Location ℕ) → Among location (places_of mounted)
        → filesystem.number ≡ (mount_at nat_eq mounted location).filesystem
        → is_inode_used swept filesystem location.node ≡ true
    used_still location m e = used_at swept filesystem location m e

    -- an inode among the losers may go
    may_go : (inode : Inode) → Among inode inodes → filesystem.number ≡ inode.0 → (number : ℕ) → number ≡ inode.1
        → is_used_or_among inodes swept filesystem number ≡ true
    may_go inode m e number same = or_left _ _ (any_from_among _ inodes inode m
        (cc (eq-eqb filesystem.number inode.0 e, eq-eqb number inode.1 same)))

    left_may_go : (location : Location ℕ) → Among location left
        → filesystem.number ≡ (mount_at nat_eq world location).filesystem
        → is_used_or_among inodes swept filesystem location.node ≡ true
    left_may_go location m e = may_go _ (among-append_right _ _ _ (among-map _ left _ m)) e _ refl

    was_a_place : (location : Location ℕ) → Among location (all_locations world) → Among location (places_of world)
    was_a_place location m = among-append_left _ _ _ (among-append_left _ _ _ m)

    located_still : (location : Location ℕ) → Among location (all_locations world)
        → filesystem.number ≡ (mount_at nat_eq world location).filesystem
        → Among location (all_locations after) → is_inode_used swept filesystem location.node ≡ true
    located_still location m e stays = used_still _ (among-append_left _ _ _ (among-append_left _ _ _ stays))
        (e ∙ sym (found_still _ (was_a_place _ m) (λ mount n same. or_right _ _
        (any_from_among _ _ _ stays (eq-eqb mount.number location.mount same)))))

    root_still : (location : Location ℕ) → Among location (all_locations world)
        → filesystem.number ≡ (mount_at nat_eq world location).filesystem
        → (mount : Mount ℕ) → Among mount mounts → root_of mount ≡ location → is_among nat_eq mount.number gone ≡ false
        → is_inode_used swept filesystem location.node ≡ true
    root_still location m e mount n is isnt = used_still location
        (among-append_left (all_locations after ++ map root_of mounted.mounts)
        (filter_map (λ x. x.mount_point) mounted.mounts) location
        (among-append_right (all_locations after) (map root_of mounted.mounts) location
        (subst (λ l. Among l (map root_of mounted.mounts)) is (among-map root_of mounted.mounts mount
        (among-filter (mount_lives nat_eq after) mounts mount n (loses.live mount n isnt))))))
        (e ∙ sym (found_still location (was_a_place location m) (stays_there location.mount (cc))))

    by_location : (location : Location ℕ) → Among location (all_locations world)
        → filesystem.number ≡ (mount_at nat_eq world location).filesystem
        → is_used_or_among inodes swept filesystem location.node ≡ true
    by_location location m e = ⊎_elim (λ stays. or_right _ _ (⊎_elim (located_still _ m e)
        (λ root. root_still _ m e root.0 root.1.0 root.1.1.0 root.1.1.1) stays)) (λ gone_from. left_may_go _ gone_from
        e) (loses.locations location m)

    by_root : (mount : Mount ℕ) → Among mount world.mounts
        → filesystem.number ≡ (mount_at nat_eq world (root_of mount)).filesystem
        → is_used_or_among inodes swept filesystem mount.root ≡ true
    by_root mount m e = ⊎_elim (λ is. may_go (root_inode world mount.number)
        (among-append_left (map (root_inode world) gone) (map (inode_at world) left) (root_inode world mount.number)
        (among-map (root_inode world) gone mount.number (among_numbers mount.number gone is)))
        e mount.root (ap (λ x. x.root) (sym (found_mount mount m)))) (λ isnt. let image = loses.images mount m in
        or_right (is_inode_among filesystem.number mount.root inodes) _ (used_still (root_of mount)
        (among-append_left (all_locations after ++ map root_of mounted.mounts)
        (filter_map (λ x. x.mount_point) mounted.mounts) (root_of mount)
        (among-append_right (all_locations after) (map root_of mounted.mounts) (root_of mount)
        (subst (λ l. Among l (map root_of mounted.mounts)) image.1.1.0
        (among-map root_of mounted.mounts image.0 (among-filter (mount_lives nat_eq after) mounts image.0 image.1.0
        (image_lives mount isnt image)))))) (e ∙ sym (found_still (root_of mount)
        (among-append_left (all_locations world ++ map root_of world.mounts)
        (filter_map (λ x. x.mount_point) world.mounts) (root_of mount)
        (among-append_right (all_locations world) (map root_of world.mounts) (root_of mount)
        (among-map root_of world.mounts mount m))) (stays_there mount.number isnt)))))
        (cases_Bool (is_among nat_eq mount.number gone))

    by_place : (mount : Mount ℕ) → Among mount world.mounts → (place : Location ℕ) → mount.mount_point ≡ Some place
        → filesystem.number ≡ (mount_at nat_eq world place).filesystem
        → is_used_or_among inodes swept filesystem place.node ≡ true
    by_place mount m place p e = ⊎_elim (λ still. or_right _ _ (used_still place
        (among-append_right _ _ place (among-filter_map _ _ _ place (among-filter _ mounts _ still.1.0
        (or_left _ _ (is_attached _ still.1.0 still.1.1.0 _ refl))) still.1.1.0))
        (e ∙ sym (found_still place (among-append_right _ _ place (among-filter_map _ _ mount place m p))
        (⊎_elim (stays_there _) (λ in_one other n same. or_left _ _ (in_one other n same)) still.1.1.1)))))
        (λ gone_from. left_may_go place gone_from e) (loses.places mount m place p)
      where
        is_attached : (on : Mount ℕ) → Among on mounts → on.mount_point ≡ Some place → (b : Bool)
            → is_some on.namespace ≡ b → is_some on.namespace ≡ true
        is_attached on n q true f = f
        is_attached on n q false f =
            cc ((nowhere_parts on (among_from_list_all is_nowhere_or_attached mounts loses.nowhere on n) f).0)

    pub by_located : (inode : ℕ) → Among inode (located_in nat_eq world filesystem.number)
        → is_used_or_among inodes swept filesystem inode ≡ true
    by_located inode m =
        let from = among-from_map _ _ inode m in
        let here = among-from_filter _ _ from.0 from.1 in
        let e : filesystem.number ≡ (mount_at nat_eq world from.0).filesystem = eqb-true filesystem.number
        (mount_at nat_eq world from.0).filesystem here.1 in
        ap (is_used_or_among inodes swept filesystem) from.2 ∙ ⊎_elim (λ other. ⊎_elim (λ at. by_location from.0 at e)
        (λ root. let mount = among-from_map _ _ from.0 root in
        ap (λ l. is_used_or_among inodes swept filesystem l.node) mount.2 ∙ by_root _ mount.1
        (e ∙ ap (λ l. (mount_at nat_eq world l).filesystem) mount.2)) (among-append _ _ from.0 other))
        (λ place. let mount = among-from_filter_map _ _ from.0 place in
        by_place _ mount.1 from.0 mount.2 e) (among-append _ _ from.0 here.0)

    -- an inode of a new filesystem is its root, or has a name
    pub by_a_name : (inode : ℕ) → (nat_eq inode filesystem.files.tree.root
        || is_among nat_eq inode (named_in filesystem.files)) ≡ true
        → is_used_or_among inodes swept filesystem inode ≡ true
    by_a_name inode is = or_right (is_inode_among filesystem.number inode inodes) _ (⊎_elim
        (or_left (nat_eq inode filesystem.files.tree.root) _)
        (λ named. or_right (nat_eq inode filesystem.files.tree.root) _
        (is_among_left inode (named_in filesystem.files ++ located_in nat_eq swept filesystem.number
        ++ layers_in nat_eq swept filesystem.number)
        (flat_map (objects_of_overlay nat_eq filesystem.number) swept.filesystems)
        (is_among_left inode (named_in filesystem.files ++ located_in nat_eq swept filesystem.number)
        (layers_in nat_eq swept filesystem.number)
        (is_among_left inode (named_in filesystem.files) (located_in nat_eq swept filesystem.number) named))))
        (or_cases (nat_eq inode filesystem.files.tree.root) (is_among nat_eq inode (named_in filesystem.files)) is))

  -- Worlds of plain filesystems
  module _ (plain : IsPlain world) where
    was_mounted : (filesystem : Filesystem ℕ) → Among filesystem world.filesystems
        → is_mounted nat_eq world filesystem.number ≡ true
    was_mounted filesystem m = ⊎_elim (λ e. e) (λ layered. absurd
        (true≢false (sym layered ∙ no_layers filesystem.number world world.filesystems plain)))
        (or_cases (is_mounted nat_eq world filesystem.number) _
        (among_from_list_all (filesystem_lives nat_eq world) world.filesystems in_use.filesystems filesystem m))

    filesystems_but : FilesystemsInUseBut losers.filesystems mounted
    filesystems_but = list_all_from_among _ _ (λ filesystem m.
        let lives = λ (e : is_mounted nat_eq mounted filesystem.number ≡ true). or_right _ _ (or_left _ _ e) in
        ⊎_elim (λ was. ⊎_elim lives (λ gone_with. or_left _ _ (is_among_numbers _ _
        (subst (λ n. Among n losers.filesystems) (sym gone_with.2) (among-map _ gone _ gone_with.1))))
        (still_mounted _ (was_mounted _ was))) (λ new. lives (shown_is_mounted _ new.0 new.1.0 new.1.1.0 new.1.1.1.0))
        (come.new filesystem m))

    by_a_use : (filesystem : Filesystem ℕ) (inode : ℕ) → is_inode_used world filesystem inode ≡ true
        → is_used_or_among inodes living filesystem inode ≡ true
    by_a_use filesystem inode is = ⊎_elim (λ root. or_right (is_inode_among filesystem.number inode inodes) _
        (or_left (nat_eq inode filesystem.files.tree.root) _ (eq-eqb inode filesystem.files.tree.root root)))
        (λ rest. ⊎_elim (λ named. by_a_name living.filesystems filesystem inode
        (or_right (nat_eq inode filesystem.files.tree.root) (is_among nat_eq inode (named_in filesystem.files)) named))
        (by_located living.filesystems filesystem inode) rest) (plain_uses world plain filesystem inode is)

    inodes_but : InodesInUseBut inodes living
    inodes_but =
        all_from_among (λ f. list_all (is_used_or_among inodes living f) f.files.numbers ≡ true) living.filesystems
        (λ filesystem m. let there = among-from_filter (filesystem_lives nat_eq mounted) filesystems filesystem m in
        list_all_from_among (is_used_or_among inodes living filesystem) filesystem.files.numbers (λ inode n. ⊎_elim
        (λ was. by_a_use filesystem inode (among_from_list_all (is_inode_used world filesystem) filesystem.files.numbers
        (among_from_all (λ f. list_all (is_inode_used world f) f.files.numbers
        ≡ true) world.filesystems in_use.inodes filesystem was) inode n))
        (λ new. by_a_name living.filesystems filesystem inode
        (among_from_list_all (λ k. nat_eq k filesystem.files.tree.root || is_among nat_eq k
        (named_in filesystem.files)) filesystem.files.numbers new.1.1.1.1 inode n)) (come.new filesystem there.0)))

    -- all but what lost a use is in use
    pub all_but_losers : AllInUseBut losers after
    all_but_losers = grind (arith, common_steps, mounts_but, filesystems_but, inodes_but, groups_but)

-- what lost a use goes, if nothing uses it, and nothing else
pub losers_go : (world : World ℕ) (mounts : List (Mount ℕ)) (master : ℕ → Option ℕ) (namespaces : List (Namespace ℕ))
    (tasks : List (Task ℕ)) (gone : List ℕ) (left : List (Location ℕ)) (groups : List ℕ) → IsSettledPlain world
    → Loses world (changed world mounts master namespaces tasks) gone left
    → GroupsInUseBut groups (changed world mounts master namespaces tasks)
    → settled nat_eq (changed world mounts master namespaces tasks)
    ≡ let_go (changed world mounts master namespaces tasks) (used_by_mounts world gone left groups)
losers_go world mounts master namespaces tasks gone left groups settles loses hears =
    all_goes_one_by_one (changed world mounts master namespaces tasks)
    (used_by_mounts world gone left groups) settles.plain settles.trees
    (all_but_losers world mounts master world.filesystems namespaces tasks gone left groups settles.in_use
    settles.mounts loses hears (record { kept = λ f m. m; new = λ f m. inl m }) settles.plain)
