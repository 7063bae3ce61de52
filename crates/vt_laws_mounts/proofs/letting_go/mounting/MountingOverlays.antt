-- What goes after a change of mounts in worlds with overlays.
use Rattle.std.proofs.Common.{not, refl, ◌≡◌, sym, ap, subst, ◌∙◌, inl, inr, ⊎_elim, ℕ, nat_eq, true, ◌||◌, ◌&&◌, List, [], ◌∷◌, flat_map, ◌++◌, Option}
use Rattle.vt_spec.proofs.Common.{Filesystem, Location, Mount, Namespace, Task, World, and_parts, filesystem_lives, has_layer_on, is_among, is_among_left, is_among_right, is_mounted, is_overlay, layers_in, list_all, list_any-append, located_in, mount_numbered, named_in, objects_of_overlay, or_cases, settled, without_dead_filesystems, without_dead_groups, without_dead_in, without_dead_inodes, without_dead_mounts}
use Rattle.vt_laws_mounts.specs.LettingGo.InUse.{AllInUse, GroupsInUse, InodesInUse, is_inode_used}
use Rattle.vt_laws_mounts.specs.LettingGo.Leaving.{MountsStand}
use Rattle.vt_laws_mounts.specs.LettingGo.LeavingOverlays.{IsSettled}
use Rattle.vt_laws_mounts.specs.LettingGo.MountingOverlays.{filesystems_of_mount, used_by_mounts_with_layers}
use Rattle.vt_laws_mounts.specs.LettingGo.OneByOne.{AllInUseBut, FilesystemsInUseBut, GroupsInUseBut, Inode, InodesInUseBut, Losers, is_inode_among, is_used_or_among, let_go_groups}
use Rattle.vt_laws_mounts.specs.LettingGo.Overlays.{let_go_all, used_by_filesystems}
use Rattle.vt_laws_mounts.proofs.letting_go.sweeps.InUse.{layers_stay, filesystems_stay, inodes_stay, mounts_stay}
use Rattle.vt_laws_mounts.proofs.letting_go.sweeps.OneByOne.{groups_go_one_by_one}
use Rattle.vt_laws_mounts.proofs.letting_go.leaving.LeftWithOverlays.{in_layers}
use Rattle.vt_laws_mounts.proofs.letting_go.Lists.{Among, all_from_among, among-flat_map, among-from_flat_map, among_from_all, among_from_list_all, among_numbers, any_among, any_from_among, is_among_numbers, list_all_from_among, or_left, or_right}
use Rattle.vt_laws_mounts.proofs.letting_go.mounting.MountingLosers.{Comes, Loses, by_a_name, by_located, changed, changed_with, groups_but, inodes, mounts_but, shown_is_mounted, still_mounted}
use Rattle.vt_laws_mounts.proofs.letting_go.sweeps.OverlaysGone.{filesystems_take_their_uses}
use Rattle.vt_laws_mounts.proofs.letting_go.sweeps.WithOverlays.{with_overlays_all_goes}

module _ (world : World ℕ) (mounts : List (Mount ℕ)) (master : ℕ → Option ℕ) (filesystems : List (Filesystem ℕ))
    (namespaces : List (Namespace ℕ)) (tasks : List (Task ℕ)) (gone : List ℕ) (left : List (Location ℕ))
    (groups : List ℕ) (in_use : AllInUse world) (stand : MountsStand world)
    (loses : Loses world (changed_with world mounts master filesystems namespaces tasks) gone left)
    (hears : GroupsInUseBut groups (changed_with world mounts master filesystems namespaces tasks))
    (come : Comes world (changed_with world mounts master filesystems namespaces tasks)) where
  abbrev after : World ℕ
  after = changed_with world mounts master filesystems namespaces tasks

  abbrev now : World ℕ
  now = without_dead_mounts nat_eq after

  abbrev losing : List ℕ
  losing = flat_map (filesystems_of_mount world) gone

  abbrev lost : List Inode
  lost = inodes world mounts master filesystems namespaces tasks gone left groups in_use stand loses hears come

  old_filesystem : (f : Filesystem ℕ) → Among f world.filesystems
      → (is_among nat_eq f.number losing || filesystem_lives nat_eq now f) ≡ true
  old_filesystem f m = ⊎_elim (λ here. ⊎_elim
      (λ lives. or_right (is_among nat_eq f.number losing) (filesystem_lives nat_eq now f)
      (or_left (is_mounted nat_eq now f.number) _ lives))
      (λ gone_with. or_left (is_among nat_eq f.number losing) (filesystem_lives nat_eq now f)
      (is_among_numbers f.number losing
      (among-flat_map (filesystems_of_mount world) gone gone_with.0 f.number gone_with.1 (inl gone_with.2))))
      (still_mounted world mounts master filesystems namespaces tasks gone left groups in_use stand loses hears
      come f.number here)) (λ layered. let t = any_among (λ merged. has_layer_on nat_eq f.number merged
      && is_mounted nat_eq world merged.number) world.filesystems layered in
      let parts = and_parts (has_layer_on nat_eq f.number t.0) (is_mounted nat_eq world t.0.number) t.2 in
      ⊎_elim (λ lives. or_right (is_among nat_eq f.number losing) (filesystem_lives nat_eq now f)
      (or_right (is_mounted nat_eq now f.number) _ (any_from_among (λ merged. has_layer_on nat_eq f.number merged
      && is_mounted nat_eq now merged.number) filesystems t.0 (come.kept t.0 t.1) (cc (parts.0)))))
      (λ gone_with. or_left (is_among nat_eq f.number losing) (filesystem_lives nat_eq now f)
      (is_among_numbers f.number losing
      (among-flat_map (filesystems_of_mount world) gone gone_with.0 f.number gone_with.1
      (inr (in_layers world f.number t.0 t.1
      (mount_numbered nat_eq world gone_with.0).filesystem gone_with.2 parts.0)))))
      (still_mounted world mounts master filesystems namespaces tasks gone left groups in_use stand loses hears
      come t.0.number parts.1)) (or_cases (is_mounted nat_eq world f.number) _
      (among_from_list_all (filesystem_lives nat_eq world) world.filesystems in_use.filesystems f m))

  filesystems_but : FilesystemsInUseBut losing now
  filesystems_but = list_all_from_among _ _ (λ f m. ⊎_elim (old_filesystem f)
      (λ new. or_right _ _ (or_left _ _ (shown_is_mounted world mounts master _ _ tasks gone left groups in_use stand
      loses hears come _ new.0 new.1.0 new.1.1.0 new.1.1.1.0))) (come.new f m))

  layers_kept : (filesystem number : ℕ) → Among number (layers_in nat_eq world filesystem)
      → Among number (layers_in nat_eq now filesystem)
  layers_kept = layers_stay world (record now { filesystems = filesystems }) (λ f m. (f, come.kept f m, refl))

  objects_kept : (filesystem number : ℕ)
      → Among number (flat_map (objects_of_overlay nat_eq filesystem) world.filesystems)
      → Among number (flat_map (objects_of_overlay nat_eq filesystem) filesystems)
  objects_kept filesystem number m =
      let one = among-from_flat_map _ _ number m in
      among-flat_map _ _ one.0 number (come.kept one.0 one.1) one.2

  -- what the world used is used where mounts have gone, or may go
  use_left : (f : Filesystem ℕ) (number : ℕ) → is_inode_used world f number ≡ true
      → is_used_or_among lost now f number ≡ true
  use_left f number is = ⊎_elim (λ front. ⊎_elim (λ first. ⊎_elim (λ named. used (is_among_left number
      (names ++ located_in nat_eq now f.number ++ layers_in nat_eq now f.number) objects
      (is_among_left number (names ++ located_in nat_eq now f.number) (layers_in nat_eq now f.number)
      (is_among_left number names (located_in nat_eq now f.number) named))))
      (λ at. by_located world mounts master filesystems namespaces tasks gone left groups in_use stand loses hears come
      filesystems f number (among_numbers number (located_in nat_eq world f.number) at))
      (or_cases (is_among nat_eq number names) (is_among nat_eq number (located_in nat_eq world f.number))
      (cc (list_any-append (nat_eq number) names (located_in nat_eq world f.number)))))
      (λ layer. used (is_among_left number
      (names ++ located_in nat_eq now f.number ++ layers_in nat_eq now f.number) objects
      (is_among_right number (names ++ located_in nat_eq now f.number) (layers_in nat_eq now f.number)
      (is_among_numbers number (layers_in nat_eq now f.number)
      (layers_kept f.number number (among_numbers number (layers_in nat_eq world f.number) layer))))))
      (or_cases (is_among nat_eq number (names ++ located_in nat_eq world f.number))
      (is_among nat_eq number (layers_in nat_eq world f.number))
      (sym (list_any-append (nat_eq number) (names ++ located_in nat_eq world f.number)
      (layers_in nat_eq world f.number)) ∙ front))) (λ object. used (is_among_right number
      (names ++ located_in nat_eq now f.number ++ layers_in nat_eq now f.number) objects
      (is_among_numbers number objects (objects_kept f.number number
      (among_numbers number (flat_map (objects_of_overlay nat_eq f.number) world.filesystems) object)))))
      (or_cases (is_among nat_eq number (names ++ located_in nat_eq world f.number ++ layers_in nat_eq world f.number))
      (is_among nat_eq number (flat_map (objects_of_overlay nat_eq f.number) world.filesystems))
      (sym (list_any-append (nat_eq number)
      (names ++ located_in nat_eq world f.number ++ layers_in nat_eq world f.number)
      (flat_map (objects_of_overlay nat_eq f.number) world.filesystems)) ∙ is))
    where
      names : List ℕ
      names = f.files.tree.root ∷ named_in f.files

      objects : List ℕ
      objects = flat_map (objects_of_overlay nat_eq f.number) filesystems

      used : is_inode_used now f number ≡ true → is_used_or_among lost now f number ≡ true
      used h = or_right (is_inode_among f.number number lost) (is_inode_used now f number) h

  inodes_but : InodesInUseBut lost now
  inodes_but = all_from_among (λ f. list_all (is_used_or_among lost now f) f.files.numbers ≡ true) filesystems
      (λ f m. list_all_from_among (is_used_or_among lost now f) f.files.numbers
      (λ number n. ⊎_elim (λ was. use_left f number (among_from_list_all (is_inode_used world f) f.files.numbers
      (among_from_all (λ x. list_all (is_inode_used world x) x.files.numbers
      ≡ true) world.filesystems in_use.inodes f was) number n))
      (λ new. by_a_name world mounts master filesystems namespaces tasks gone left groups in_use stand loses hears come
      filesystems f number (among_from_list_all (λ k. nat_eq k f.files.tree.root
      || is_among nat_eq k (named_in f.files)) f.files.numbers new.1.1.1.1 number n)) (come.new f m)))

  abbrev all_losers : Losers
  all_losers = record {
    mounts = gone;
    filesystems = losing;
    inodes = lost ++ used_by_filesystems after losing;
    groups = groups;
  }

  pub all_but_those : AllInUseBut all_losers after
  all_but_those = record {
    mounts = mounts_but world mounts master filesystems namespaces tasks gone left groups in_use stand loses hears come;
    filesystems = filesystems_but;
    inodes = filesystems_take_their_uses now losing lost filesystems_but inodes_but;
    groups = groups_but world mounts master filesystems namespaces tasks gone left groups in_use stand loses hears come;
  }

-- what lost a use goes, if nothing uses it, and nothing else
pub all_losers_go : (world : World ℕ) (mounts : List (Mount ℕ)) (master : ℕ
    → Option ℕ) (namespaces : List (Namespace ℕ)) (tasks : List (Task ℕ))
    (gone : List ℕ) (left : List (Location ℕ)) (groups : List ℕ) → IsSettled world
    → Loses world (changed world mounts master namespaces tasks) gone left
    → GroupsInUseBut groups (changed world mounts master namespaces tasks)
    → settled nat_eq (changed world mounts master namespaces tasks)
    ≡ let_go_all (changed world mounts master namespaces tasks) (used_by_mounts_with_layers world gone left groups)
all_losers_go world mounts master namespaces tasks gone left groups settles loses hears =
    with_overlays_all_goes (changed world mounts master namespaces tasks)
    (used_by_mounts_with_layers world gone left groups) settles.trees settles.uppers settles.reals
    (all_but_those world mounts master world.filesystems namespaces tasks gone left groups settles.in_use settles.mounts
    loses hears (record { kept = λ f m. m; new = λ f m. inl m }))

-- where only groups lost members, only they go
pub only_groups_go : (world : World ℕ) (mounts : List (Mount ℕ)) (master : ℕ
    → Option ℕ) (filesystems : List (Filesystem ℕ)) (groups : List ℕ) → AllInUse world → MountsStand world
    → Loses world (changed_with world mounts master filesystems world.namespaces world.tasks) [] []
    → GroupsInUseBut groups (changed_with world mounts master filesystems world.namespaces world.tasks)
    → Comes world (changed_with world mounts master filesystems world.namespaces world.tasks)
    → settled nat_eq (changed_with world mounts master filesystems world.namespaces world.tasks)
    ≡ let_go_groups (changed_with world mounts master filesystems world.namespaces world.tasks) groups
only_groups_go world mounts master filesystems groups in_use stand loses hears come = ap (without_dead_groups nat_eq)
    (ap (without_dead_inodes nat_eq) all ∙ ap (without_dead_in nat_eq (λ filesystem. not (is_overlay filesystem)))
    (inodes_stay _ _ inodes) ∙ inodes_stay _ _ inodes) ∙ groups_go_one_by_one after_all groups hears
  where
    after_all : World ℕ
    after_all = changed_with world mounts master filesystems world.namespaces world.tasks

    but : AllInUseBut (record { mounts = []; filesystems = []; inodes = []; groups = groups }) after_all
    but = all_but_those world mounts master _ _ _ [] [] groups in_use stand loses hears come

    same : without_dead_mounts nat_eq after_all ≡ after_all
    same = mounts_stay _ but.mounts

    all : without_dead_filesystems nat_eq (without_dead_mounts nat_eq after_all) ≡ after_all
    all = filesystems_stay _ but.filesystems ∙ same

    inodes : InodesInUse after_all
    inodes = subst InodesInUse all but.inodes

-- where nothing lost a use, nothing goes
pub nothing_lost : (world : World ℕ) (mounts : List (Mount ℕ)) (master : ℕ → Option ℕ)
    (filesystems : List (Filesystem ℕ)) → AllInUse world → MountsStand world
    → Loses world (changed_with world mounts master filesystems world.namespaces world.tasks) [] []
    → GroupsInUse (changed_with world mounts master filesystems world.namespaces world.tasks)
    → Comes world (changed_with world mounts master filesystems world.namespaces world.tasks)
    → settled nat_eq (changed_with world mounts master filesystems world.namespaces world.tasks)
    ≡ changed_with world mounts master filesystems world.namespaces world.tasks
nothing_lost world mounts master filesystems in_use stand loses groups come =
    only_groups_go world mounts master _ [] in_use stand loses (λ group among none. groups group none) come
