-- What calls that change overlays let go of.
use Rattle.std.proofs.Common.{arith, ◌≡◌, refl, sym, ap, subst, ◌∙◌, ℕ, nat_eq, eq-eqb, Bool, true, false, not, ◌||◌, ◌&&◌, List, [], map, ⊎_elim, is_some, Some}
use Rattle.vt_spec.proofs.Common.{Change, Filesystem, Fresh, IsWorld, Layer, Location, Make, Mount, Overlay, Task, ToRemoveDirectory, ToRename, World, among_from_contains, and_parts, common_steps, evens, filesystem_lives, is_among, is_located, is_mounted, is_there, mount_at, mount_lives, mounts_on, not-true, number-mount_in, odds, or_cases, settled, taken_away, with_change, with_descriptor, with_task, without_dead_mounts}
use Rattle.vt_laws_trees.proofs.layers.layers.LowersWorld.{number_of_filesystem}
use Rattle.vt_laws_mounts.specs.LettingGo.InUse.{HasTrees, UppersArePlain}
use Rattle.vt_laws_mounts.specs.LettingGo.Leaving.{only_these_are_left, with_tasks}
use Rattle.vt_laws_mounts.specs.LettingGo.LeavingOverlays.{IsSettled}
use Rattle.vt_laws_mounts.specs.LettingGo.MountingOverlays.{used_by_gone_with_layers}
use Rattle.vt_laws_mounts.specs.LettingGo.OneByOne.{Inode}
use Rattle.vt_laws_mounts.specs.LettingGo.Overlays.{RealsAreThere, let_go_all, let_go_all_inodes}
use Rattle.vt_laws_mounts.specs.LettingGo.TreesOverlays.{in_use_of, with_filesystems, with_lost}
use Rattle.vt_laws_mounts.specs.LettingGo.Unmounting.{numbers_of_trees}
use Rattle.vt_laws_mounts.proofs.letting_go.leaving.FilesChanged.{none_left}
use Rattle.vt_laws_mounts.proofs.letting_go.Lists.{Among, among-filter, among-from_map, among-map, among_numbers, any_from_among, any_among, or_right, or_left, among_from_list_all}
use Rattle.vt_laws_mounts.proofs.letting_go.mounting.MountingTaken.{after, hands_on, same_filesystem, same_namespace, same_number, shows_the_same, taken_is}
use Rattle.vt_laws_mounts.proofs.letting_go.mounting.MountingTaken
use Rattle.vt_laws_mounts.proofs.letting_go.leaving.PlacesLeft.{found_itself, mounts_but}
use Rattle.vt_laws_mounts.proofs.letting_go.leaving.TreesWithOverlays.{left_and_changed_lets_go, taken_and_changed_lets_go}
use Rattle.vt_laws_worlds.specs.Worlds.Permits.{IsReached}
use Rattle.vt_laws_worlds.specs.OverlaysLetGo.OverlayCalls.{MadeInOverlaysLetsGo, OpenedNewInOverlaysLetsGo, RemovedFromOverlaysLetGo, ReplacedInOverlaysLetGo, TakenAndOverlayChangesLetGo, is_on_mount, keeps_a_mount}
use Rattle.vt_laws_worlds.specs.OverlaysLetGo.OverlayChanges.{CanChange, inodes_lost_with_upper}
use Rattle.vt_laws_worlds.proofs.overlays_let_go.changing.MountsOfOthers.{removal_reached, removing_keeps_the_mount, replacing_keeps_the_mount}
use Rattle.vt_laws_worlds.proofs.overlays_let_go.changing.OverlaysChanged.{HasThese, all_changed, all_changed_within, becomes, is_swap, merged, merged_there, new_merged, overlay_changes_let_go, reals_then, settles, swap_both, trees_then, uppers_then}

-- the mount of a location is there
mount_there : (world : World ℕ) → IsWorld nat_eq world → (location : Location ℕ) → is_on_mount world location ≡ true
    → Among (mount_at nat_eq world location) world.mounts
mount_there world conditions location on =
    let found = among-from_map _ _ _ (among_numbers _ (map (λ (m : Mount ℕ). m.number) world.mounts) on) in
    subst (λ m. Among m world.mounts) (cc (found_itself world.mounts conditions.mounts.one_number found.0 found.1))
    found.1

-- if it is none of these, its filesystem keeps it
keeps_its_mount : (world : World ℕ) → IsWorld nat_eq world → (gone : List ℕ) (location : Location ℕ)
    → is_on_mount world location ≡ true → is_among nat_eq location.mount gone ≡ false
    → keeps_a_mount world gone (mount_at nat_eq world location).filesystem ≡ true
keeps_its_mount world conditions gone location on stays = any_from_among (λ (m : Mount ℕ). nat_eq number m.filesystem
    && (not (is_among nat_eq m.number gone) || is_located nat_eq world m.number))
    world.mounts (mount_at nat_eq world location) (mount_there world conditions location on)
    (ap (λ b. b && (not (is_among nat_eq (mount_at nat_eq world location).number gone)
    || is_located nat_eq world (mount_at nat_eq world location).number)) (eq-eqb number number refl)
    ∙ ap (λ n. not (is_among nat_eq n gone) || is_located nat_eq world n) (number-mount_in world.mounts location.mount)
    ∙ ap (λ b. not b || is_located nat_eq world location.mount) stays)
  where
    number : ℕ
    number = (mount_at nat_eq world location).filesystem

pub reached_on_mount : (world : World ℕ) (task : Task ℕ) (location : Location ℕ) → IsReached world task location
    → is_on_mount world location ≡ true
reached_on_mount world task location reached = (and_parts (is_on_mount world location)
    (is_there nat_eq world (mount_at nat_eq world location).filesystem location.node) reached.there).0

-- a filesystem that keeps a mount is mounted still, by a mount in use
still_mounted : (world : World ℕ) → IsSettled world → (gone : List ℕ) (number : ℕ)
    → keeps_a_mount world gone number ≡ true
    → is_mounted nat_eq (without_dead_mounts nat_eq (taken_away nat_eq world gone)) number ≡ true
still_mounted world settles gone number keeps =
    subst (λ w. is_mounted nat_eq (without_dead_mounts nat_eq w) number ≡ true) (sym (taken_is world gone))
    (any_from_among (λ (m : Mount ℕ). nat_eq number m.filesystem) (without_dead_mounts nat_eq then_).mounts image
    (among-filter (mount_lives nat_eq then_) then_.mounts image
    (among-map (MountingTaken.change world gone world.namespaces b) world.mounts mount kept.1) (⊎_elim stays located
    (or_cases (not (is_among nat_eq mount.number gone)) (is_located nat_eq world mount.number) parts.1)))
    (ap (nat_eq number) (same_filesystem world gone world.namespaces b mount) ∙ parts.0))
  where
    b : Bool
    b = hands_on world gone

    then_ : World ℕ
    then_ = after world gone world.namespaces b

    kept : (m : Mount ℕ) × Among m world.mounts × ((nat_eq number m.filesystem
        && (not (is_among nat_eq m.number gone) || is_located nat_eq world m.number)) ≡ true)
    kept = any_among (λ m. nat_eq number m.filesystem
        && (not (is_among nat_eq m.number gone) || is_located nat_eq world m.number)) world.mounts keeps

    mount : Mount ℕ
    mount = kept.0

    image : Mount ℕ
    image = MountingTaken.change world gone world.namespaces b mount

    parts : (nat_eq number mount.filesystem ≡ true)
        × ((not (is_among nat_eq mount.number gone) || is_located nat_eq world mount.number) ≡ true)
    parts = and_parts (nat_eq number mount.filesystem)
        (not (is_among nat_eq mount.number gone) || is_located nat_eq world mount.number) kept.2

    located : is_located nat_eq world mount.number ≡ true → mount_lives nat_eq then_ image ≡ true
    located on = or_right (is_some image.namespace) (is_located nat_eq then_ image.number)
        (ap (is_located nat_eq world) (same_number world gone world.namespaces b mount) ∙ on)

    stays : not (is_among nat_eq mount.number gone) ≡ true → mount_lives nat_eq then_ image ≡ true
    stays isnt = grind (arith, common_steps, same_namespace, not-true, same_number, among_from_list_all, settles, kept)

module _ {fresh : Fresh ℕ} {world : World ℕ} {location : Location ℕ} {change : Change ℕ} {overlay : Overlay ℕ}
    {upper : Layer ℕ} (conditions : IsWorld nat_eq world)
    (can : CanChange fresh world location change overlay upper) where
  abbrev swap : Filesystem ℕ → Filesystem ℕ
  swap = swap_both conditions can

  abbrev number : ℕ
  number = (mount_at nat_eq world location).filesystem

  abbrev then_merged : Filesystem ℕ
  then_merged = new_merged conditions can

  -- an overlay that is mounted is in use
  lives_then : (other : World ℕ) → other.filesystems ≡ world.filesystems
      → is_mounted nat_eq (without_dead_mounts nat_eq other) number ≡ true
      → Among then_merged (in_use_of (with_filesystems other swap)).filesystems
  lives_then other same is =
      among-filter (filesystem_lives nat_eq (without_dead_mounts nat_eq (with_filesystems other swap)))
      (map swap other.filesystems) then_merged (subst (λ fs. Among then_merged (map swap fs)) (sym same)
      (subst (λ f. Among f (map swap world.filesystems)) (becomes conditions can)
      (among-map swap world.filesystems (merged conditions can) (merged_there conditions can))))
      (or_left (is_mounted nat_eq (without_dead_mounts nat_eq other) then_merged.number) _
      (ap (is_mounted nat_eq (without_dead_mounts nat_eq other)) (number_of_filesystem world number) ∙ is))

  goes_with_mounts : (gone : List ℕ) → keeps_a_mount world gone number ≡ true
      → settled nat_eq (with_change nat_eq fresh (taken_away nat_eq world gone) location change)
      ≡ let_go_all (with_change nat_eq fresh (taken_away nat_eq world gone) location change)
      (with_lost (used_by_gone_with_layers world gone)
      (inodes_lost_with_upper fresh world location overlay upper change))
  goes_with_mounts gone keeps =
      subst (λ w. settled nat_eq w ≡ let_go_all w (with_lost (used_by_gone_with_layers world gone)
      (inodes_lost_with_upper fresh world location overlay upper change))) (sym (is_swap conditions can taken
      (ap (λ w. w.filesystems) (taken_is world gone))
      (ap (λ w. (mount_at nat_eq w location).filesystem) (taken_is world gone)
      ∙ shows_the_same world gone world.namespaces (hands_on world gone) location.mount)))
      (taken_and_changed_lets_go world gone swap (inodes_lost_with_upper fresh world location overlay upper change)
      (settles conditions can) (subst (λ w. HasTrees (with_filesystems w swap)) (sym (taken_is world gone))
      (trees_then conditions can)) (subst (λ w. UppersArePlain (with_filesystems w swap)) (sym (taken_is world gone))
      (uppers_then conditions can)) (subst (λ w. RealsAreThere (with_filesystems w swap)) (sym (taken_is world gone))
      (reals_then conditions can)) (all_changed conditions can (in_use_of (with_filesystems taken swap))
      (lives_then taken (ap (λ w. w.filesystems) (taken_is world gone))
      (still_mounted world (settles conditions can) gone number keeps))))
    where
      taken : World ℕ
      taken = taken_away nat_eq world gone

  -- and a task comes to more locations; of inodes with all that may have lost their last name
  pub goes_with_task_within : (new : Task ℕ) → only_these_are_left world (with_task world new).tasks [] ≡ true
      → is_on_mount world location ≡ true
      → (wider : List Inode) → HasThese (inodes_lost_with_upper fresh world location overlay upper change) wider
      → settled nat_eq (with_task (with_change nat_eq fresh world location change) new)
      ≡ let_go_all_inodes (with_task (with_change nat_eq fresh world location change) new) wider
  goes_with_task_within new only on wider has =
      subst (λ w. settled nat_eq (with_task w new) ≡ let_go_all_inodes (with_task w new) wider)
      (sym (is_swap conditions can world refl refl))
      (left_and_changed_lets_go world tasks [] swap wider settled_world only (trees_then conditions can)
      (uppers_then conditions can) (reals_then conditions can) (all_changed_within conditions can
      (in_use_of (with_filesystems (with_tasks world tasks) swap)) (lives_then (with_tasks world tasks) refl
      (any_from_among (λ (m : Mount ℕ). nat_eq number m.filesystem)
      (without_dead_mounts nat_eq (with_tasks world tasks)).mounts at_location
      (among-filter (mount_lives nat_eq (with_tasks world tasks)) world.mounts at_location there
      (among_from_list_all (mount_lives nat_eq (with_tasks world tasks)) world.mounts
      (mounts_but world tasks [] settled_world.in_use settled_world.mounts only) at_location there))
      (eq-eqb number number refl))) wider has))
    where
      tasks : List (Task ℕ)
      tasks = (with_task world new).tasks

      settled_world : IsSettled world
      settled_world = settles conditions can

      at_location : Mount ℕ
      at_location = mount_at nat_eq world location

      there : Among at_location world.mounts
      there = mount_there world conditions location on

  pub goes_with_task : (new : Task ℕ) → only_these_are_left world (with_task world new).tasks [] ≡ true
      → is_on_mount world location ≡ true
      → settled nat_eq (with_task (with_change nat_eq fresh world location change) new)
      ≡ let_go_all_inodes (with_task (with_change nat_eq fresh world location change) new)
      (inodes_lost_with_upper fresh world location overlay upper change)
  goes_with_task new only on = goes_with_task_within new only on _ (λ filesystem inode e. e)

pub made_in_overlays_lets_go : MadeInOverlaysLetsGo
made_in_overlays_lets_go fresh world task directory name node overlay upper conditions can =
    overlay_changes_let_go (odds fresh) world directory
    (Make directory.node name (evens fresh 0) node) overlay upper conditions can

pub taken_and_overlay_changes_let_go : TakenAndOverlayChangesLetGo
taken_and_overlay_changes_let_go fresh world gone location change overlay upper conditions can keeps =
    goes_with_mounts conditions can gone keeps

pub removed_from_overlays_let_go : RemovedFromOverlaysLetGo
removed_from_overlays_let_go fresh world task call parent name directory overlay upper conditions called judged can =
    goes_with_mounts conditions can (numbers_of_trees world (mounts_on nat_eq world directory))
    (keeps_its_mount world conditions (numbers_of_trees world (mounts_on nat_eq world directory)) parent
    (reached_on_mount world task parent
    (removal_reached fresh world conditions task called call (ToRemoveDirectory parent name directory) judged).0)
    (removing_keeps_the_mount fresh world task call parent name directory conditions called judged))

pub replaced_in_overlays_let_go : ReplacedInOverlaysLetGo
replaced_in_overlays_let_go fresh world task call from old to new object replaced overlay upper conditions called judged
    can = goes_with_mounts conditions can (numbers_of_trees world (mounts_on nat_eq world replaced))
    (keeps_its_mount world conditions (numbers_of_trees world (mounts_on nat_eq world replaced)) from
    (reached_on_mount world task from (removal_reached fresh world conditions task called call
    (ToRename from old to new object (Some replaced)) judged).0)
    (replacing_keeps_the_mount fresh world task call from old to new object replaced conditions called judged))

pub opened_new_in_overlays_lets_go : OpenedNewInOverlaysLetsGo
opened_new_in_overlays_lets_go fresh world task directory name node access overlay upper conditions there on can =
    goes_with_task conditions can (with_descriptor task file access)
    (none_left world task file access conditions.tasks.one_task (among_from_contains world.tasks task there)) on
  where
    file : Location ℕ
    file = record { mount = directory.mount; node = evens fresh 0 }
