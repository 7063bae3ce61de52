-- The event that removes a directory, with the mounts on it: rmdir(2).
use Rattle.std.proofs.Common.{◌≡◌, ◌≢◌, refl, sym, ap, subst, ◌∙◌, ℕ, nat_eq, true, ◌&&◌, List, [], map, filter, flat_map, length, option_to_list}
use Rattle.vt_spec.proofs.Common.{Change, Fits, Fresh, Inodes, Mount, Permit, Remove, TaskName, ToChange, ToRemoveDirectory, World, apply, mount_numbered, regrouped, tree_of, with_change}
use Rattle.vt_spec.specs.Inodes.{changed}
use Rattle.vt_ns.proofs.Common.{ChangesFiles, ChangesInodes, Filesystems, Grouping, HasChildrenOf, IsDone, IsFilesEvent, IsHeld, IsLocated, IsSmall, LeaveTogether, Merged, MountEntry, NamesWhatIsThere, OverlaysLeft, Permits, SeesTo, StoreValue, WorldValue, counted, detached_world, given_changes_fit, given_permits_are_seen_to, inodes_seen, is_counted_before, is_small_node, kept, kept_of, kept_with, located_filesystem, location_of, merged_of, mounts_in, nodes_named, number_of, numbers_of_trees, permit_fits, permit_named, remade_with, small_parts, stands_over, supply_of, taken_regroups, tree_numbers, with_filesystems, with_store, world_of}
use Rattle.vt_location.specs.declared.locations.Location.{Location}
use Rattle.vt_location.specs.declared.numbers.MountId.{MountId}
use Rattle.vt_ns.proofs.world.ChangedWithMounts.{changed_then_detached, nothing_goes}
use Rattle.vt_ns.proofs.world.FileRemoving as Removing
use Rattle.vt_mounting.proofs.detach.LazilyUnmounted.{trees_have_children}
use Rattle.vt_ns.proofs.world.DetachedStored.{collected_leave, left_is_stored, none_goes, some_go}
use Rattle.vt_ns.proofs.world.MountsOn.{none_on, one_on, tops_on, trees_collected}
use Rattle.vt_ns.proofs.world.PlainStored.{files_stored}

module _ (value : WorldValue) (held : IsHeld value) (name : TaskName) (parent : Location) (entry : List ℕ)
    (directory : Location) (small : IsSmall parent) (small_directory : is_small_node directory.node ≡ true)
    (permits : Permits value name (ToRemoveDirectory (location_of parent) entry (location_of directory))) where
  abbrev world : World ℕ
  world = world_of value

  abbrev permit : Permit ℕ
  permit = ToRemoveDirectory (location_of parent) entry (location_of directory)

  abbrev change : Change ℕ
  change = Remove (number_of parent.node) entry (number_of directory.node)

  abbrev tops : List (Mount ℕ)
  tops = tops_on value directory

  abbrev gone : List ℕ
  gone = numbers_of_trees world tops

  names : NamesWhatIsThere world permits.task permit
  names = (permit_fits value held name permit permits).names

  abbrev small_slot : IsSmall directory
  small_slot = (small_parts directory.node small_directory).slot

  -- the parent stands where the world has it
  parent_seen : IsLocated value parent
  parent_seen = Removing.parent_seen value held name parent entry directory small small_slot permits

  directory_seen : IsLocated value directory
  directory_seen = Removing.directory_seen value held name parent entry directory small small_slot permits

  sees : SeesTo world permits.task permit
  sees = given_permits_are_seen_to world (supply_of value permit) permits.task permit held.in_world permits.given

  -- what is collected are the mounts on the directory, with their descendants
  pub collected_are : (numbers : List ℕ) → numbers ≡ flat_map (tree_numbers (mounts_in value.mounts))
      (map (λ (mount : Mount ℕ). mount.number)
      (filter (stands_over (number_of directory.node)) (mounts_in value.mounts))) → numbers ≡ gone
  collected_are numbers is = is ∙ trees_collected value held directory small_directory names.1.reached.there

  closed : HasChildrenOf gone world.mounts
  closed = trees_have_children world held.in_world.mounts tops

  applied : (supply : Fresh ℕ) → (apply nat_eq supply world permits.task permit).world
      ≡ with_change nat_eq supply (regrouped nat_eq (detached_world gone world)) (location_of parent) change
  applied supply = ap (λ w. with_change nat_eq supply w (location_of parent) change) (taken_regroups world gone closed)

  -- the change can be made to the inodes that are kept
  change_fits : (inodes : Inodes ℕ) → inodes ≡ inodes_seen parent_seen.entry → Fits inodes change
  change_fits inodes same = given_changes_fit world (supply_of value permit) permits.task permit (location_of parent)
      change inodes held.in_world permits.given refl (ap tree_of same
      ∙ ap (λ filesystem. filesystem.files.tree) (sym (located_filesystem value held parent parent_seen)))

  -- where no mount stands on it
  pub alone_is_removed : gone ≡ [] → (filesystems : Filesystems) → ChangesInodes parent.node.filesystem.count
      (λ inodes. changed nat_eq inodes change) value.filesystems filesystems
      → IsFilesEvent value name permit (with_filesystems value filesystems)
  alone_is_removed none filesystems changes =
      Removing.removal_is_done value held name parent entry directory small small_slot permits
      (none_on world tops none) filesystems changes

  -- a directory on which mounts stand is removed with them
  pub directory_is_removed : (filesystems others : Filesystems) (overlays : List Merged)
      (mounts : List MountEntry) (groups : Grouping) → gone ≢ [] → ChangesInodes parent.node.filesystem.count
      (λ inodes. changed nat_eq inodes change) value.filesystems filesystems
      → LeaveTogether gone (kept_of (with_filesystems value filesystems)) value.groups
      (kept_with mounts others overlays) groups
      → IsDone value name permit (record (remade_with value mounts others overlays value.tasks) { groups = groups })
  directory_is_removed filesystems others overlays mounts groups some changes together =
      let made : ChangesFiles value (location_of parent) change filesystems = record {
        entry = parent_seen.entry;
        among = parent_seen.among;
        found = parent_seen.found;
        shows = parent_seen.shows;
        fits = change_fits (inodes_seen parent_seen.entry) refl;
        links = tt;
        changes =
            subst (λ count. ChangesInodes count (λ inodes. changed nat_eq inodes change) value.filesystems filesystems)
            (sym parent_seen.count_is) changes;
        own = λ number other. tt;
      } in
      let reached : NamesWhatIsThere world permits.task (ToChange (location_of parent) change) =
      (names.0.reached, tt) in
      let named : permit_named (is_counted_before value.next) (ToChange (location_of parent) change) ≡ true =
      (λ i. parent_seen.named i && (nodes_named value.next parent.node i && nodes_named value.next directory.node i)) in
      let is_named : permit_named (is_counted_before value.next) permit
      ≡ true = (λ i. parent_seen.named i && directory_seen.named i) in
      let on = one_on value held directory small_directory (λ none. some (ap (numbers_of_trees world) none)) in
      changed_then_detached value held
      (location_of parent) change filesystems made name permit permits gone reached named is_named applied
      (nothing_goes value held (location_of parent) change filesystems made name permit permits gone reached named is_named applied
      (number_of directory.node) (ap option_to_list sees.1.named) tt on.mount on.among on.place on.placed on.at_inode
      (on.shows ∙ ap (λ n. (mount_numbered nat_eq world n).filesystem) sees.0))
      closed mounts groups others overlays together

-- What code does with its store

module _ (base : WorldValue) (store : StoreValue) (held : IsHeld (with_store store base)) (name : TaskName)
    (parent : Location) (entry : List ℕ) (directory : Location)
    (small : IsSmall parent) (small_directory : is_small_node directory.node ≡ true)
    (permits : Permits (with_store store base) name
    (ToRemoveDirectory (location_of parent) entry (location_of directory))) (ids : List MountId)
    (collected : map (λ id. counted id.count) ids ≡ flat_map (tree_numbers (mounts_in base.mounts))
    (map (λ (mount : Mount ℕ). mount.number)
    (filter (stands_over (number_of directory.node)) (mounts_in base.mounts)))) where
  abbrev removed : Permit ℕ
  removed = ToRemoveDirectory (location_of parent) entry (location_of directory)

  abbrev trees : List ℕ
  trees = numbers_of_trees (world_of (with_store store base)) (tops_on (with_store store base) directory)

  are : map (λ id. counted id.count) ids ≡ trees
  are = collected_are (with_store store base) held name parent entry directory small small_directory permits
      (map (λ id. counted id.count) ids) collected

  -- the mounts that are collected leave with the directory
  pub directory_goes : length ids ≢ 0 → (plain : Filesystems) → ChangesInodes parent.node.filesystem.count
      (λ inodes. changed nat_eq inodes (Remove (number_of parent.node) entry (number_of directory.node)))
      store.plain plain → (mounts : List MountEntry) (groups : Grouping) (last : StoreValue)
      → LeaveTogether (map (λ id. counted id.count) ids) (kept base.mounts (record store { plain = plain }))
      base.groups (kept mounts last) groups → OverlaysLeft store.overlays last.overlays
      → IsDone (with_store store base) name removed (with_store last (record base { mounts = mounts; groups = groups }))
  directory_goes some plain changes mounts groups last left overlays =
      left_is_stored base store held ids trees are plain mounts groups last left overlays name removed permits
      (directory_is_removed (with_store store base) held name parent entry directory small small_directory permits
      plain last.plain (map merged_of last.overlays) mounts groups (some_go base store held ids trees are some) changes
      (collected_leave base store held ids trees are plain mounts groups last left))

  -- it goes alone where none is collected
  pub directory_goes_alone : length ids ≡ 0 → (plain : Filesystems) → ChangesInodes parent.node.filesystem.count
      (λ inodes. changed nat_eq inodes (Remove (number_of parent.node) entry (number_of directory.node)))
      store.plain plain
      → IsFilesEvent (with_store store base) name removed (with_store (record store { plain = plain }) base)
  directory_goes_alone none plain changes = files_stored base store held name removed permits plain
      (alone_is_removed (with_store store base) held name parent entry directory small small_directory permits
      (none_goes base store held ids trees are none) plain changes)
