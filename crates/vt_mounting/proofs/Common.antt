-- What the crates below declare and most proofs here cite, passed on from one place. Declares nothing.
pub use Rattle.vt_fs.proofs.Numbers.{found_by_number, numbers_apart_each, numbers_listed}
pub use Rattle.vt_fs.specs.FilesystemsValue.{ChangesInodes, FilesystemEntry, Filesystems, IsNew, Shown, entry_at, entry_of, filesystem_seen, filesystems_seen, inodes_at, inodes_seen, no_entry, numbers_seen, shown, shown_entry, shown_with, with_changed}
pub use Rattle.vt_group.proofs.Together.{regrouped_living}
pub use Rattle.vt_group.specs.Grouping.{Grouping, Has, HasGroup, master_in, no_groups, peer_of, peers_of, propagation_in}
pub use Rattle.vt_group.specs.Laws.{typed_by}
pub use Rattle.vt_group.specs.Together.{Grows, GrowsTo, TakesAway, as_private, new_group, typed}
pub use Rattle.vt_laws_mounts.proofs.counts.Alike.{any_same_worlds_count_alike}
pub use Rattle.vt_laws_mounts.proofs.counts.Listed.{same_numbers_are_permuted}
pub use Rattle.vt_laws_mounts.proofs.counts.going.Gone.{mount_takes_its_count}
pub use Rattle.vt_laws_mounts.proofs.counts.overlays.FilesystemUses.{no_upper_is_in_any}
pub use Rattle.vt_laws_mounts.proofs.counts.overlays.Living.{overlays_use_filesystems}
pub use Rattle.vt_laws_mounts.proofs.counts.using.Exchanged.{uses_are_exchanged_beside_overlays}
pub use Rattle.vt_laws_mounts.proofs.counts.using.Places.{exchanges_follow, locations_use_mounts, mount_is_placed}
pub use Rattle.vt_laws_mounts.proofs.letting_go.Lists.{Among, all_from_among, among-append, among-append_left, among-append_right, among-filter, among-filter_map, among-flat_map, among-from_filter, among-from_flat_map, among-from_map, among-map, among_from_all, among_from_list_all, among_numbers, any-filter, any-map, any_among, any_from_among, filter-map, filter_alike, filter_all, filter_less, filter_twice, flat_map_alike, found_in, is_among_left, is_among_numbers, list_all_from_among, map_same, none_among, none_from_among, or_left, or_right}
pub use Rattle.vt_laws_mounts.proofs.letting_go.leaving.PlacesLeft.{found_is_there, found_itself, number-mount_in}
pub use Rattle.vt_laws_mounts.proofs.letting_go.sweeps.OfWorlds.{found_filesystem, mounts_of_worlds_stand, worlds_have_trees}
pub use Rattle.vt_laws_mounts.proofs.letting_go.sweeps.OneByOne.{mounts_go_one_by_one}
pub use Rattle.vt_laws_mounts.proofs.letting_go.sweeps.UpperUses.{times_append}
pub use Rattle.vt_laws_mounts.proofs.letting_go.sweeps.UsesCounted.{located_while_counted, mounted_while_counted}
pub use Rattle.vt_laws_mounts.proofs.mounts.MountsNumbered.{parts_apart}
pub use Rattle.vt_laws_mounts.proofs.mounts.MountsReplaced.{one_number_by_numbers}
pub use Rattle.vt_laws_mounts.specs.Counts.BesideOverlays.{OverlaysHaveNoUpper}
pub use Rattle.vt_laws_mounts.specs.Counts.Counted.{IsCounted}
pub use Rattle.vt_laws_mounts.specs.Counts.OverlaysStay.{OverlaysAreNamed, layer_count, layers_among, mounted_layer_count}
pub use Rattle.vt_laws_mounts.specs.Counts.Using.{AreThere, Exchanges, exchanged, is_inode, is_on, pinned_if, places_of, unpinned_if}
pub use Rattle.vt_laws_mounts.specs.LettingGo.Attaching.{inodes_of_mount_point}
pub use Rattle.vt_laws_mounts.specs.LettingGo.Counts.{inode_uses, mount_uses, mounts_showing, times}
pub use Rattle.vt_laws_mounts.specs.LettingGo.Detaching.{detached_if}
pub use Rattle.vt_laws_mounts.specs.LettingGo.InUse.{FilesystemsInUse, InodesInUse, is_inode_used}
pub use Rattle.vt_laws_mounts.specs.LettingGo.Keeping.{LocationsStand, has_only_named}
pub use Rattle.vt_laws_mounts.specs.LettingGo.Leaving.{MountsStand, stands_on_attached}
pub use Rattle.vt_laws_mounts.specs.LettingGo.Mounting.{inode_at}
pub use Rattle.vt_laws_mounts.specs.LettingGo.OneByOne.{Inode, MountsInUseBut, is_mount_used, without_mount}
pub use Rattle.vt_laws_mounts.specs.LettingGo.TreesOverlays.{in_use_of}
pub use Rattle.vt_laws_mounts.specs.Mounts.Attaching.{OneNumberAMount, numbers_of}
pub use Rattle.vt_laws_mounts.specs.Mounts.Receivers.{AllGroupsLive}
pub use Rattle.vt_laws_rules.proofs.numbers.Supports.{used_numbers_are_named}
pub use Rattle.vt_laws_rules.proofs.same.SameLooks.{found_same}
pub use Rattle.vt_laws_rules.specs.Numbers.{KeepsTo, location_named}
pub use Rattle.vt_laws_trees.proofs.runs.answered.AlikeWorlds.{alike_from_same, sameness_is_an_equivalence}
pub use Rattle.vt_laws_trees.proofs.trees.TreesOfWorlds.{number_numbered, numbered_all}
pub use Rattle.vt_laws_trees.specs.Runs.Handed.{counts_from, handed_from, is_counted_before}
pub use Rattle.vt_laws_trees.specs.Overlays.InOrder.{put_in}
pub use Rattle.vt_laws_worlds.proofs.RaisedInUse.{all_in_use}
pub use Rattle.vt_laws_worlds.proofs.one_text.same.SameNumbers.{any_same_worlds_keep_to_numbers}
pub use Rattle.vt_laws_worlds.proofs.one_text.same.SameWhole.{any_same_worlds_are_worlds}
pub use Rattle.vt_laws_worlds.proofs.overlays_read.Swept.{same_worlds_have_layers_alike}
pub use Rattle.vt_laws_worlds.proofs.given.left.Permits.{given_permits_are_under_way_anywhere, given_permits_leave_every_world}
pub use Rattle.vt_laws_worlds.proofs.overlays_stay.left.Given.{given_to_task}
pub use Rattle.vt_laws_worlds.proofs.overlays_stay.weaving.WovenLists.{woven_lists_are_alike, woven_lists_are_failing}
pub use Rattle.vt_laws_worlds.proofs.permits.in_use.InUseServes.{leaves_two}
pub use Rattle.vt_laws_worlds.proofs.permits.named.PermitsKeepTo.{permits_keep_to_numbers}
pub use Rattle.vt_laws_worlds.proofs.permits.taken.TakenAttached.{index_bound}
pub use Rattle.vt_laws_worlds.proofs.permits.taken.TakenNumbers.{counted_later}
pub use Rattle.vt_laws_worlds.proofs.worlds.Roots.{directory_is_there}
pub use Rattle.vt_laws_worlds.specs.Given.LeftWorlds.{IsGivenToTask}
pub use Rattle.vt_laws_worlds.specs.OverlaysRead.Writers.{WritersHaveLayers}
pub use Rattle.vt_laws_worlds.specs.OverlaysStay.Woven.{are_rising, woven}
pub use Rattle.vt_laws_worlds.specs.Permits.Left.{IsGiven}
pub use Rattle.vt_laws_worlds.specs.Permits.Named.{permit_named}
pub use Rattle.vt_laws_worlds.specs.Permits.Taken.{is_ungrouped}
pub use Rattle.vt_laws_worlds.specs.Worlds.Kept.{IsUnderWay}
pub use Rattle.vt_location.proofs.NumberLemmas.{counted_same, counted_test}
pub use Rattle.vt_location.specs.Births.{born_in}
pub use Rattle.vt_location.specs.Locations.{inode_of, is_small_node, location_of, number_of}
pub use Rattle.vt_location.specs.MountValue.{mount_of}
pub use Rattle.vt_location.specs.Numbers.{counted, inode_number, is_own_number}
pub use Rattle.vt_mount.proofs.AttachedLemmas.{ascending_filter}
pub use Rattle.vt_mount.proofs.EnteringLemmas.{mounts_entered}
pub use Rattle.vt_mount.specs.Attached.{attached_in}
pub use Rattle.vt_mount.specs.MountsValue.{MountEntry, are_ascending, changed, entry_numbered, held, mounts_in, released, without}
pub use Rattle.vt_overlay.specs.MergedTree.{AreLayers, OverlayValue, layer_seen}
pub use Rattle.vt_propagate.specs.Attaching.{AttachesBy}
pub use Rattle.vt_propagate.specs.Falling.{moved_by}
pub use Rattle.vt_propagate.specs.Planned.{graft_in, numbers_at, planned_copies}
pub use Rattle.vt_propagate.specs.Pushing.{MovesOnce}
pub use Rattle.vt_propagate.specs.Seen.{IsSeen}
pub use Rattle.vt_retype.proofs.Left.{StillTyped}
pub use Rattle.vt_retype.specs.Retyping.{AreTyped, typed_entry, with_kind}
pub use Rattle.vt_store.proofs.Woven.{some_copied}
pub use Rattle.vt_store.specs.Counts.{with_mounts, with_mounts_by}
pub use Rattle.vt_store.specs.LayersHeld.{held_in, with_layers}
pub use Rattle.vt_store.specs.OverlaysValue.{Overlays, entry_kept, with_overlay_changed, without_overlay}
pub use Rattle.vt_store.specs.StoreValue.{StoreValue, entry_in, layered_in}
pub use Rattle.vt_tasks.specs.Counts.{locations_in, one_if}
pub use Rattle.vt_tasks.specs.TasksValue.{Tasks, called, changed_by, changed_called, replaced}
pub use Rattle.vt_world.proofs.overlays_kept.inodes.InodesInOrder.{inodes_are_the_tree, inodes_have_their_objects, inodes_stay}
pub use Rattle.vt_world.specs.Held.{CountsItsMounts, CountsItsUses, CountsWhatIsInIt, HasOwnInodes, HasOwnNodes, IsHeld, IsMountedSoOften, writes_of, writes_of_task, writes_on}
pub use Rattle.vt_world.specs.OverlaysKept.Kept.{IsShownAlike, ShowsLayer, ShowsLayers, with_objects}
pub use Rattle.vt_world.specs.StoredWorld.{overlay_of_store, overlays_of_store, with_store}
pub use Rattle.vt_world.specs.WorldValue.{NamespaceEntry, OverlayEntry, WorldValue, entries_of, namespace_of, overlay_seen, overlays_seen, world_of}
