-- What the crates below declare and most proofs here cite, passed on from one place. Declares nothing.
pub use Rattle.vt_cred.specs.MountFlags.{flags_of}
pub use Rattle.vt_fs.specs.FilesystemsValue.{ChangesInodes, FilesystemEntry, Filesystems, Shown, entry_of, files_at, filesystem_seen, inodes_at, inodes_seen, next_seen, no_entry, node_seen, shown, shown_entry}
pub use Rattle.vt_group.proofs.Others.{has_ordered}
pub use Rattle.vt_group.specs.Grouping.{Grouping, Has}
pub use Rattle.vt_laws_mounts.proofs.letting_go.Lists.{Among, all_from_among, among-append_right, among-from_filter, among-from_map, among-map, among_from_all, among_from_list_all, is_among_numbers}
pub use Rattle.vt_laws_mounts.proofs.letting_go.leaving.PlacesLeft.{found_is_there, found_itself}
pub use Rattle.vt_laws_mounts.proofs.letting_go.sweeps.OfWorlds.{mounts_of_worlds_stand}
pub use Rattle.vt_laws_mounts.proofs.mounts.MountsFound.{number-mount_in}
pub use Rattle.vt_laws_mounts.specs.Counts.OverlaysStay.{layer_count}
pub use Rattle.vt_laws_mounts.specs.Counts.Using.{Exchanges}
pub use Rattle.vt_laws_mounts.specs.LettingGo.Counts.{mount_uses, mounts_showing, times}
pub use Rattle.vt_laws_mounts.specs.LettingGo.Mounting.{inode_at}
pub use Rattle.vt_laws_mounts.specs.LettingGo.OneByOne.{Inode}
pub use Rattle.vt_laws_mounts.specs.LettingGo.TreesOverlays.{in_use_of}
pub use Rattle.vt_laws_mounts.specs.Mounts.Attaching.{numbers_of}
pub use Rattle.vt_laws_trees.proofs.runs.answered.AlikeWorlds.{sameness_is_an_equivalence}
pub use Rattle.vt_laws_trees.proofs.trees.TreesOfWorlds.{numbered_all}
pub use Rattle.vt_laws_trees.specs.Runs.Handed.{counts_from, is_counted_before}
pub use Rattle.vt_laws_trees.specs.Trees.{IsFileTree}
pub use Rattle.vt_laws_worlds.proofs.RaisedInUse.{all_in_use}
pub use Rattle.vt_laws_worlds.proofs.given.left.Permits.{given_permits_are_under_way_anywhere, given_permits_leave_every_world}
pub use Rattle.vt_laws_worlds.proofs.overlays_stay.left.Given.{given_to_task}
pub use Rattle.vt_laws_worlds.proofs.permits.sees.SeesFit.{given_changes_fit}
pub use Rattle.vt_laws_worlds.proofs.permits.sees.SeesTasks.{given_permits_are_seen_to}
pub use Rattle.vt_laws_worlds.proofs.worlds.Roots.{directory_is_there}
pub use Rattle.vt_laws_worlds.specs.Permits.Named.{permit_named}
pub use Rattle.vt_laws_worlds.specs.Permits.Sees.{SeesTo}
pub use Rattle.vt_laws_worlds.specs.Worlds.Kept.{IsUnderWay}
pub use Rattle.vt_laws_worlds.specs.Worlds.Permits.{NamesWhatIsThere}
pub use Rattle.vt_location.proofs.NodeLemmas.{here_number, small_parts}
pub use Rattle.vt_location.proofs.NumberLemmas.{counted_test}
pub use Rattle.vt_location.specs.Locations.{is_small_node, location_of, number_of}
pub use Rattle.vt_location.specs.MountValue.{mount_of}
pub use Rattle.vt_location.specs.Numbers.{counted, inode_number, is_own_number}
pub use Rattle.vt_mount.proofs.EntryLemmas.{is_some_mapped}
pub use Rattle.vt_mount.proofs.PlaceLemmas.{counts, numbers}
pub use Rattle.vt_mount.specs.Attached.{AreOf}
pub use Rattle.vt_mount.specs.MountsValue.{MountEntry, are_ascending, changed, entry_numbered, mounts_in, stands_over, uses_of, writers_of}
pub use Rattle.vt_mounting.proofs.attach.Binding.{is_seen}
pub use Rattle.vt_mounting.proofs.detach.Bridging.{IsSwept}
pub use Rattle.vt_mounting.proofs.detach.ChangedFiles.{ChangesFiles, IsFilesEvent, files_are_changed, with_filesystems}
pub use Rattle.vt_mounting.proofs.detach.DetachingBegins.{HasChildrenOf, detached_world}
pub use Rattle.vt_mounting.proofs.detach.DetachingEnds.{taken_regroups}
pub use Rattle.vt_mounting.proofs.detach.FileEvents.{IsSmall, change_fits, changed_is_plain, permit_fits}
pub use Rattle.vt_mounting.proofs.detach.FilesSeen.{IsLocated, IsPlainAt, also_there, kept_there, located, located_filesystem, located_inodes, nodes_named}
pub use Rattle.vt_mounting.proofs.detach.Finishing.{IsApplied}
pub use Rattle.vt_mounting.proofs.detach.Keeping.{IsKeptBut}
pub use Rattle.vt_mounting.proofs.detach.LazilyUnmounted.{numbers_of_trees}
pub use Rattle.vt_mounting.proofs.detach.LocationsSeen.{seen_where_located}
pub use Rattle.vt_mounting.proofs.detach.MountsGone.{found_mapped}
pub use Rattle.vt_mounting.proofs.detach.Moving.{Moves, Use, inodes_of_uses}
pub use Rattle.vt_mounting.proofs.detach.Overlaid.{found_plain_one, keeps_itself, same_files_keep}
pub use Rattle.vt_mounting.proofs.detach.OverlaysListed.{done_in_store, left_itself, left_still, left_twice}
pub use Rattle.vt_mounting.proofs.detach.Places.{located_is_named, standing}
pub use Rattle.vt_mounting.proofs.detach.Remaining.{remade, remade_with}
pub use Rattle.vt_mounting.proofs.detach.Shown.{pins, unpins}
pub use Rattle.vt_mounting.proofs.detach.Splits.{replaced_split}
pub use Rattle.vt_mounting.proofs.detach.Staying.{IsDone, after}
pub use Rattle.vt_mounting.proofs.detach.StoreShown.{files_shown, parents_named_in, store_stands}
pub use Rattle.vt_mounting.specs.Attach.Grafted.{IsGrafted}
pub use Rattle.vt_mounting.specs.Attach.Planned.{Point, is_small, points_left, points_taken, with_planned}
pub use Rattle.vt_mounting.specs.Attach.PlannedUses.{point_seen}
pub use Rattle.vt_mounting.specs.Detach.Detached.{LeaveInTurn, LeaveTogether, tree_numbers}
pub use Rattle.vt_mounting.specs.Detach.Events.{Becomes, Permits, layer_kept, next_inode, supply_of}
pub use Rattle.vt_mounting.specs.Detach.Forking.{HasRoom}
pub use Rattle.vt_mounting.specs.Detach.Looking.{looks_of_value}
pub use Rattle.vt_mounting.specs.Detach.NamespacesLeft.{without_file}
pub use Rattle.vt_mounting.specs.Detach.Stored.{OverlaysLeft, kept, merged_of}
pub use Rattle.vt_mounting.specs.Detach.Uses.{Kept, Merged, inode_of, kept_of, kept_with, merged_seen, pinned_in, unpinned_in, with_location, with_use, without_location}
pub use Rattle.vt_overlay.specs.MergedTree.{OverlayValue}
pub use Rattle.vt_permits.specs.GrantValue.{layer_of}
pub use Rattle.vt_propagate.specs.Falling.{moved_by}
pub use Rattle.vt_propagate.specs.Seen.{IsSeen}
pub use Rattle.vt_request.specs.Requests.{access_of}
pub use Rattle.vt_retype.specs.Retyping.{retyped}
pub use Rattle.vt_store.specs.StoreValue.{StoreValue, layered_in, lent_in}
pub use Rattle.vt_tasks.specs.TaskValue.{task_of}
pub use Rattle.vt_tasks.specs.TasksValue.{Tasks, called, changed_called, replaced}
pub use Rattle.vt_world.specs.Held.{CountsItsMounts, CountsItsUses, CountsWhatIsInIt, IsHeld, writes_of, writes_of_task}
pub use Rattle.vt_world.specs.Lent.{lent_of_world}
pub use Rattle.vt_world.specs.StoredWorld.{overlay_of_store, overlays_of_store, with_store}
pub use Rattle.vt_world.specs.WorldValue.{NamespaceEntry, WorldValue, entries_of, namespace_of, overlay_seen, overlays_seen, world_of}
