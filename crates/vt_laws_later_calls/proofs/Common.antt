-- The definitions and lemmas of the crates below that most proofs cite, passed on from one place. Declares nothing.
pub use Rattle.vt_laws_later_calls.proofs.Options.{cases_Option}
unfoldable pub use Rattle.std.specs.Fmt.{digits}
pub use Rattle.vt_laws_mounts.proofs.GroupsKept.{member_shared, shared_member}
pub use Rattle.vt_laws_mounts.proofs.GroupsUp.{live_members, lives_in}
pub use Rattle.vt_laws_mounts.proofs.GroupsUp.Up.{above, here}
pub use Rattle.vt_laws_mounts.proofs.counts.using.Places.{exchanges_follow, locations_are_uses, others_use_nothing}
pub use Rattle.vt_laws_mounts.proofs.ends.Unmounting.{detached_by_number, groups_keep_their_masters, kept_by_number, middle, place_kept, root_mounts_stay, root_stays, unmount_keeps_the_order, what_covered_falls, what_goes_is_detached, what_stays_keeps, what_stays_keeps_its_place, what_stays_keeps_its_type}
pub use Rattle.vt_laws_mounts.proofs.ends.UnmountingTrees.{AreClosed, trees_closed}
pub use Rattle.vt_laws_mounts.proofs.letting_go.Lists.{Among, all_from_among, among-append, among-append_left, among-append_right, among-filter, among-filter_map, among-flat_map, among-from_filter, among-from_filter_map, among-from_flat_map, among-from_map, among-map, among_from_all, among_from_list_all, among_numbers, any-filter, any-map, any_among, any_counted, any_from_among, filter_all, filter_here, filter_skip, find_none, flat_map-map, flat_map_alike, flat_map_none, found_by, is_among_numbers, list_all_from_among, map_same, none_among, none_from_among, nothing_passes, or_left, or_right, times_around}
pub use Rattle.vt_laws_mounts.proofs.letting_go.ends.NamespacesEnd.{added_mounts_count, added_mounts_count_in_no_other, no_namespace_ends, one_namespace_ends, too_many_is_of_one}
pub use Rattle.vt_laws_mounts.proofs.letting_go.leaving.FilesChanged.{file_changes_let_go, none_left, opened_new_keeps_all}
pub use Rattle.vt_laws_mounts.proofs.letting_go.leaving.PlacesLeft.{comes_nowhere_itself, found_is_there, location_among, no_layers, nowhere_parts, place_attached, private_is_no_member}
pub use Rattle.vt_laws_mounts.proofs.letting_go.mounting.AttachedSwept.{binds_keep_all, new_mounts_of_trees_keep_all}
pub use Rattle.vt_laws_mounts.proofs.letting_go.sweeps.InUse.{filesystems_stay, groups_stay, inodes_stay, used_at}
pub use Rattle.vt_laws_mounts.proofs.letting_go.sweeps.LookedUp.{filesystem_is_looked_up, group_is_looked_up, inode_is_looked_up, mount_is_looked_up}
pub use Rattle.vt_laws_mounts.proofs.letting_go.sweeps.OfWorlds.{all_in_use, found_filesystem, locations_of_worlds_stand, mounts_of_worlds_stand, reals_of_worlds_are_there, uppers_of_worlds_are_plain, worlds_are_settled, worlds_have_trees}
pub use Rattle.vt_laws_mounts.proofs.letting_go.sweeps.OneByOne.{filesystems_go_one_by_one, groups_go_one_by_one, mounts_go_one_by_one}
pub use Rattle.vt_laws_mounts.proofs.letting_go.sweeps.UsesCounted.{used_while_counted}
pub use Rattle.vt_laws_mounts.proofs.mounts.MountsFound.{found_in, found_there, numbers-map, placed_among, unfound}
pub use Rattle.vt_laws_mounts.proofs.mounts.MountsLeft.{mounts-with_change}
pub use Rattle.vt_laws_mounts.proofs.mounts.MountsNumbered.{attach_keeps_numbers, is_one_of, number_is_old}
pub use Rattle.vt_laws_mounts.proofs.mounts.MountsPlaces.{found_at_its_place, one_place_of_two, same_location_itself, stands_at_its_place, stands_there}
pub use Rattle.vt_laws_mounts.proofs.mounts.MountsReplaced.{found-append, found_itself, one_number_by_numbers}
pub use Rattle.vt_laws_mounts.proofs.mounts.Receivers.{receives_completely, receives_soundly, start_among}
pub use Rattle.vt_laws_mounts.proofs.mounts.Standing.{rank, rank_bounded, rank_child, standing_is_computed, trees_have_each_once}
pub use Rattle.vt_laws_mounts.proofs.namespaces.Topmost.{topmost_is_free}
pub use Rattle.vt_laws_mounts.proofs.namespaces.Unsharing.{Parent, parent_of, placed_inside, stands_on_mount, unshare_keeps_mounts}
pub use Rattle.vt_laws_mounts.proofs.propagation.OneAttached.{hears_group, later_number, one_of, part_old}
pub use Rattle.vt_laws_mounts.proofs.propagation.PropagationUp.{heard, hears, lives_up, no_loop}
pub use Rattle.vt_laws_mounts.specs.Counts.Using.{Exchanges, is_inode}
pub use Rattle.vt_laws_mounts.specs.LettingGo.Counts.{inode_uses, member_count, mount_uses, mounts_showing, times}
pub use Rattle.vt_laws_mounts.specs.LettingGo.Ends.{without_namespace}
pub use Rattle.vt_laws_mounts.specs.Mounts.Ending.{is_in, mount_count}
pub use Rattle.vt_laws_mounts.specs.LettingGo.FileChanges.{IsMade, IsMoved, MayChange, inodes_lost, names_lost}
pub use Rattle.vt_laws_mounts.specs.LettingGo.InUse.{AllInUse, FilesystemsInUse, GroupsInUse, HasTrees, InodesInUse, IsListedTree, MountsInUse, UppersArePlain, has_upper_in, is_inode_used}
pub use Rattle.vt_laws_mounts.specs.LettingGo.Leaving.{MountsStand, comes_nowhere, is_location_among, with_sweeps, with_tasks}
pub use Rattle.vt_laws_mounts.specs.LettingGo.LeavingOverlays.{IsSettled}
pub use Rattle.vt_laws_mounts.specs.LettingGo.Mounting.{ended_mounts, inode_at, root_inode}
pub use Rattle.vt_laws_mounts.specs.LettingGo.OneByOne.{FilesystemsInUseBut, GroupsInUseBut, Inode, InodesInUseBut, MountsInUseBut, is_mount_used, is_used_or_among, let_go_filesystems, let_go_group, let_go_groups, let_go_inode, without_filesystem, without_inode, without_inode_at, without_inode_in, without_master, without_mount}
pub use Rattle.vt_laws_mounts.specs.LettingGo.Overlays.{RealsAreThere, is_plain, let_go_all_inodes, let_go_in, let_go_in_of, let_go_plain, uppers_in, uppers_of, uppers_of_inode, uppers_of_inode_in, without_inode_of, without_real}
pub use Rattle.vt_laws_mounts.specs.LettingGo.Unmounting.{numbers_of_trees}
pub use Rattle.vt_laws_mounts.specs.Mounts.Attaching.{KeepsAllButMountPoint, OneNumberAMount, is_mount, numbers_of}
pub use Rattle.vt_laws_mounts.specs.Mounts.Propagation.{Attachment, CanAttach, IsPart, UnshareListsOthersTheSame, UnshareListsTheSame, copy_of, number_at, world_after}
pub use Rattle.vt_laws_mounts.specs.Mounts.Unmounting.{ChainsEnd, Goes, KeepsAllButMountPointAndType, goes_with, has_its_master, mount_left}
pub use Rattle.vt_laws_rules.proofs.given.GivenPermits.{permits_are_for_their_calls}
pub use Rattle.vt_laws_rules.proofs.judged.CallsJudged.{call_is_judged_then_applied, policy_judges_then_applies}
pub use Rattle.vt_laws_rules.specs.Given.{IsFor}
pub use Rattle.vt_laws_rules.proofs.given.Ways.{IsGranted}
pub use Rattle.vt_spec.specs.Machine.Judging.{directory_made, symlink_made}
pub use Rattle.vt_laws_rules.proofs.given.Ways.IsGranted.{changes_mode, changes_owner, creates, creates_exclusively, makes_directory, makes_hard_link, makes_symlink, opens, opens_existing, removes_directory, unlinks, unshares, writes_part}
pub use Rattle.vt_laws_trees.proofs.layers.views.Entries.{is_entry, is_that_entry}
pub use Rattle.vt_laws_trees.proofs.layers.views.Moves.{led_parts, move_told, no_way_up}
pub use Rattle.vt_laws_trees.proofs.runs.answered.PlainStays.{plain_numbered}
pub use Rattle.vt_laws_trees.proofs.trees.ChangesKeepTrees.{changes_keep_numbers, changes_keep_trees}
pub use Rattle.vt_laws_trees.proofs.trees.ChangesNodes.{attr_keeps_place, changed_node_there, elsewhere, own_parent-node_with_parent, part_stays}
pub use Rattle.vt_laws_trees.proofs.trees.TreesAbove.{led_directory, parent_named, under_seen}
pub use Rattle.vt_laws_trees.proofs.trees.TreesEntered.{chain_ends_at}
pub use Rattle.vt_laws_trees.proofs.trees.TreesOfWorlds.{number_numbered, numbered, numbered_all, numbered_anyhow}
pub use Rattle.vt_laws_trees.proofs.trees.TreesReached.{not_removed_reached}
pub use Rattle.vt_laws_trees.proofs.trees.TreesTasks.{called_there, tasks-pwritten}
pub use Rattle.vt_laws_trees.proofs.trees.TreesWalked.{Ends}
pub use Rattle.vt_laws_trees.specs.Calls.Inodes.{change_of}
pub use Rattle.vt_laws_trees.specs.Layers.Layers.Untouched.{IsKept, changes_no_mount}
pub use Rattle.vt_laws_trees.specs.Trees.{IsFileTree, IsFree, IsProper, MayRemove}
pub use Rattle.vt_laws_trees.specs.Trees.Calls.{mounts_overlay}
pub use Rattle.vt_laws_trees.specs.Trees.Limits.{names_few_groups}
pub use Rattle.vt_laws_trees.specs.Trees.Settling.{inode_in}
pub use Rattle.vt_laws_worlds.proofs.Raised.{FilesBy, counted, same_files}
pub use Rattle.vt_laws_worlds.proofs.RaisedInUse.{in_use_later, namespace_if, number_if, numbers_raised_are, raising_numbers_keeps_world, task_if, unsettled_of}
pub use Rattle.vt_laws_worlds.proofs.kept.NamespacesListed.{AreNamespaces, IsListedIn, are_namespaces, listed_in, number_of}
pub use Rattle.vt_laws_worlds.proofs.opening.OpeningWorld.{opening_is_a_world}
pub use Rattle.vt_laws_worlds.proofs.overlay_permits.asked.AskedOverlays.{permits_ask_properly}
pub use Rattle.vt_laws_worlds.proofs.permits.sees.SeesFit.{given_changes_are_proper}
pub use Rattle.vt_laws_worlds.proofs.permits.sees.SeesNames.{tree_here}
pub use Rattle.vt_laws_worlds.proofs.permits.sees.SeesTasks.{given_permits_are_seen_to}
pub use Rattle.vt_laws_worlds.proofs.settling.SettledTasks.{file_trees, of_task, same_node, settling_leaves_a_world}
pub use Rattle.vt_laws_worlds.proofs.worlds.CallsKept.{Kept, applied, calls_keep_worlds, name_found, unsettled}
pub use Rattle.vt_laws_worlds.proofs.worlds.PermitsSeen.{replaced_plain, taken_plain}
pub use Rattle.vt_laws_worlds.proofs.worlds.Reached.{IsFound, IsFoundDirectory, IsOn, directory_found, directory_no_link, is_reached, namespace_below, others_are_files, place_found, step_found}
pub use Rattle.vt_laws_worlds.proofs.worlds.ReachedPlaces.{HereDirectory, IsEndPlace, file_walk_end, source_walk_end}
pub use Rattle.vt_laws_worlds.proofs.worlds.ReachedWalks.{End, object_end, own_directory_found, root_found}
pub use Rattle.vt_laws_worlds.proofs.worlds.SeenTrees.{change_of_plain, changed_one, found_new, old_number, unused_inode}
pub use Rattle.vt_laws_worlds.specs.OverlayPermits.Asked.{change_asked}
pub use Rattle.vt_laws_worlds.specs.OverlayPermits.Changed.{numbers_left}
pub use Rattle.vt_laws_worlds.specs.OverlaysLetGo.NamesGiven.{name_given, replaced_in_upper, takes_a_name, upper_at_name}
pub use Rattle.vt_laws_worlds.specs.Permits.Sees.{MayBeMade, MayBeRenamed, SeesTo}
pub use Rattle.vt_laws_worlds.specs.Worlds.Kept.{IsPlain, IsWorldButForUse}
pub use Rattle.vt_laws_worlds.specs.Worlds.Permits.{IsDestination, IsReached, NamesWhatIsThere}
pub use Rattle.vt_spec.proofs.Tables.{destination_walk, list_rules, read_rules, readlink_rules, source_walk}
pub use Rattle.vt_spec.proofs.Trees.{last_step, parent_reached}
pub use Rattle.vt_spec.proofs.Walk.{directory_walk, object_walk, search_rules, stepped, steps_with, symlink_walk, word_walked, words_walked}
pub use Rattle.vt_spec.specs.Machine.Looks.{is_directory_at, mount_at, mounter_may, topmost}
unfoldable pub use Rattle.vt_spec.specs.Machine.Run.{machine_text}
pub use Rattle.vt_spec.specs.Machine.Walking.{file_or_symlink, file_walked, followed, last_walked, new_name_rules, path_walked, prefix_walked}
pub use Rattle.vt_spec.specs.declared.attributes.Attr.{Attr}
pub use Rattle.vt_spec.specs.declared.attributes.Kind.TheVariants.{File, Symlink, White}
pub use Rattle.vt_spec.specs.declared.errors.Deny.{Deny}
pub use Rattle.vt_spec.specs.declared.errors.Rule.TheVariants.{B1, C1, E1, E5, E6, K1, M10, M2, M7, M8, M9, S2, S4, W3, W4, W6, W8}
