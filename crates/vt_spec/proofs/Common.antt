-- The definitions of the machine and the lemmas that most proofs cite, passed on from one place. Declares nothing.
pub use Rattle.std.proofs.Math.Bool.{and-false, and-true, or-false, or-true}
pub use Rattle.std.proofs.Math.Seq.{drop-append_seam, take-append_seam}
pub use Rattle.std.proofs.lemmas.Bool.{and_from, and_parts, cases_Bool, cases_lt, eqb-false, false_from_ne_true, false≢true, not-false, not-true, or_cases, or_from, or_left, or_parts, or_right}
pub use Rattle.std.proofs.lemmas.Bool.Decides.{Decides-at, eqb_tells, nat_tests}
pub use Rattle.std.proofs.lemmas.Cmp.{nat_cmp_total, nat_list_eq_equiv}
pub use Rattle.std.proofs.lemmas.Float.{T_from_true}
pub use Rattle.std.proofs.lemmas.Fn.{filter_same}
pub use Rattle.std.proofs.lemmas.Grind.{common_steps, flat_map-append}
pub use Rattle.std.proofs.lemmas.Iterator.{YieldsList-from_map, YieldsList-from_slice}
pub use Rattle.std.proofs.lemmas.Iterator.Adapters.{YieldsList-from_rev_slice, items_from_extend}
pub use Rattle.std.proofs.lemmas.Iterator.Consumers.{YieldsList-end, YieldsList-from_filter, YieldsList-turn}
pub use Rattle.std.proofs.lemmas.Iterator.Search.{any_from_yields_List, position_from_yields_List}
pub use Rattle.std.proofs.lemmas.Iterator.Splits.{YieldsList-from_slice_split}
pub use Rattle.std.proofs.lemmas.List.{at_drop_all, at_drop_more, drop_all, drop_more, get_or_past, length-map, length-reverse, length_push, map-append, nil_from_length, reverse-append, reverse-reverse, take-append-le, take_more, take_rest}
pub use Rattle.std.proofs.lemmas.List.Elements.{All-append, All-cons, All-filter, All-head, All-map, All-nil, All-push, All-tail, All-weaker, filter-append, filter_map-append}
pub use Rattle.std.proofs.lemmas.List.Filters.{length-filter_both}
pub use Rattle.std.proofs.lemmas.List.Folds.{find-append, list_all-append, list_any-append, list_any_at}
pub use Rattle.std.proofs.lemmas.List.Sorted.{IsPermutation-append_left, IsPermutation-append_right, IsPermutation-cons, IsPermutation-map, IsPermutation-middle, IsPermutation-refl, IsPermutation-sym, IsPermutation-trans, answers_always, length_permutation, list_any-IsPermutation, sum_by-IsPermutation}
pub use Rattle.std.proofs.lemmas.List.Sums.{sum_by-cons, take_while-cons}
pub use Rattle.std.proofs.lemmas.Map.Keys.{IsDistinct-head, IsDistinct-tail, sorted_head, sorted_tail}
pub use Rattle.std.proofs.lemmas.Map.Views.{any-filter_same}
pub use Rattle.std.proofs.lemmas.Option.{get_or_from_slice_get, same_Some, slice_get-get_or, slice_get-map, slice_get_within}
pub use Rattle.std.proofs.lemmas.Result.{IfOk-weaker, err_from_is_err_and, on_err_weaker, on_ok_weaker}
pub use Rattle.std.proofs.lemmas.Slice.Eq.{bytes_eq-Decides}
pub use Rattle.std.specs.BTreeMap.{insert_entry}
pub use Rattle.std.specs.Cmp.{IsEquivalence, IsTotalOrder, nat_cmp_is, nat_eq_equiv, tied_itself}
pub use Rattle.std.specs.Cmp.Lexicographic.{bytes_decides, nat_list_cmp_total, pointwise, texts_ties}
pub use Rattle.std.specs.FinMap.{nat_cmp-IsAntisymmetric}
pub use Rattle.std.specs.FinMap.Entries.{below_all, by_order, find-put, find-where_key, is_some-find, is_sorted, is_sorted-put, is_sorted-where_key, put, same_entries}
pub use Rattle.std.specs.HashMap.{get}
pub use Rattle.std.specs.List.{AllByRecursion, cons_option, list_all, list_any}
pub use Rattle.std.specs.Map.{keys_of, lookup, remove_entry, set_value, values_of}
pub use Rattle.std.specs.Option.{option_copied_mut, option_flatten, option_map_or}
pub use Rattle.std.specs.Ordering.{eq_by_cmp, match_ordering}
pub use Rattle.std.specs.Prelude.{⊤}
pub use Rattle.std.specs.Result.{result_err}
pub use Rattle.std.specs.declared.alloc.AllocError.{AllocError}
pub use Rattle.vt_spec.proofs.Descriptors.{free_above}
pub use Rattle.vt_spec.proofs.Found.{among_targets, filter_alike, filter_all, find-chain_start, found_among, found_passes, is_among_left, is_among_right}
pub use Rattle.vt_spec.proofs.FreshNumbers.{evens-distinct, odds-distinct, odds-no_evens, served-distinct}
pub use Rattle.vt_spec.proofs.Given.{Gives, descriptor_found, given}
pub use Rattle.vt_spec.proofs.Inodes.{is_some-node_in, node_in-none, uses_in-none}
pub use Rattle.vt_spec.proofs.Lists.{Among, all-filter, all-map, all_from_among, among-append, among-append_left, among-append_right, among-filter, among-filter_map, among-flat_map, among-from_filter, among-from_filter_map, among-from_flat_map, among-from_map, among-map, among_cases, among_from_all, among_from_contains, among_from_list_all, among_numbers, any_among, any_from_among, chain_ends, chain_goes_on, contains_from_among, filter_here, filter_none, filter_skip, folded-snoc, head_among, is_among_numbers, last_of_chain, list_all_from_among, map_alike, map_same, map_twice, none_among, none_from_among, pair-filter, pair-map, tail_among}
pub use Rattle.vt_spec.proofs.NodeChanges.{directory_from_entry, directory_no_whiteout, entries-node_with_attr, entries-node_with_mark, entries-node_with_parent, entries-node_without_entries, entries-node_without_entry, entries-without_parent, entries_in-no_directory, entries_of-copied_content, entry_from, entry_named-below, entry_to, file_is_there, found_is_named, is_directory-node_with_parent, is_directory-node_without_entry, is_some-node_with_parent, is_some-node_without_entry, nil_from_not_some, parent-node_without_entry, part-changed_node, same_name-Equal}
pub use Rattle.vt_spec.proofs.Nodes.{directory_is_there, directory_used, entries-node_with_bytes, entries-node_with_entry, entry_named-with_entry, entry_named-without_entry, is_directory-node_with_entry, is_some-node_with_entry, node_other, node_set, none_is_not, parent-node_with_entry, part_kept, passes}
pub use Rattle.vt_spec.proofs.Options.{OnOk_then, and_then-Ok, cond-None, cons-rest, none_before, none_from_not_some, none_is_some, some_from_is_some}
pub use Rattle.vt_spec.proofs.Refusals.{passed, passing, same_ok, unless-let_through, unless-refused}
pub use Rattle.vt_spec.proofs.Tables.{overlay_mounted, with_new}
pub use Rattle.vt_spec.proofs.Trees.{found, led-append, reached_named, root_reached}
pub use Rattle.vt_spec.proofs.Truths.{T_and, T_and_left, T_and_right, and_true_first, and_true_left, and_true_right, bytes_eq_itself, nat_eq-swapped, nat_eq_false_turned, nat_eq_itself, nat_eq_turned, not_turned, one_more_is_some, or_false_alone, or_false_left, or_false_right, same_truth}
pub use Rattle.vt_spec.proofs.Walk.{file_or_symlink, file_walked, followed, hop, is_lost, last_walked, new_name_rules, parent_location, path_walked, prefix_walked}
pub use Rattle.vt_spec.proofs.Worlds.{among-folded_mounts, answer-finished_unless, filesystems-taken_away, filesystems-without_replaced, found_or_none, layers_of_all, name-replaced_if_called, nothing_is_no_object, number-mount_in, number-only_used, number-pivoted_mount, root-without_parent, same_location_is, same_name-swapped, same_name_itself, same_task_name, shown-mapped, shown-taken_away, shown-without_replaced, special_word, stands_alike, tasks-taken_away, tasks-with_change, tasks-without_replaced, tree_among, upper_real}
pub use Rattle.vt_spec.specs.Errors.{NoneFails, Rules, and_then, denial, unless}
pub use Rattle.vt_spec.specs.FileTree.{FileTree, a_name, ancestors, attr_in, has_entry_to, is_directory_under, is_file_under, is_kind, is_kind_in, is_opaque_in, is_removed, is_under, name_in, named_parent, opaque_of, own_name, path_down, symlink_text, targets_in}
pub use Rattle.vt_spec.specs.Fits.{Fits, MayReplace}
pub use Rattle.vt_spec.specs.Inodes.{Inode, Inodes, count_after, inode_with_node, node_in, one_directory, parent_above, pinned, renamed_inode, tree_of, unpinned, used_once_less, used_once_more, uses_in, with_changed}
pub use Rattle.vt_spec.specs.Language.Answers.{Answer, Spot, StatLine}
pub use Rattle.vt_spec.specs.Language.Answers.Answer.{Bytes, Child, Done, MountList, Names, Opened, PeerList, Told, YesNo}
pub use Rattle.vt_spec.specs.Language.Calls.{Access, Call, CapabilityWord, Creation, Directive, ForkWords, MountFlags, OverlayWords, TaskName, TypeWord, opens_for_reading, opens_for_writing, plain_flags, same_name}
pub use Rattle.vt_spec.specs.Language.Calls.Access.{ReadOnly, ReadWrite, WriteOnly}
pub use Rattle.vt_spec.specs.Language.Calls.Call.{Bind, Chdir, Chmod, Chown, Chroot, Close, Drop, Exec, Exit, Fork, Lazy, LinkTo, ListMounts, Ls, Lstat, MakeWhiteout, Mkdir, MountOverlay, MountPlain, MoveMount, Opaque, OpenFile, PivotRoot, Pread, Pwrite, Read, Readlink, Remount, Rename, Rmdir, SetType, Setns, Stat, SymlinkAt, Umask, Umount, Unlink, Unshare, Write}
pub use Rattle.vt_spec.specs.Language.Calls.Creation.{Exclusive, NoCreation, OrCreate}
pub use Rattle.vt_spec.specs.Language.Calls.Directive.{AskPeers, AskSealed}
pub use Rattle.vt_spec.specs.Language.Calls.TypeWord.{ToPrivate, ToShared, ToSlave, ToUnbindable}
pub use Rattle.vt_spec.specs.Language.Changes.{Change, changed, changed_node, content_with_mark, content_with_parent, node_with_attr, node_with_mark, node_with_parent, node_without_entries, node_without_entry, with_inode, with_moved, with_name, without_entry, without_name, without_parent}
pub use Rattle.vt_spec.specs.Language.Changes.Change.{AddName, CopyUp, Make, Move, Remove, SetAttr, SetBytes, SetMark}
pub use Rattle.vt_spec.specs.Language.Limits.{deepest_name, largest_file, longest_line, longest_name, longest_path, most_descriptors, most_forks, most_lowers, most_mounts, most_restarts, most_symlinks}
pub use Rattle.vt_spec.specs.Language.Printed.{mount_point_words, peer_line_words, printed_byte, printed_line, printed_member, printed_spot, printed_text, printed_value, reply_line, spaced}
pub use Rattle.vt_spec.specs.Language.Script.{Grammar, Request, Version, Who, asked_by, call_read, call_words, capabilities_word, capability_named, child_number, each_of, groups_word, identity_word, is_plain, is_silent, lines_of, no_more, options_of, path_word, raw_tokens, request_of_texts, task_word, token_text, value_from, whole, with_first, word_then}
unfoldable pub use Rattle.vt_spec.specs.Language.Script.{request_of}
pub use Rattle.vt_spec.specs.Language.Script.Reading.{AfterBackslash, Between, Failed}
pub use Rattle.vt_spec.specs.Language.Script.Request.{Asking, Calling}
pub use Rattle.vt_spec.specs.Language.Script.Version.{One, Two}
pub use Rattle.vt_spec.specs.Language.Script.Who.{Nobody, Someone}
pub use Rattle.vt_spec.specs.Laws.Trees.{IsNewIn}
pub use Rattle.vt_spec.specs.Lists.{Fresh, any_pair, before_first, chain, counted_from, each_once, evens, first_of_list, folded, holds_of, index_from, is_among, is_empty_list, last_or, odds, or_else, prefixes, rest_of, same_list, same_option, then_some, when, without_last}
pub use Rattle.vt_spec.specs.Machine.Apply.{apply, changed_if, filesystems_changed, overfills, stat_line, with_new_inode}
pub use Rattle.vt_spec.specs.Machine.Attach.{Copies, Graft, Twig, added_mounts, all_groups_made, attach, attached_at, attached_by, bind_tree, bindable_children, bindable_tree, bound, bound_at, copies_at, copies_from, copy_at, copy_mount_point, copy_number, copy_type, graft_of, group_made, has_too_many, image, index_in_rows, index_of_group, is_destination, is_top, masters_with, mount_point_on_copy, moved_to, moved_tree, image_of_nearest_group, parts_of, pushed_onto, moved_onto_copy, receiver_stood_on, receivers_of, stands_under, takes_part, top_of_copies, twig_master, twig_of, type_at, type_at_part, type_on_shared, with_moved_mounts}
pub use Rattle.vt_spec.specs.Machine.Attributes.{attr_with_mode, attr_with_owner, may_chown}
pub use Rattle.vt_spec.specs.Machine.CopyUp.{Merge, Stack, changed_both, copied_content, copied_each, copied_up, copy_named, copy_of, copy_of_node, copy_parent, directories_to, hides_directory, is_directory_shown, is_in_upper, line_by, line_to, merge_changed, merge_with_link, merge_with_moved, merge_with_new, merge_without_name, name_left, name_left_by, path_to, shown_in_lowers_at, upper_directory_named, upper_of, whiteout_of, with_mark, with_real, without_contents}
pub use Rattle.vt_spec.specs.Machine.Descriptors.{free_from, free_number, inserted, is_copied_up, opened, overwritten, padded, pwritten, with_copy, with_descriptor, without_descriptor}
pub use Rattle.vt_spec.specs.Machine.Detach.{after_going, deepest_first, depth_of, goes_at, going, going_at, going_from, has_child, insert_deepest, is_busy, is_going, is_point, is_used, lazily_unmounted, may_go, inherited_mount_point, mount_point_of_parent, mounts_on, only_cover, points_of, taken_away, unmounted, unmounted_if_there, upper_points, without_mounts_on, without_replaced}
pub use Rattle.vt_spec.specs.Machine.Filesystems.{changed_at, filesystem_changed, filesystems_raised, has_lower_directory_at, lies_only_in_lowers, merge_of, mounter_rules, numbers_of_change, overlay_changed, overlay_rules, raised, raised_if_changed, stack_of, with_change, with_files, with_merge}
pub use Rattle.vt_spec.specs.Machine.Invariants.{ForksAreCounted, HasLivingGroups, IsMerged, IsWorld, ListsNumbers, Lives, MountInvariants, NamespaceInvariants, OverlayInvariants, SameObject, Stands, TaskInvariants, TreeInvariants, are_ascending_from, has_fit_layers, has_fit_names, has_fit_text, has_its_root, has_one_root, has_regular_files_open, is_directory_seen_in, is_fit_filesystem, is_listed, is_located_well, is_no_larger, is_nowhere_or_attached, is_plain_layer, is_private, is_root_mount, is_there, is_within_limits, last_parent, live_lowers, node_shown, number_at_path, overlap, real_node, real_shown, same_content, share_a_mount_point, stands_in_its_namespace, stands_on_directories}
pub use Rattle.vt_spec.specs.Machine.Invariants.Lives.{has_master, has_no_master}
pub use Rattle.vt_spec.specs.Machine.Invariants.Stands.{at_root, on_parent}
pub use Rattle.vt_spec.specs.Machine.Judge.{judge, judge_in}
pub use Rattle.vt_spec.specs.Machine.Judging.{Judgement, by_option, directory_made, make_permit, open_new_permit, run, symlink_made, unnumbered, whiteout_made}
unfoldable pub use Rattle.vt_spec.specs.Machine.Judging.{judging}
pub use Rattle.vt_spec.specs.Machine.Layers.{OpenLayer, Shown, at_path, has_lower_directory, names_shown, node_at_path, paths_from, shown, shown_in_lowers, view_of}
pub use Rattle.vt_spec.specs.Machine.Listing.{filesystems_seen, groups_in_type, groups_seen, groups_shown, mount_line, mount_lines, mount_point_spot, number_among, peer_lines, spot_of, type_line}
pub use Rattle.vt_spec.specs.Machine.Locked.{counts_as_in_layer, in_use, is_locked, is_locked_at, is_object_of, is_real_upper, lies_in_layer, lies_or_counts_under, live_layers, live_upper_and_work, of_overlay, overlaps_one_of, overlay_or, overlays, upper_and_work}
pub use Rattle.vt_spec.specs.Machine.Looks.{Looks, looks_of, may}
pub use Rattle.vt_spec.specs.Machine.Merging.{Merged, MergedInode, entry_in_directory, inode_of, is_one_inode, is_root_path, layer_node, merged_at, merged_content, merged_inode, merged_inodes, merged_objects, real_object, real_of, same_path}
pub use Rattle.vt_spec.specs.Machine.Mounts.{Location, Mount, Propagation, child_at, children, detached, group_of, index_of, is_shared, is_unbindable, mount_in, mount_tree, mounts_over, no_mount, numbers_by, replaced_if_same, root_of, same_location, source_of, stands_at, stands_on, topmost, tree_from, with_mount}
pub use Rattle.vt_spec.specs.Machine.Mounts.Propagation.{Private, Shared, Slave, Unbindable}
pub use Rattle.vt_spec.specs.Machine.Namespaces.{copied_mount, entered_at, has_tasks, is_copied, is_in_ended, location_on_copy, moved_location, namespace_entered, namespace_root, namespaces_ended, pivoted, pivoted_location, pivoted_mount, pivoted_task, unshared, unshared_task}
pub use Rattle.vt_spec.specs.Machine.NewMounts.{inode_count, mounted, new_mount, overlay_filesystem, plain_filesystem, with_new_filesystem}
pub use Rattle.vt_spec.specs.Machine.Outcomes.{Outcome, after, denied, granted, judged}
pub use Rattle.vt_spec.specs.Machine.Permits.{Permit}
pub use Rattle.vt_spec.specs.Machine.Permits.Permit.{Allowed, ToBind, ToChange, ToClose, ToEnterNamespace, ToExit, ToFork, ToList, ToListMounts, ToMake, ToMountOverlay, ToMountPlain, ToMove, ToOpen, ToOpenNew, ToPivot, ToRead, ToReadPart, ToRemoveDirectory, ToRename, ToSetCredentials, ToSetDirectory, ToSetFlags, ToSetRoot, ToSetType, ToSetUmask, ToStat, ToUnmount, ToUnmountLazily, ToUnshare, ToWritePart}
pub use Rattle.vt_spec.specs.Machine.Policy.{call_outcome, filesystems_changed_by, finished, finished_unless, master_above, numbers_raised, only_looks, policy, raised_namespace, raised_task, same_bool, same_flags, same_mount, same_mounts_in, same_propagation}
pub use Rattle.vt_spec.specs.Machine.Receives.{Receives, groups_up, has_members, heir, inherited, inheriting, is_lost_group, is_member_of, lost_a_group, receivers, receives, regrouped, regrouped_by, slave_of_heir}
pub use Rattle.vt_spec.specs.Machine.Receives.Receives.{further_down, member, slave}
pub use Rattle.vt_spec.specs.Machine.Renaming.{renamed, renamed_content, renamed_entry, renamed_filesystem, renamed_location, renamed_mount, renamed_namespace, renamed_node, renamed_overlay, renamed_task}
pub use Rattle.vt_spec.specs.Machine.Rightful.{mounter_allows, node_allows}
pub use Rattle.vt_spec.specs.Machine.Rows.{directory_mode, exact_attr, file_mode, linking, making, new_attr, new_file, symlink_mode}
pub use Rattle.vt_spec.specs.Machine.Rules.Attributes.{attr_at, attr_rules, opaque_rules}
pub use Rattle.vt_spec.specs.Machine.Rules.Conditions.{has_no_upper, is_elsewhere, is_mount_point_anywhere, is_mount_point_in, is_no_root, is_overlay_at, is_read_only, lacks, may_not}
pub use Rattle.vt_spec.specs.Machine.Rules.Descriptors.{descriptor_at, descriptor_numbered, descriptor_rules, exclusive_word_rules, open_rules, pwrite_rules}
pub use Rattle.vt_spec.specs.Machine.Rules.Looking.{exec_rules, list_rules, read_rules, readlink_rules}
pub use Rattle.vt_spec.specs.Machine.Rules.Making.{file_word_rules, hard_link_rules, make_rules, rewrite_rules, symlink_text_rules, whiteout_rules}
pub use Rattle.vt_spec.specs.Machine.Rules.Mounting.{LayerLocations, admin_rules, at_topmost, bind_rules, destination_walk, each_walked, has_shared_parent, has_single_lower, is_on_descendant, layer_at, layer_locations, layer_rules, layers_walked, lies_under_location, move_rules, new_mount_rules, one_under_another, overlay_at, pivot_rules, remount_rules, source_walk, type_rules, umount_rules, walked_if_given, work_walked}
pub use Rattle.vt_spec.specs.Machine.Rules.Removing.{is_one_object, moving, object_there, old_word_rules, removing, rename_new_walk, rename_rules, rmdir_rules, rmdir_word_rules, same_object_rules, unlink_rules}
pub use Rattle.vt_spec.specs.Machine.Rules.Tasks.{enter_rules, fork_rules}
pub use Rattle.vt_spec.specs.Machine.Run.{Serves, Step, first_world, handed, later, line_step, line_step_by, numbers_for, numbers_in_use, requested, spoken_step, step_text, step_world, text_from, used_by_filesystem, used_by_mount}
unfoldable pub use Rattle.vt_spec.specs.Machine.Run.{everything}
pub use Rattle.vt_spec.specs.Machine.Run.Step.{Answered, Silent}
pub use Rattle.vt_spec.specs.Machine.SameWorlds.{LowerObjectsHaveOneName, SameFiles, SameFilesystem, SameFilesystems, SameWorlds, without_changes}
pub use Rattle.vt_spec.specs.Machine.Sealed.{all_named, change_layers, directed, holds_all_tasks, is_at, is_lower_root, is_member_task, is_own_mount, is_own_namespace, lies_in_own_lower, locations, master_of, members, no_outsider_on, no_outsider_on_mounts, other_mounts, outsiders, own_lowers, own_mounts, part_of, part_of_filesystem, part_of_lower, part_of_master, part_of_mount, receives_events_of, roots_and_directories, seen_by_descriptor, share_events, shares_no_events, used_alone, used_directly, used_filesystems, wholly_locked}
unfoldable pub use Rattle.vt_spec.specs.Machine.Sealed.{sealed}
pub use Rattle.vt_spec.specs.Machine.Settled.{filesystem_lives, has_layer_on, is_located, is_mounted, layers_in, located_in, mount_lives, named_in, objects_of_overlay, only_among, only_used, only_used_by, only_used_of, real_among, settled, used_in, without_dead_filesystems, without_dead_groups, without_dead_in, without_dead_inodes, without_dead_mounts}
pub use Rattle.vt_spec.specs.Machine.Tasks.{child_credentials, child_name, child_of, with_dropped}
pub use Rattle.vt_spec.specs.Machine.Turns.{Item, Progress, Queue, Queued, Reply, Route, Sched, Turned, call_turn, call_turn_of, entry_rules, filesystem_change_of, first_progress, first_turn, first_turn_by, further, is_failing, is_overtaken, is_stale, item_turn, last_number, later_turn, namespace_change_of, next_word, one_further, queue_of, queue_turn, restarted, routes, same_who, shortened, turn_under_way, without_progress, word_walked_by, words_of}
unfoldable pub use Rattle.vt_spec.specs.Machine.Turns.{everything_in_turns, turn}
pub use Rattle.vt_spec.specs.Machine.Turns.Item.{Asks, Calls, Refused}
pub use Rattle.vt_spec.specs.Machine.Types.{master_after, named_mounts, retyped, retyped_mount, type_after, with_master, with_new_groups, with_type}
pub use Rattle.vt_spec.specs.Machine.Views.{View, cuts, hides, names_at, node_led, shown_from, shown_over}
pub use Rattle.vt_spec.specs.Machine.Walking.{Follow, Here, LastWord, Place, Stop, all_met, also_met, directory_walk, entered, entered_mounts, entered_upward, entry_location, file_walk, filesystems_of, final_word, follow_rules, hops, if_symlink, is_directory_there, is_no_word, is_special, last_word, met_at, met_by, name_of, new_leaf_walk, new_walk, object_named, object_walk, old_leaf_walk, old_walk, path_text, place_walk, placed, search_rules, slash_rules, start_of, stepped, steps_at, steps_with, stopped_by, symlink_of, symlink_start, symlink_there, symlink_walk, symlink_walk_by, symlink_walked, then_walk, up_from, walk_end, walk_start, walk_unless, word_walked, words_walked}
pub use Rattle.vt_spec.specs.Machine.Walking.LastWord.{Dot, DotDot, Named, NoWord}
pub use Rattle.vt_spec.specs.Machine.World.{Descriptor, Filesystem, Layer, Namespace, Overlay, Real, Task, World, all_locations, files_at, filesystem_at, filesystem_numbered, first_mount, first_task, is_directory_at, is_overlay, is_removed_at, layers_of, locations_of, mount_at, mount_numbered, mounts_of, new_plain, no_filesystem, node_at, open_layer, opening, replaced_if_called, replaced_if_numbered, root_attr, root_mount, shown_layers, task_called, upper_object, with_filesystem, with_flags, with_mounts, with_task, without_task}
pub use Rattle.vt_spec.specs.Machine.World.Real.{Lower, Upper}
pub use Rattle.vt_spec.specs.PathText.{ends_in_slash, is_absolute, is_empty, parsed_path, parts, path_rules, with_byte, words}
pub use Rattle.vt_spec.specs.Rights.{Credentials, allows, cap_sys_admin, cap_sys_chroot, execute_right, has_all, is_directory, owns, read_right, write_right}
pub use Rattle.vt_spec.specs.Tree.{Content, Entries, Node, Tree, bytes_in, bytes_of, entries_in, entries_of, entry_named, is_directory_node, kind_of, name_cmp, names_in, new_directory, node_with_bytes, node_with_entry, parent_in, parent_of, with_bytes, with_entries, with_entry}
pub use Rattle.vt_spec.specs.Tree.Content.{Directory, Regular, Symlink, Whiteout}
pub use Rattle.vt_spec.specs.TreeInvariant.{HasName, HasOwnParents, IsDirectory, IsReached, IsTree, entry_at, led}
