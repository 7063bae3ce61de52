-- The definitions and lemmas of the crates below that most proofs cite, passed on from one place. Declares nothing.
pub use Rattle.vt_laws_later_calls.proofs.last_use.Groups.{none_lost}
pub use Rattle.vt_laws_mounts.proofs.Groups.{group-inherited, members-inherited, members-regrouped, mounts-regrouped}
pub use Rattle.vt_laws_mounts.proofs.GroupsKept.{member_shared, taking_away_keeps_groups}
pub use Rattle.vt_laws_mounts.proofs.GroupsLiving.{all_live, tested_live}
pub use Rattle.vt_laws_mounts.proofs.GroupsUp.{live_members, source_from_group}
pub use Rattle.vt_laws_mounts.proofs.ends.Ending.{ended_namespaces_keep_mounts, points_keep_mounts, unmount_keeps_mounts}
pub use Rattle.vt_laws_mounts.proofs.ends.EndingLazy.{IsUnderWay, begun, next}
pub use Rattle.vt_laws_mounts.proofs.ends.EndingOrder.{among_inserted, from_tree, taken_in_turn}
pub use Rattle.vt_laws_mounts.proofs.letting_go.Chains.{Way, chains_alike}
pub use Rattle.vt_laws_mounts.proofs.letting_go.Chains.Way.{ends, goes_on}
pub use Rattle.vt_laws_mounts.proofs.letting_go.Lists.{Among, all_from_among, among-from_map, among-map, among_from_list_all, any-filter, any-map, any_from_among, filter-map, find_none, flat_map-step, flat_map_alike, is_among_numbers, list_all_from_among, or_left, or_right}
pub use Rattle.vt_laws_mounts.proofs.letting_go.ends.NamespacesEnd.{no_namespace_ends, nothing_taken, one_namespace_ends}
pub use Rattle.vt_laws_mounts.proofs.letting_go.leaving.TreesWithOverlays.{all_but_changed, lives_alike, unchanged}
pub use Rattle.vt_laws_mounts.proofs.letting_go.leaving.UsesKept.{set_flags_keep_all, types_keep_all}
pub use Rattle.vt_laws_mounts.proofs.letting_go.mounting.AttachedSwept.{binds_keep_all, new_filesystems_keep_all, new_mounts_of_trees_keep_all}
pub use Rattle.vt_laws_mounts.proofs.letting_go.sweeps.InUse.{filesystems_stay, layers_on, mounts_stay, no_objects, nothing_goes}
pub use Rattle.vt_laws_mounts.proofs.letting_go.sweeps.OfWorlds.{all_in_use, found_filesystem, locations_of_worlds_stand, mounts_of_worlds_stand}
pub use Rattle.vt_laws_mounts.proofs.mounts.MountsNumbered.{is_one_of, mount_uses}
pub use Rattle.vt_laws_mounts.proofs.mounts.MountsPlaces.{stands_there}
pub use Rattle.vt_laws_mounts.proofs.mounts.MountsReplaced.{found_itself}
pub use Rattle.vt_laws_mounts.proofs.mounts.Receivers.{along_chain, groups_live_at}
pub use Rattle.vt_laws_mounts.proofs.mounts.Standing.{LiesIn, depth_by_rank, lies_in_tree, rank, rank_bounded, rank_child, stand, trees_have_each_once}
pub use Rattle.vt_laws_mounts.proofs.namespaces.Pivoting.{is_new, is_root, moved_namespace, moved_other, new_among, numbered_mounts_can_pivot, pivot_keeps_mounts}
pub use Rattle.vt_laws_mounts.proofs.namespaces.Unsharing.{unshare_keeps_mounts}
pub use Rattle.vt_laws_mounts.specs.LettingGo.Attaching.{is_attached}
pub use Rattle.vt_laws_mounts.specs.LettingGo.Detaching.{with_changed}
pub use Rattle.vt_laws_mounts.specs.LettingGo.Ends.{MountsAreListed}
pub use Rattle.vt_laws_mounts.specs.LettingGo.InUse.{AllInUse, FilesystemsInUse, IsListedTree, is_inode_used}
pub use Rattle.vt_laws_mounts.specs.LettingGo.Keeping.{LocationsStand, has_only_named}
pub use Rattle.vt_laws_mounts.specs.LettingGo.OneByOne.{AllInUseBut, Inode, Losers, is_inode_among}
pub use Rattle.vt_laws_mounts.specs.LettingGo.TreeChanges.{ChangesTree}
pub use Rattle.vt_laws_mounts.specs.LettingGo.TreesOverlays.{ChangesFilesystem, in_use_of, with_filesystems, with_lost}
pub use Rattle.vt_laws_mounts.specs.Mounts.Attaching.{is_mount, numbers_of}
pub use Rattle.vt_laws_mounts.specs.Mounts.Invariants.{OneNumberEach}
pub use Rattle.vt_laws_mounts.specs.Mounts.Namespaces.{CanPivot, IsIn}
pub use Rattle.vt_laws_mounts.specs.Mounts.Receivers.{AllGroupsLive}
pub use Rattle.vt_laws_mounts.specs.Mounts.Standing.{AllStand}
pub use Rattle.vt_laws_rules.proofs.given.Ways.{calls_are_granted}
pub use Rattle.vt_laws_rules.proofs.given.Ways.{IsGranted}
pub use Rattle.vt_laws_rules.proofs.given.Ways.IsGranted.{changes_mark, changes_mode, changes_owner, creates, creates_exclusively, makes_directory, makes_hard_link, makes_symlink, makes_whiteout, mounts_overlayfs, opens, opens_existing, overwrites_file, removes_directory, renames, unlinks, unmounts_lazily, writes_new_file, writes_part}
pub use Rattle.vt_laws_later_calls.proofs.Options.{cases_Option}
pub use Rattle.vt_laws_sealed.proofs.outsiders.FilesystemsSwept.{filesystems_swept, filter_map_filtered}
pub use Rattle.vt_laws_sealed.proofs.outsiders.OtherMounts.{located_there, namespace_outside, number_not_new}
pub use Rattle.vt_laws_sealed.proofs.outsiders.SeenLater.{changed_of, lower_of, shown_at, used_later}
pub use Rattle.vt_laws_sealed.proofs.part.Kept.{among-each_once, among-from_each_once, filter_again, filter_both, filter_kept, filter_map_map, filter_map_same, kept_again, length-filter_map}
pub use Rattle.vt_laws_sealed.proofs.part.groups.EventsApart.{Hears, heard_above, member_group, members_of, none_hears, sides, start_hears}
pub use Rattle.vt_laws_sealed.proofs.part.groups.ReceiversAlike.{Living, OtherLives, no_event_of_theirs_reaches_others, none_other, other_above, own_member, same_up, their_groups_receive_alike}
pub use Rattle.vt_laws_sealed.proofs.part.locks.LockedTrees.{all_locked, named_under, root_under}
pub use Rattle.vt_laws_sealed.proofs.part.part.DeadMounts.{dead_mounts_are_in_no_part, mounts_kept}
pub use Rattle.vt_laws_sealed.proofs.part.part.MountsOver.{IsWhole, nowhere_stands, numbered, same_child, same_over}
pub use Rattle.vt_laws_sealed.proofs.part.part.Observed.{lowers_same, part_same, used_same}
pub use Rattle.vt_laws_sealed.proofs.part.part.PartOfPart.{found, is_own, keep, kept_how, kept_whole, located, same_directly, same_lowers, same_members, same_own, same_used, shown_how, shown_number, used_directly_used}
pub use Rattle.vt_laws_sealed.proofs.part.seals.ByPart.{IsSealed, apart_if_sealed, layer_directory, layer_plain, lower_plain, overlay_without_others, sealed_by, their_overlays_are_in_the_part, used_are_free}
pub use Rattle.vt_laws_sealed.proofs.part.walks.WalksAgree.{Agree, Alike, Each, FollowsAgree, both_each, each_from, none_each, one_each, own_topmost, same_entry, same_filesystems, same_met, same_search, same_topmost, stepped_agrees, texts_agree, then_agree, unless_agree, word_agrees, words_agree}
pub use Rattle.vt_laws_sealed.specs.Part.Parts.{SeesTheSame, shown_of}
pub use Rattle.vt_laws_sealed.specs.Part.Seals.{IsApart}
pub use Rattle.vt_laws_trees.proofs.layers.layers.ShownDirectories.{led_is_there}
pub use Rattle.vt_laws_trees.proofs.overlays.whole.ApartPaths.{led_under, under_led}
pub use Rattle.vt_laws_trees.proofs.trees.Lists.{among-flat_map_filter, length-filter_le, nth_among}
pub use Rattle.vt_laws_trees.specs.Layers.Layers.Mounted.{AreLayers}
pub use Rattle.vt_laws_worlds.proofs.kept.MountsAlike.{same_mounts}
pub use Rattle.vt_laws_worlds.proofs.overlay_permits.asked.Asked.{permits_ask_well}
pub use Rattle.vt_laws_worlds.proofs.overlay_permits.asked.Unlocked.{permits_spare_what_is_locked}
pub use Rattle.vt_laws_worlds.proofs.overlay_permits.changed.ChangedOverlays.{permits_can_change}
pub use Rattle.vt_laws_worlds.proofs.worlds.CallsKept.{name_found}
pub use Rattle.vt_laws_worlds.proofs.worlds.FitPermitsNamed.{all_permits_fit}
pub use Rattle.vt_laws_worlds.proofs.worlds.Reached.{namespace_below}
pub use Rattle.vt_laws_worlds.specs.OverlayPermits.Asked.{AsksWell, AsksWellIf, change_asked}
pub use Rattle.vt_laws_worlds.specs.OverlayPermits.Changed.{numbers_left}
pub use Rattle.vt_laws_worlds.specs.OverlayPermits.Unlocked.{SparesLocked, SparesLockedIf}
pub use Rattle.vt_laws_worlds.specs.OverlaysLetGo.OverlayChanges.{CanChange, inodes_lost_with_upper, merge_after}
pub use Rattle.vt_spec.specs.Machine.Looks.{is_directory_at, mount_at, topmost}
pub use Rattle.vt_spec.specs.Machine.Rules.Mounting.{lazy_rules, lie_apart, upper_and_work_locations}
pub use Rattle.vt_spec.specs.Machine.Sealed.{is_on_own_mount}
pub use Rattle.vt_spec.specs.Machine.Views.{Shown, lowers_have_directory}
pub use Rattle.vt_spec.specs.Machine.Walking.{file_or_symlink, file_walked, followed, hop, last_walked, new_name_rules, path_walked, prefix_walked}
pub use Rattle.vt_spec.specs.declared.attributes.Kind.TheVariants.{White}
pub use Rattle.vt_spec.specs.declared.errors.Deny.{Deny}
pub use Rattle.vt_spec.specs.declared.errors.Rule.TheVariants.{B1, C1, C3, E1, E2, E3, E4, E5, E6, F1, F2, K1, L1, M10, M11, M12, M2, M3, M4, M5, M6, M7, M8, M9, O1, O2, O3, O5, P1, P2, S2, S4, W2, W3, W6, W7, W8, W9}
