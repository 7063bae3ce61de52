-- The definitions and lemmas of the crates below that most proofs cite, passed on from one place. Declares nothing.
pub use Rattle.vt_laws_later_calls.proofs.Options.{cases_Option}
pub use Rattle.vt_laws_later_calls.specs.Ends.{KeepsAllButMasters, sets_type, takes_uses}
pub use Rattle.vt_laws_mounts.proofs.letting_go.Chains.{Way, chains_alike}
pub use Rattle.vt_laws_mounts.proofs.letting_go.Chains.Way.{ends, goes_on}
pub use Rattle.vt_laws_mounts.proofs.letting_go.Lists.{filter-map, filter_less, flat_map-map, flat_map_alike}
pub use Rattle.vt_laws_mounts.proofs.letting_go.sweeps.OfWorlds.{all_in_use, found_filesystem}
pub use Rattle.vt_laws_mounts.proofs.mounts.MountsPlaces.{same_location_itself, stands_there}
pub use Rattle.vt_laws_mounts.proofs.mounts.MountsReplaced.{found_itself}
pub use Rattle.vt_laws_mounts.proofs.mounts.Receivers.{along_chain}
pub use Rattle.vt_laws_mounts.proofs.namespaces.Unsharing.{placed_inside, unshare_keeps_mounts}
pub use Rattle.vt_laws_mounts.specs.Mounts.Invariants.{OneNumberEach}
pub use Rattle.vt_laws_rules.proofs.given.GivenPermits.{permits_are_for_their_calls}
pub use Rattle.vt_laws_rules.proofs.given.Ways.{calls_are_granted}
pub use Rattle.vt_laws_rules.proofs.judged.CallsJudged.{call_is_judged_then_applied}
pub use Rattle.vt_laws_rules.proofs.given.Ways.{IsGranted}
pub use Rattle.vt_laws_rules.proofs.given.Ways.IsGranted.{changes_directory, changes_mark, changes_mode, changes_owner, changes_root, creates, creates_exclusively, enters_namespace, makes_directory, makes_hard_link, makes_symlink, makes_whiteout, mounts_overlayfs, opens, opens_existing, overwrites_file, removes_directory, renames, unlinks, writes_new_file, writes_part}
pub use Rattle.vt_laws_trees.proofs.calls.ways.WaysEnds.{directory_ways_are_searched, object_ways_are_searched, source_ways_are_searched}
pub use Rattle.vt_laws_trees.proofs.calls.ways.WaysNamed.{IsFront, new_leaf_ways_are_searched, new_name_ways_are_searched, old_leaf_ways_are_searched, old_name_ways_are_searched, prefix_searched}
pub use Rattle.vt_laws_trees.proofs.layers.layers.LowersWorld.{filesystem_elsewhere, number_of_filesystem, the_rest_stays}
pub use Rattle.vt_laws_trees.proofs.layers.layers.UpperLine.{ReachedIn, has_entries, is_reached_in}
pub use Rattle.vt_laws_trees.proofs.overlays.whole.ApartPaths.{Led, led_on, led_under, under_led}
pub use Rattle.vt_laws_trees.proofs.trees.Lists.{among-flat_map_filter}
pub use Rattle.vt_laws_trees.proofs.trees.TreesForgotten.{entry_used, kept_file_tree, named_is_used}
pub use Rattle.vt_laws_trees.proofs.trees.TreesWalked.{Ends, at_end, ends_then, ends_unless, not-false, place_named}
pub use Rattle.vt_laws_trees.specs.Layers.Layers.ChangesUpper.{IsNewBy}
pub use Rattle.vt_laws_trees.specs.Trees.{IsFileTree, IsProper}
pub use Rattle.vt_laws_trees.specs.Trees.Calls.{mounts_overlay}
pub use Rattle.vt_laws_worlds.proofs.overlay_permits.kept.KeptOverlays.{overlays_in, permits_make_their_change, trees_in}
pub use Rattle.vt_laws_worlds.proofs.overlay_permits.worlds.EveryCall.{every_call_keeps_worlds, overlays_kept, under}
pub use Rattle.vt_laws_worlds.proofs.worlds.CallsKept.{name_found}
pub use Rattle.vt_laws_worlds.proofs.worlds.FitPermitsNamed.{all_permits_fit}
pub use Rattle.vt_laws_worlds.proofs.worlds.Ground.{IsGround, directory_ground, searched_ground, start_ground, step_ground, topmost_ground, way_ground}
pub use Rattle.vt_laws_worlds.proofs.worlds.Reached.{namespace_below}
pub use Rattle.vt_laws_worlds.specs.OverlayPermits.Asked.{AsksWell, AsksWellIf, change_asked}
pub use Rattle.vt_laws_worlds.specs.OverlayPermits.Unlocked.{SparesInode, SparesLocked, SparesLockedIf}
pub use Rattle.vt_spec.specs.Machine.Looks.{mount_at, topmost}
pub use Rattle.vt_spec.specs.Machine.Walking.{is_lost, is_top, parent_location}
pub use Rattle.vt_spec.specs.declared.errors.Deny.{Deny}
pub use Rattle.vt_spec.specs.declared.errors.Rule.TheVariants.{S2, W3, W6, W8}
