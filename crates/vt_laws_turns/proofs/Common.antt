-- The definitions and lemmas of the crates below that most proofs cite, passed on from one place. Declares nothing.
pub use Rattle.vt_laws_mounts.proofs.ends.UnmountingEnds.{lazy_detaches_or_keeps, lazy_is_of_mounts, others_are_kept, taken_are_detached}
pub use Rattle.vt_laws_mounts.proofs.letting_go.Chains.{Way, chains_alike}
pub use Rattle.vt_laws_mounts.proofs.letting_go.Chains.Way.{ends, goes_on}
pub use Rattle.vt_laws_mounts.proofs.letting_go.Lists.{find_none, found_by}
pub use Rattle.vt_laws_mounts.proofs.mounts.MountsFound.{found-map_there, found_there}
pub use Rattle.vt_laws_mounts.proofs.mounts.MountsPlaces.{stands_at_its_place, stands_there}
pub use Rattle.vt_laws_mounts.proofs.mounts.MountsReplaced.{found-append, found_itself}
pub use Rattle.vt_laws_mounts.proofs.mounts.MountsRetyped.{flags_are_of_one, type_is_all_that_changes, types_are_of_mounts}
pub use Rattle.vt_laws_mounts.specs.Mounts.Attaching.{is_mount, numbers_of}
pub use Rattle.vt_laws_rules.proofs.given.Ways.{calls_are_granted}
pub use Rattle.vt_laws_rules.proofs.judged.CallsJudged.{call_is_judged_then_applied}
pub use Rattle.vt_laws_rules.proofs.given.Ways.{IsGranted}
pub use Rattle.vt_laws_rules.proofs.given.Ways.IsGranted.{mounts_overlayfs}
pub use Rattle.vt_laws_trees.proofs.calls.tasks.TasksLaws.{other_tasks_stay}
pub use Rattle.vt_laws_trees.proofs.trees.Lists.{length-filter_le, nth_among}
pub use Rattle.vt_laws_trees.specs.Trees.Calls.{mounts_overlay}
pub use Rattle.vt_laws_trees.specs.Trees.Limits.{names_few_groups}
pub use Rattle.vt_laws_worlds.proofs.kept.MountsAlike.{change_of_files, copy_of_files, writing_of_files}
pub use Rattle.vt_laws_worlds.proofs.kept.MountsKept.{all_mounts_kept}
pub use Rattle.vt_laws_worlds.proofs.merging.mounted.Worlds.{mounting_leaves_a_world}
pub use Rattle.vt_laws_worlds.proofs.overlay_permits.worlds.EveryCall.{every_call_keeps_worlds}
pub use Rattle.vt_laws_worlds.proofs.overlay_permits.worlds.PolicyLeads.{named_leaves, policy_leads}
pub use Rattle.vt_laws_worlds.proofs.worlds.CallsKept.{name_found}
pub use Rattle.vt_laws_worlds.proofs.worlds.FitPermitsNamed.{all_permits_fit}
pub use Rattle.vt_laws_worlds.proofs.worlds.Ground.{IsGround, child_ground, directory_ground, entry_ground, hop_ground, own_there, root_ground, start_ground, step_ground}
pub use Rattle.vt_laws_worlds.proofs.worlds.PermitsSeen.{gone_on, permits_keep_what_is_seen}
pub use Rattle.vt_laws_worlds.proofs.worlds.Reached.{IsFound, IsOn, directory_found, directory_no_link, entry_found, namespace_below, place_found, step_found}
pub use Rattle.vt_laws_worlds.proofs.worlds.ReachedWalks.{own_directory_found, root_found}
pub use Rattle.vt_laws_worlds.proofs.worlds.Seen.{KeepsView, KeepsWhatIsSeen}
pub use Rattle.vt_laws_worlds.proofs.worlds.SeenTrees.{unused_by_filesystem, unused_number}
pub use Rattle.vt_laws_worlds.specs.Worlds.Permits.{MayPivot, NamesWhatIsThere}
pub use Rattle.vt_spec.specs.Machine.Looks.{is_directory_at, mount_at, topmost}
pub use Rattle.vt_spec.specs.Machine.Turns.{call_replied, first_sched, here_route, hold_one, place_route, played, queued_line, queued_request, queues_of, refused_line, replied, reply_text, run_whole, schedule_who, turn_of_line, went_on, with_item_last}
unfoldable pub use Rattle.vt_spec.specs.Machine.Turns.{turns_text}
pub use Rattle.vt_spec.specs.Machine.Walking.{file_or_symlink, file_walked, followed, hop, is_lost, is_top, last_walked, new_name_rules, parent_location, path_walked, prefix_walked}
pub use Rattle.vt_spec.specs.declared.errors.Deny.{Deny}
pub use Rattle.vt_spec.specs.declared.errors.Rule.TheVariants.{S2, S5, W2, W3, W4, W5, W6, W7, W8, W9}
