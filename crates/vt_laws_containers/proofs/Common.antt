-- The definitions and lemmas of the crates below that most proofs cite, passed on from one place. Declares nothing.
pub use Rattle.vt_laws_later_calls.proofs.Options.{cases_Option}
pub use Rattle.vt_laws_members.proofs.attached.CopiesAlike.{AttachesTheirs, base, copies, made, no_new_ones, parts, push}
pub use Rattle.vt_laws_members.proofs.attached.Destination.{there}
pub use Rattle.vt_laws_members.proofs.attached.GrownPart.{Grows, as_before, grown_world, is_new, own_how, shows_still}
pub use Rattle.vt_laws_members.proofs.attached.MovedGrows.{MovesTheirs, at_receiver, at_receivers, moved, moved_as, moved_grows, none_new, origin_mine, went, went_how}
pub use Rattle.vt_laws_members.proofs.attached.PushedUp.{ShowTheirs, all_copies, copies_grow, of_copies, push_keeps}
pub use Rattle.vt_laws_members.proofs.changes.letting_go.Callers.{StandsOnTheirs, of_set, places_left, replaced_how, spaces_kept}
pub use Rattle.vt_laws_members.proofs.changes.looks.Told.{ran}
pub use Rattle.vt_laws_members.proofs.changes.names.GrantedNames.{Names, granted_theirs, naming_of}
pub use Rattle.vt_laws_members.proofs.changes.tasks.Denied.{denials_end_alike, run_by, unnamed_ends_alike}
pub use Rattle.vt_laws_members.proofs.changes.tasks.Rights.{any_mapped, only_task, raised_is}
pub use Rattle.vt_laws_members.proofs.each_call.EachCall.{each_call_ends_alike}
pub use Rattle.vt_laws_members.proofs.judging.AllJudged.{called_alike}
pub use Rattle.vt_laws_members.proofs.judging.Grounds.{IsTheirs, theirs_from, theirs_test}
pub use Rattle.vt_laws_members.proofs.judging.MountPoints.{in_own}
pub use Rattle.vt_laws_members.proofs.judging.MountTrees.{own_theirs}
pub use Rattle.vt_laws_members.proofs.judging.SeenInPart.{OnTheirs, directory_theirs, filesystem_alike, located_used, members_see_alike, root_theirs, theirs_directly}
pub use Rattle.vt_laws_members.proofs.judging.TheirCalls.{IsMember, a_member, caller_in, sealing_of}
pub use Rattle.vt_laws_members.proofs.namespaces.Unsharing.{Unshares, places_moved, unshares}
pub use Rattle.vt_laws_members.specs.Changes.Changes.{EndsAlike, IsCallOfTheirs, grown, left}
pub use Rattle.vt_laws_members.specs.Judging.{is_theirs}
pub use Rattle.vt_laws_mounts.proofs.letting_go.Lists.{filter-map, filter_less, nothing_passes}
pub use Rattle.vt_laws_mounts.proofs.letting_go.sweeps.OfWorlds.{all_in_use, found_filesystem}
pub use Rattle.vt_laws_mounts.proofs.mounts.MountsReplaced.{found_itself}
pub use Rattle.vt_laws_rules.proofs.given.GivenPermits.{permits_are_for_their_calls}
pub use Rattle.vt_laws_rules.proofs.given.Ways.{calls_are_granted}
pub use Rattle.vt_laws_rules.proofs.numbers.Supports.{calls_keep_to_numbers, lines_keep_to_numbers, opening_keeps_to_four, used_numbers_are_named}
pub use Rattle.vt_laws_rules.specs.Numbers.{IsSuppliedFrom, KeepsTo, LeavesOutTwo, first_four}
pub use Rattle.vt_laws_sealed.proofs.outsiders.EveryPermit.{outsiders_leave_a_sealed_set}
pub use Rattle.vt_laws_sealed.proofs.outsiders.InTurn.{found_called, still_called}
pub use Rattle.vt_laws_sealed.proofs.outsiders.OtherMounts.{HearsGroup, located_there, member_not_new, member_of_heard, namespace_outside, not_heard, other_hears_foreign, standing_apart, standing_apart_of, standing_apart_with}
pub use Rattle.vt_laws_sealed.proofs.outsiders.StandingApart.{NothingNew, StandsApart}
pub use Rattle.vt_laws_sealed.proofs.outsiders.Staying.{LeavesApart, OthersStayOut}
pub use Rattle.vt_laws_sealed.proofs.outsiders.TakingAway.{namespaces_taken_away, one_taken, taken_from, taken_leaves_apart}
pub use Rattle.vt_laws_sealed.proofs.part.Kept.{among-each_once, among-from_each_once, filter_again, filter_kept}
pub use Rattle.vt_laws_sealed.proofs.part.groups.EventsApart.{above_lives, member_group, members_of, sides, start_hears}
pub use Rattle.vt_laws_sealed.proofs.part.groups.ReceiversAlike.{Living, OtherLives, none_other}
pub use Rattle.vt_laws_sealed.proofs.part.part.PartOfPart.{is_own, same_used, shown_how, used_directly_used}
pub use Rattle.vt_laws_sealed.proofs.part.seals.ByPart.{IsSealed, apart_if_sealed, fewer_footholds_seal_too, layer_directory}
pub use Rattle.vt_laws_sealed.proofs.part.walks.WalksAgree.{each_from}
pub use Rattle.vt_laws_sealed.specs.Outsiders.{IsOutsidersCall, LeavesItSealed, OneCall, are_all_called}
pub use Rattle.vt_laws_sealed.specs.Part.Seals.{HasNoMoreFootholds, IsApart}
pub use Rattle.vt_laws_trees.proofs.runs.Each.{Each, IfAny, each_filter, each_flat}
pub use Rattle.vt_laws_trees.proofs.runs.answered.AlikeChanges.{found_alike, task_alike}
pub use Rattle.vt_laws_trees.proofs.runs.answered.AlikeDirected.{alone_same, directly_same, members_alike, own_same, places_same, sealed_alike, used_same}
pub use Rattle.vt_laws_trees.proofs.runs.answered.AlikeWorlds.{Alike, SameNamespace, SameTask, alike_from_same, mounts_of_one, same_from_alike, sameness_is_an_equivalence, with_mounts_of}
pub use Rattle.vt_laws_trees.proofs.trees.Lists.{among-flat_map_filter, find-filter, nth_among}
pub use Rattle.vt_laws_trees.specs.Layers.Layers.ChangesUpper.{IsNewBy}
pub use Rattle.vt_laws_trees.specs.Trees.Calls.{mounts_overlay}
pub use Rattle.vt_laws_trees.specs.Trees.Limits.{names_few_groups}
pub use Rattle.vt_laws_turns.proofs.TurnShapes.{Shape, is_task_call, turn_shape}
pub use Rattle.vt_laws_turns.proofs.holds.Holding.{schedules_hold_what_is_seen, turns_hold_what_is_seen, word_seen}
pub use Rattle.vt_laws_turns.proofs.played.Fronts.{same_whos, shorter}
pub use Rattle.vt_laws_turns.proofs.played.Turning.{Answers, GoesOn, Turns, turn_is, unanswered_turns_change_nothing}
pub use Rattle.vt_laws_turns.specs.Commits.{Turn, left_by, run_item}
pub use Rattle.vt_laws_turns.specs.Holds.Held.{AreFitTurns, HoldsItsTask, HoldsWhatIsSeen, IsUnderWayOf, is_seen_by}
pub use Rattle.vt_laws_worlds.proofs.overlay_permits.worlds.EveryCall.{every_call_keeps_worlds}
pub use Rattle.vt_laws_worlds.proofs.overlays_stay.weaving.WovenLists.{filters_swapped}
pub use Rattle.vt_laws_worlds.proofs.worlds.CallsKept.{name_found}
pub use Rattle.vt_laws_worlds.proofs.worlds.FitPermitsNamed.{all_permits_fit}
pub use Rattle.vt_spec.specs.Machine.Turns.{here_route, hold_one, layer_routes, place_or_root, place_route, replied, went_on}
pub use Rattle.vt_spec.specs.declared.errors.Deny.{Deny}
