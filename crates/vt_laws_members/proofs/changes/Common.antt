-- What other folders cite of how a change is made in the part, passed on from one place. Declares nothing.
pub use Rattle.vt_laws_members.proofs.changes.files.FilesChanged.{lowers_in, part_with_files, part_with_layers}
pub use Rattle.vt_laws_members.proofs.changes.files.FilesEnding.{chmods_end_alike, chowns_end_alike, no_overlay, opaques_end_alike, writes_end_alike}
pub use Rattle.vt_laws_members.proofs.changes.files.FilesRaised.{both, both_kept, both_numbered, both_overlaid, swap}
pub use Rattle.vt_laws_members.proofs.changes.files.OneFilesystem.{found_numbered, old_number, old_used, one_in_part, one_in_world}
pub use Rattle.vt_laws_members.proofs.changes.letting_go.Changed.{LetsGo, Retasks, mount_parent, sees_less}
pub use Rattle.vt_laws_members.proofs.changes.letting_go.CutNamespace.{in_same, in_space, numbers_in}
pub use Rattle.vt_laws_members.proofs.changes.letting_go.EndedRaised.{raised_alike, raised_number, same_list_alike}
pub use Rattle.vt_laws_members.proofs.changes.letting_go.Ends.{raised_members}
pub use Rattle.vt_laws_members.proofs.changes.letting_go.Exiting.{exits_end_alike, in_old, none_ends, part_keeps}
pub use Rattle.vt_laws_members.proofs.changes.letting_go.Heard.{IsHeard, above_heard, apart, heard_by_own, master_same, own_in, own_in_part, part_source, space_in_part, up_heard}
pub use Rattle.vt_laws_members.proofs.changes.letting_go.LessSeen.{AreLess, filter_map_then, less_used, one_part}
pub use Rattle.vt_laws_members.proofs.changes.letting_go.Moving.{On, StandsHere, alike, at_directory, chdirs_end_alike, chroots_end_alike, closes_end_alike, one, other}
pub use Rattle.vt_laws_members.proofs.changes.letting_go.NamespaceLess.{Detaches, KeepsShape, LeavesWorlds, SetIsLess, ended, ended_by, ended_less, ended_mount, ended_part, filesystem_after, member_was, own_before, placed_so, shape_kept, stands_on}
pub use Rattle.vt_laws_members.proofs.changes.letting_go.PartMounts.{part_mounts}
pub use Rattle.vt_laws_members.proofs.changes.letting_go.PartReady.{no_others_there, part_ready}
pub use Rattle.vt_laws_members.proofs.changes.letting_go.Ready.{Alone, IsCut, NoOthers, Ready}
pub use Rattle.vt_laws_members.proofs.changes.letting_go.Regrouped.{TheirsGo, find_alike, flags_same, left_by, master_after, mount_alike}
pub use Rattle.vt_laws_members.proofs.changes.letting_go.SeeLess.{part_of_less}
pub use Rattle.vt_laws_members.proofs.changes.letting_go.Sweep.{part_of_settled, swept_of}
pub use Rattle.vt_laws_members.proofs.changes.letting_go.Taken.{all_stay, group_lost, part_after, part_taken, taken_parts, world_after, world_taken, worlds_left}
pub use Rattle.vt_laws_members.proofs.changes.letting_go.TasksStay.{tasks_stay}
pub use Rattle.vt_laws_members.proofs.changes.letting_go.Umounting.{umounts_end_alike}
pub use Rattle.vt_laws_members.proofs.changes.letting_go.WorldReady.{alone, world_ready}
pub use Rattle.vt_laws_members.proofs.changes.looks.Granted.{any_answers, ends_so, judged_so}
pub use Rattle.vt_laws_members.proofs.changes.looks.Told.{ended_alike, looks_end_alike, ran, same_caller}
pub use Rattle.vt_laws_members.proofs.changes.names.Elsewhere.{own_here, plain_points}
pub use Rattle.vt_laws_members.proofs.changes.names.GrantedNames.{Names, NamingCall, naming_of, naming_theirs}
pub use Rattle.vt_laws_members.proofs.changes.names.NamesEnding.{links_end_alike, mkdirs_end_alike, naming_alone, new_files_end_alike, symlinks_end_alike, unlinks_end_alike, unused_numbers, unused_serve, whiteouts_end_alike}
pub use Rattle.vt_laws_members.proofs.changes.names.RemovalsEnding.{RemovingCall, removing_directory, rename_takes_no_numbers, renames_end_alike, replacing, rmdir_takes_no_numbers}
pub use Rattle.vt_laws_members.proofs.changes.overlays.Copying.{OverlayChange, both_numbers, changes_in_part, changes_in_world, kept_on, layer_found, made_of, numbers_if_seen, numbers_in_part, numbers_in_world, ones_in_part, ones_in_world, overlays_stay, part_moved, step, step_kept, step_numbered, stepped_if_made, stepped_in_part, stepped_in_world, upper_in_use}
pub use Rattle.vt_laws_members.proofs.changes.overlays.OverlayEdits.{overlay_chmods_end_alike, overlay_chowns_end_alike, overlay_part_writes_end_alike, overlay_writes_end_alike, unwritten_run}
pub use Rattle.vt_laws_members.proofs.changes.part.SettledPart.{part_in_use, part_is_settled}
pub use Rattle.vt_laws_members.proofs.changes.tasks.ByPermit.{by_known, by_permit}
pub use Rattle.vt_laws_members.proofs.changes.tasks.Denied.{by_runs, denial_ends_alike, denials_end_alike, ran_there, run_by, same_judgement, unnamed_ends_alike}
pub use Rattle.vt_laws_members.proofs.changes.tasks.Retasked.{SeeAlike, any_both, any_of_each, retasked}
pub use Rattle.vt_laws_members.proofs.changes.tasks.Rights.{any_mapped, drops_end_alike, empty_writes_end_alike, idle_end_alike, members_changed, only_task, own_alike, raised_is, renames_of_one_end_alike, roots_alike, sees_alike, umasks_end_alike}
