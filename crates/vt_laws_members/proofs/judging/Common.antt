-- What other folders cite of how a call is judged in the part, passed on from one place. Declares nothing.
pub use Rattle.vt_laws_members.proofs.judging.AllJudged.{called_alike, judges, members_are_judged_alike, owned, walks}
pub use Rattle.vt_laws_members.proofs.judging.Busy.{no_events}
pub use Rattle.vt_laws_members.proofs.judging.ByPart.{members_are_judged_by_their_part}
pub use Rattle.vt_laws_members.proofs.judging.Grounds.{IsGround, IsTheirs, child_theirs, its_mount, own_by, parent_theirs, same_found, same_mount, theirs_from, theirs_test, up_alike}
pub use Rattle.vt_laws_members.proofs.judging.Judged.{JudgesAlike, leads_alike}
pub use Rattle.vt_laws_members.proofs.judging.Locks.{has_layer, whole_how}
pub use Rattle.vt_laws_members.proofs.judging.LowersSeen.{lower_view, overlay_there}
pub use Rattle.vt_laws_members.proofs.judging.MountPoints.{in_own, part_mount}
pub use Rattle.vt_laws_members.proofs.judging.MountTrees.{bind_alike, child_own, children_own, own_theirs, own_whole, part_one_number, part_stands, tree_alike}
pub use Rattle.vt_laws_members.proofs.judging.SeenInPart.{OnTheirs, directory_theirs, filesystem_alike, located_used, members_see_alike, mount_alike, root_theirs, theirs_directly, theirs_used}
pub use Rattle.vt_laws_members.proofs.judging.TheirCalls.{IsLastingCall, IsMember, a_member, caller_in, lasting, member_called, sealing_of}
pub use Rattle.vt_laws_members.proofs.judging.WalksLead.{FoundAt, HereAt, PlaceAt, destination_agrees, directory_agrees, file_agrees, new_agrees, new_leaf_agrees, object_agrees, old_agrees, old_leaf_agrees, rename_new_agrees, source_agrees, symlink_agrees}
