use Rattle.vt_laws_later_calls.proofs.last_use.CallsOfTasks.{close_takes_its_filesystem, close_takes_its_inode, exit_ends_its_namespace}
use Rattle.vt_laws_later_calls.proofs.last_use.Groups.{group_goes_with_its_last_member, group_is_handed_on_with_its_last_member}
use Rattle.vt_laws_later_calls.proofs.last_use.InodesLeft.{exchange_of_one_loses_one_use, inode_beside_overlays_goes_with_its_last_use, inode_goes_with_its_last_use, inode_of_overlay_goes_with_its_last_use}
use Rattle.vt_laws_later_calls.proofs.last_use.LastLocations.{location_takes_its_filesystem}
use Rattle.vt_laws_later_calls.proofs.last_use.LocationsLeft.{location_takes_its_inode}
use Rattle.vt_laws_later_calls.proofs.last_use.MountsAndFilesystems.{filesystem_goes_with_its_last_use, mount_goes_with_its_last_use}
use Rattle.vt_laws_later_calls.proofs.last_use.Namespaces.{namespace_ends_with_its_last_task}
use Rattle.vt_laws_later_calls.proofs.last_use.OverlaysUnmounted.{filesystem_beside_overlays_goes_with_its_last_use, overlay_goes_with_its_last_use}
use Rattle.vt_laws_later_calls.proofs.last_use.UppersLeft.{inode_over_lowers_goes_alone, upper_inode_goes_with_its_last_use}
use Rattle.vt_laws_later_calls.proofs.last_use.each_thing_goes_with_its_last_use.Goals as goal

pub returns-clause-mount : goal.returns-clause-mount
returns-clause-mount c = mount_goes_with_its_last_use

pub returns-clause-filesystem : goal.returns-clause-filesystem
returns-clause-filesystem c = filesystem_goes_with_its_last_use

pub returns-clause-filesystem_beside_overlays : goal.returns-clause-filesystem_beside_overlays
returns-clause-filesystem_beside_overlays c = filesystem_beside_overlays_goes_with_its_last_use

pub returns-clause-overlay : goal.returns-clause-overlay
returns-clause-overlay c = overlay_goes_with_its_last_use

pub returns-clause-exchange : goal.returns-clause-exchange
returns-clause-exchange c = exchange_of_one_loses_one_use

pub returns-clause-inode : goal.returns-clause-inode
returns-clause-inode c = inode_goes_with_its_last_use

pub returns-clause-inode_beside_overlays : goal.returns-clause-inode_beside_overlays
returns-clause-inode_beside_overlays c = inode_beside_overlays_goes_with_its_last_use

pub returns-clause-inode_of_overlay : goal.returns-clause-inode_of_overlay
returns-clause-inode_of_overlay c = inode_of_overlay_goes_with_its_last_use

pub returns-clause-inode_over_lowers : goal.returns-clause-inode_over_lowers
returns-clause-inode_over_lowers c = inode_over_lowers_goes_alone

pub returns-clause-upper_inode : goal.returns-clause-upper_inode
returns-clause-upper_inode c = upper_inode_goes_with_its_last_use

pub returns-clause-location : goal.returns-clause-location
returns-clause-location c = location_takes_its_inode

pub returns-clause-close : goal.returns-clause-close
returns-clause-close c = close_takes_its_inode

pub returns-clause-last_location : goal.returns-clause-last_location
returns-clause-last_location c = location_takes_its_filesystem

pub returns-clause-last_close : goal.returns-clause-last_close
returns-clause-last_close c = close_takes_its_filesystem

pub returns-clause-namespace : goal.returns-clause-namespace
returns-clause-namespace c = namespace_ends_with_its_last_task

pub returns-clause-exit : goal.returns-clause-exit
returns-clause-exit c = exit_ends_its_namespace

pub returns-clause-group : goal.returns-clause-group
returns-clause-group c = group_is_handed_on_with_its_last_member c.a_group_ends_with_its_last_member.ensures.one

pub returns-clause-master : goal.returns-clause-master
returns-clause-master c = group_goes_with_its_last_member
