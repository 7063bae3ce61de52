use Rattle.vt_laws_worlds.proofs.overlay_permits.through.CallsThrough
use Rattle.vt_laws_worlds.proofs.overlay_permits.through.LayersThrough
use Rattle.vt_laws_worlds.proofs.overlay_permits.through.calls_go_through_their_location.Goals as goal

pub returns-clause-location : goal.returns-clause-location
returns-clause-location c = CallsThrough.calls_go_through_their_location

pub returns-clause-unchanged : goal.returns-clause-unchanged
returns-clause-unchanged c = CallsThrough.other_calls_leave_filesystems

pub returns-clause-layers : goal.returns-clause-layers
returns-clause-layers c = LayersThrough.calls_leave_other_layers

pub returns-clause-plain : goal.returns-clause-plain
returns-clause-plain c = LayersThrough.plain_calls_leave_layers
