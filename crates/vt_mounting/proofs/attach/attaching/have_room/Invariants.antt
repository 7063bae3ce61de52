use Rattle.std.proofs.Common.{◌≡◌, take, true}
use Rattle.vt_spec.proofs.Common.{list_all}
use Rattle.vt_mounting.proofs.Common.{shown}
use Rattle.vt_mounting.specs.Attach.Room.{has_room, has_small_nodes}
use Rattle.vt_mounting.proofs.attach.attaching.have_room.Given as goal

abbrev pub invariant-loop-mount : goal.invariant-loop-mount
invariant-loop-mount l = (list_all (has_room l.most (shown l.store.plain)) (take l.mount-index l.new) ≡ true)
    × (list_all has_small_nodes (take l.mount-index l.new) ≡ true)
