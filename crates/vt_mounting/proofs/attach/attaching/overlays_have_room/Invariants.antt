use Rattle.std.proofs.Common.{◌≡◌, map, take, true}
use Rattle.vt_spec.proofs.Common.{list_all}
use Rattle.vt_mounting.specs.Attach.Room.{merged_has_room}
use Rattle.vt_mounting.specs.Detach.Stored.{merged_of}
use Rattle.vt_mounting.proofs.attach.attaching.overlays_have_room.Given as goal

abbrev pub invariant-loop-mount : goal.invariant-loop-mount
invariant-loop-mount l =
    list_all (merged_has_room l.most (map merged_of l.store.overlays)) (take l.mount-index l.new) ≡ true
