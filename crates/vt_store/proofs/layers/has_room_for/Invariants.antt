use Rattle.std.proofs.Common.{take}
use Rattle.vt_fs.specs.FilesystemsValue.{shown}
use Rattle.vt_store.specs.LayersHeld.{HaveRoomFor}
use Rattle.vt_store.proofs.layers.has_room_for.Given as goal

-- there is room for those that were looked at
abbrev pub invariant-loop-layer : goal.invariant-loop-layer
invariant-loop-layer l = HaveRoomFor l.more (shown l.plain) (take l.layer-index l.layers)
