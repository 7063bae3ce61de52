use Rattle.std.proofs.Common.{arith}
use Rattle.vt_mount.proofs.RisingLemmas.{room_for-bounded}
use Rattle.vt_mount.proofs.ascending.Ascending.reserve_one.Goals as goal

pub overflow_add-self : goal.overflow_add-self
overflow_add-self g c =
    let self = c.make_room.new.self in
    omega (arith, room_for-bounded self.one self.many)
