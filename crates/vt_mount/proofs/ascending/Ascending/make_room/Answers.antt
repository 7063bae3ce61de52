use Rattle.std.proofs.Common.{arith}
use Rattle.vt_mount.proofs.RisingLemmas.{room_for-bounded}
use Rattle.vt_mount.proofs.ascending.Ascending.make_room.Goals as goal

pub overflow_add-self : goal.overflow_add-self
overflow_add-self g c = omega (arith, room_for-bounded c.args.self.now.one c.args.self.now.many)
