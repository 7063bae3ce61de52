use Rattle.std.proofs.Common.{arith}
use Rattle.vt_fs.proofs.tree.trees.Tree.give_back.Goals as goal

pub invariant_of-self : goal.invariant_of-self
invariant_of-self c = (
  c.self.invariant.0,
  record {
    room = omega (arith, c.self.invariant.1.room);
    reach = λ some. c.self.invariant.1.reach (omega (arith, some));
  },
)
