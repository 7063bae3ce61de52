use Rattle.std.proofs.Common.{nat_eq, ap, ◌∙◌, arith}
use Rattle.vt_spec.proofs.Common.{on_ok_weaker, pinned}
use Rattle.vt_fs.specs.Trees.TreeValue.{inodes_of}
use Rattle.vt_fs.proofs.tree.InodeLemmas.{inodes-acquired}
use Rattle.vt_fs.proofs.tree.NamesKept.{either_counted, pin_keeps}
use Rattle.vt_fs.specs.Trees.Slots.{inodes_in}
use Rattle.vt_fs.proofs.tree.PromisedKept.{promised_kept}
use Rattle.vt_fs.proofs.tree.trees.Tree.pin.Goals as goal

pub returns-clause-ok : goal.returns-clause-ok
returns-clause-ok c = on_ok_weaker c.acquire.result
    (λ acquired. inodes-acquired c.self.inside.root c.self.inside.slots c.acquire.new.self c.args.object acquired
    c.acquire.ensures.len
    ∙ ap (λ value. pinned nat_eq (inodes_of value) c.args.object) c.self.view_is) c.acquire.ensures.acquired

-- it is pinned, or stays as it is
pub invariant_of-self : goal.invariant_of-self
invariant_of-self c = (
  either_counted c.acquire.result c.self.inside.root c.self.inside.slots c.acquire.new.self _ _
      (on_ok_weaker c.acquire.result
      (λ acquired. inodes-acquired c.self.inside.root c.self.inside.slots c.acquire.new.self c.args.object acquired
      c.acquire.ensures.len) c.acquire.ensures.acquired) c.acquire.ensures.err
      (pin_keeps (inodes_in c.self.inside.root c.self.inside.slots) c.args.object _ c.self.invariant.0) c.self.invariant.0,
  promised_kept c.self.inside.promised c.self.inside.slots c.acquire.new.self c.self.inside.names c.self.inside.names
      (omega arith) c.self.invariant.1 (omega (arith, c.acquire.ensures.room))
      (omega (arith, c.acquire.ensures.room, c.acquire.ensures.len)),
)
