use Rattle.std.proofs.Common.{arith, ap, refl}
use Rattle.vt_fs.specs.Trees.Slots.{inodes_in}
use Rattle.vt_fs.proofs.tree.NamesKept.{counted_as}
use Rattle.vt_fs.proofs.tree.PromisedKept.{promised_beside}
use Rattle.vt_fs.proofs.tree.trees.Tree.promise.Goals as goal

pub reserve_beside-requires : goal.reserve_beside-requires
reserve_beside-requires c = c.self.invariant.1.room

-- room alone
pub invariant_of-self : goal.invariant_of-self
invariant_of-self c =
    let beside = c.in_err-reserve_beside.ensures in (
      counted_as _ _ _ _ (ap (inodes_in c.self.inside.root) beside.rest_kept) refl c.self.invariant.0,
      promised_beside c.self.inside.promised c.self.inside.slots c.reserve_beside.new.self c.self.inside.names
          c.self.inside.names (omega arith) c.self.invariant.1 beside.rest_kept beside.room beside.still,
    )

pub invariant_of-self-in_err-lengthen : goal.invariant_of-self-in_err-lengthen
invariant_of-self-in_err-lengthen c =
    let beside = c.in_ok-reserve_beside.ensures in (
      counted_as _ _ _ _ (ap (inodes_in c.self.inside.root) beside.rest_kept) c.in_err-lengthen.ensures.listings
          c.self.invariant.0,
      promised_beside c.self.inside.promised c.self.inside.slots c.reserve_beside.new.self c.self.inside.names
          c.lengthen.new.self c.in_err-lengthen.ensures.longer c.self.invariant.1 beside.rest_kept beside.room
          beside.still,
    )

-- and lists
pub invariant_of-self-2 : goal.invariant_of-self-2
invariant_of-self-2 c =
    let beside = c.in_ok-reserve_beside.ensures in (
      counted_as _ _ _ _ (ap (inodes_in c.self.inside.root) beside.rest_kept) c.in_ok-lengthen.ensures.listings
          c.self.invariant.0,
      record {
        room = beside.ok;
        reach = λ some. omega (arith, c.end.ensures.fits, c.in_ok-lengthen.ensures.ok);
      },
    )
