use Rattle.std.proofs.Common.{arith, ◌≡◌, nat_eq, ap, subst, sym, ℕ, ◌∙◌, refl}
use Rattle.vt_spec.proofs.Common.{Inodes, node_with_entry, with_changed}
use Rattle.vt_spec.specs.Inodes.{with_new}
use Rattle.vt_fs.specs.Trees.Slots.{inodes_in, slots_len}
use Rattle.vt_fs.specs.Trees.TreeValue.{inodes_of}
use Rattle.vt_fs.proofs.tree.InodeLemmas.{inodes-created}
use Rattle.vt_fs.proofs.tree.NamesKept.{counted_as, name_more, new_keeps, no_entries}
use Rattle.vt_fs.specs.Trees.Names.{HasPromised, listings}
use Rattle.vt_fs.proofs.tree.PromisedKept.{promised_beside}
use Rattle.vt_fs.proofs.tree.trees.Tree.create.Goals as goal

-- the entry and the inode are what the definition adds
pub returns-clause-ok : goal.returns-clause-ok
returns-clause-ok c =
    let number : c.next-id.result ≡ c.insert_reserved.result = cc in
    let before = inodes_in c.self.inside.root c.self.inside.slots in
    let room = ap (inodes_in c.self.inside.root) c.in_ok-reserve_beside.ensures.rest_kept in
    let entry = c.in_ok-insert_entry.ensures.ok c.self.inside.root
    ∙ ap (λ inodes. with_changed nat_eq inodes c.args.directory
    (node_with_entry c.args.name.items c.next-id.result)) room in
    inodes-created before c.insert_entry.new.slots c.insert_reserved.new.self c.args.directory c.next-id.result
    c.insert_reserved.result
    c.args.name.items c.args.node entry (rw c.into_node.ensures at c.insert_reserved.ensures.inserted)
    c.insert_reserved.ensures.len number
    ∙ ap (λ value. with_new nat_eq
    (inodes_of value) c.args.directory c.args.name.items c.insert_reserved.result c.args.node) c.self.view_is

pub reserve_beside-requires : goal.reserve_beside-requires
reserve_beside-requires c = c.self.invariant.1.room

-- room alone
pub invariant_of-self : goal.invariant_of-self
invariant_of-self c =
    let beside = c.in_err-reserve_beside.ensures in (
      counted_as _ _ _ _ (ap (inodes_in c.self.inside.root) beside.rest_kept) refl c.self.invariant.0,
      promised_beside c.self.inside.promised c.self.inside.slots c.reserve_beside.new.self c.self.inside.names
          c.self.inside.names (omega arith) c.self.invariant.1 beside.rest_kept beside.room beside.still,
    )

pub invariant_of-self-in_err-lengthen : goal.invariant_of-self-in_err-lengthen
invariant_of-self-in_err-lengthen c =
    let beside = c.in_ok-reserve_beside.ensures in (
      counted_as _ _ _ _ (ap (inodes_in c.self.inside.root) beside.rest_kept) c.in_err-lengthen.ensures.listings
          c.self.invariant.0,
      promised_beside c.self.inside.promised c.self.inside.slots c.reserve_beside.new.self c.self.inside.names
          c.lengthen.new.self c.in_err-lengthen.ensures.longer c.self.invariant.1 beside.rest_kept beside.room
          beside.still,
    )

pub invariant_of-self-in_err-reserve : goal.invariant_of-self-in_err-reserve
invariant_of-self-in_err-reserve c =
    let beside = c.in_ok-reserve_beside.ensures in (
      counted_as _ _ _ _ (ap (inodes_in c.self.inside.root) beside.rest_kept)
          (c.in_err-reserve.ensures.listings ∙ c.in_ok-lengthen.ensures.listings) c.self.invariant.0,
      promised_beside c.self.inside.promised c.self.inside.slots c.reserve_beside.new.self c.self.inside.names
          c.reserve.new.self (omega (arith, c.in_ok-lengthen.ensures.longer, c.in_err-reserve.ensures.len))
          c.self.invariant.1 beside.rest_kept beside.room beside.still,
    )

pub invariant_of-self-in_err-insert_entry : goal.invariant_of-self-in_err-insert_entry
invariant_of-self-in_err-insert_entry c =
    let beside = c.in_ok-reserve_beside.ensures in
    let kept = c.in_err-insert_entry.ensures.err in (
      counted_as _ _ _ _ (ap (inodes_in c.self.inside.root) (kept ∙ beside.rest_kept))
          (c.in_ok-reserve.ensures.listings ∙ c.in_ok-lengthen.ensures.listings) c.self.invariant.0,
      subst (λ slots. HasPromised c.self.inside.promised slots c.reserve.new.self) (sym kept)
          (promised_beside c.self.inside.promised c.self.inside.slots c.reserve_beside.new.self c.self.inside.names
          c.reserve.new.self (omega (arith, c.in_ok-lengthen.ensures.longer, c.in_ok-reserve.ensures.len))
          c.self.invariant.1 beside.rest_kept beside.room beside.still),
    )

-- a name more, and an inode without entries
pub invariant_of-self-2 : goal.invariant_of-self-2
invariant_of-self-2 c =
    let root = c.self.inside.root in
    let beside = c.in_ok-reserve_beside.ensures in
    let inserted = c.insert_reserved.ensures in (
      counted_as (inodes_in root c.insert_reserved.new.self) _ _ _ refl c.add.ensures.listings
          (new_keeps (inodes_in root c.insert_entry.new.slots) (inodes_in root c.insert_reserved.new.self)
          c.insert_reserved.result c.args.node _ (rw c.into_node.ensures at inserted.inserted)
          (no_entries c.args.directory c.args.node.content c.requires.node)
          (counted_as _ _ _ _ (c.in_ok-insert_entry.ensures.ok root) refl
          (name_more (inodes_in root c.reserve_beside.new.self) c.args.directory c.args.name.items c.next-id.result
          (listings c.reserve.new.self) c.insert_entry.ensures.in_order
          (counted_as _ _ _ _ (ap (inodes_in root) beside.rest_kept)
          (c.in_ok-reserve.ensures.listings ∙ c.in_ok-lengthen.ensures.listings) c.self.invariant.0)))),
      record {
        room = omega (arith, beside.ok, c.insert_entry.ensures.room, inserted.room);
        reach = λ some. omega (
          arith,
          c.self.invariant.1.reach some,
          beside.still some,
          ap slots_len beside.rest_kept,
          ap (λ (inodes : Inodes ℕ). inodes.count) (c.in_ok-insert_entry.ensures.ok root),
          c.insert_entry.ensures.room,
          inserted.room,
          inserted.len,
          c.in_ok-lengthen.ensures.longer,
          c.in_ok-reserve.ensures.len,
          c.add.ensures.len,
        );
      },
    )
