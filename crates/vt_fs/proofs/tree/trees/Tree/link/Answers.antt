use Rattle.std.proofs.Common.{◌≡◌, nat_eq, ap, ◌∙◌, arith, refl, ℕ}
use Rattle.vt_spec.proofs.Common.{Inodes, node_with_entry, pinned, uses_in}
use Rattle.vt_spec.specs.Inodes.{with_name}
use Rattle.vt_fs.specs.Trees.Slots.{inodes_in, slot_at, slots_len}
use Rattle.vt_fs.specs.Trees.TreeValue.{inodes_of}
use Rattle.vt_fs.proofs.tree.InodeLemmas.{inodes-acquired, uses-with_changed}
use Rattle.vt_fs.proofs.tree.NamesKept.{counted_as, name_more, pin_keeps}
use Rattle.vt_fs.specs.Trees.Names.{listings}
use Rattle.vt_fs.proofs.tree.PromisedKept.{promised_kept}
use Rattle.vt_fs.proofs.tree.trees.Tree.link.Goals as goal

-- an entry leaves the count below its limit
pub count_use-requires : goal.count_use-requires
count_use-requires c =
    let kept : uses_in (slot_at c.insert_entry.new.slots c.args.object)
    ≡ uses_in (slot_at c.self.inside.slots c.args.object) =
    ap (λ inodes. uses_in (inodes.inode c.args.object)) (c.in_ok-insert_entry.ensures.ok c.self.inside.root)
    ∙ uses-with_changed (inodes_in c.self.inside.root c.self.inside.slots) c.args.directory
    (node_with_entry c.args.name.items c.args.object) c.args.object in
    omega (arith, kept, c.uses.ensures, c.if-uses.false)

pub returns-clause-ok : goal.returns-clause-ok
returns-clause-ok c =
    inodes-acquired c.self.inside.root c.insert_entry.new.slots c.count_use.new.self c.args.object
    c.count_use.ensures.acquired c.count_use.ensures.len
    ∙ ap (λ inodes. pinned nat_eq inodes c.args.object) (c.in_ok-insert_entry.ensures.ok c.self.inside.root)
    ∙ ap (λ value. with_name nat_eq (inodes_of value) c.args.directory c.args.name.items c.args.object) c.self.view_is

-- room alone
pub invariant_of-self : goal.invariant_of-self
invariant_of-self c = (
  counted_as (inodes_in c.self.inside.root c.self.inside.slots) _ _ _ refl c.in_err-lengthen.ensures.listings
      c.self.invariant.0,
  promised_kept c.self.inside.promised c.self.inside.slots c.self.inside.slots c.self.inside.names c.lengthen.new.self
      c.in_err-lengthen.ensures.longer c.self.invariant.1 (omega arith) (omega arith),
)

pub invariant_of-self-in_err-reserve : goal.invariant_of-self-in_err-reserve
invariant_of-self-in_err-reserve c = (
  counted_as (inodes_in c.self.inside.root c.self.inside.slots) _ _ _ refl
      (c.in_err-reserve.ensures.listings ∙ c.in_ok-lengthen.ensures.listings) c.self.invariant.0,
  promised_kept c.self.inside.promised c.self.inside.slots c.self.inside.slots c.self.inside.names c.reserve.new.self
      (omega (arith, c.in_ok-lengthen.ensures.longer, c.in_err-reserve.ensures.len)) c.self.invariant.1 (omega arith)
      (omega arith),
)

pub invariant_of-self-in_err-insert_entry : goal.invariant_of-self-in_err-insert_entry
invariant_of-self-in_err-insert_entry c = (
  counted_as _ _ _ _ (ap (inodes_in c.self.inside.root) c.in_err-insert_entry.ensures.err)
      (c.in_ok-reserve.ensures.listings ∙ c.in_ok-lengthen.ensures.listings) c.self.invariant.0,
  promised_kept c.self.inside.promised c.self.inside.slots c.insert_entry.new.slots c.self.inside.names
      c.reserve.new.self (omega (arith, c.in_ok-lengthen.ensures.longer, c.in_ok-reserve.ensures.len))
      c.self.invariant.1 (omega (arith, c.insert_entry.ensures.room))
      (omega (arith, c.insert_entry.ensures.room, ap slots_len c.in_err-insert_entry.ensures.err)),
)

-- a name more, and a use
pub invariant_of-self-2 : goal.invariant_of-self-2
invariant_of-self-2 c =
    let root = c.self.inside.root in (
      counted_as _ _ _ _ (inodes-acquired root c.insert_entry.new.slots c.count_use.new.self c.args.object
          c.count_use.ensures.acquired c.count_use.ensures.len) c.add.ensures.listings
          (pin_keeps (inodes_in root c.insert_entry.new.slots) c.args.object _
          (counted_as _ _ _ _ (c.in_ok-insert_entry.ensures.ok root) refl
          (name_more (inodes_in root c.self.inside.slots) c.args.directory c.args.name.items c.args.object
          (listings c.reserve.new.self) c.insert_entry.ensures.in_order
          (counted_as (inodes_in root c.self.inside.slots) _ _ _ refl
          (c.in_ok-reserve.ensures.listings ∙ c.in_ok-lengthen.ensures.listings) c.self.invariant.0)))),
      promised_kept c.self.inside.promised c.self.inside.slots c.count_use.new.self c.self.inside.names c.add.new.self
          (omega (arith, c.in_ok-lengthen.ensures.longer, c.in_ok-reserve.ensures.len, c.add.ensures.len))
          c.self.invariant.1 (omega (arith, c.insert_entry.ensures.room, c.count_use.ensures.room)) (omega (
            arith,
            c.insert_entry.ensures.room,
            ap (λ (inodes : Inodes ℕ). inodes.count) (c.in_ok-insert_entry.ensures.ok root),
            c.count_use.ensures.room,
            c.count_use.ensures.len,
          )),
    )
