use Rattle.std.proofs.Common.{arith, ◌≡◌, length, false, nat_eq, ap, subst, sym, ℕ, ◌<◌, ◌∙◌, refl}
use Rattle.vt_spec.proofs.Common.{Inodes, entries_in, has_entry_to, tree_of as nodes_of}
use Rattle.vt_spec.specs.Inodes.{with_new}
use Rattle.vt_fs.specs.Trees.Slots.{inodes_in}
use Rattle.vt_fs.specs.Trees.TreeValue.{TreeValue, inodes_of, next_number, tree_of}
use Rattle.vt_fs.proofs.tree.InodeLemmas.{inodes-created}
use Rattle.vt_fs.proofs.tree.NamesKept.{counted_as, name_more, new_keeps, no_entries, none_keeps}
use Rattle.vt_fs.specs.Trees.Names.{listings, none_at}
use Rattle.vt_fs.proofs.tree.trees.Tree.create_promised.Goals as goal

-- there is room in the directory
pub place_entry-requires : goal.place_entry-requires
place_entry-requires c = subst (λ value. length (entries_in ((tree_of value).node c.args.directory)) < c.args.room.now)
    (sym c.self.view_is) c.requires.room

-- the entry and the inode are what the definition adds
pub returns-clause-made : goal.returns-clause-made
returns-clause-made c =
    let number : c.next-id.result ≡ c.insert_reserved.result = cc in
    let before = inodes_in c.self.inside.root c.self.inside.slots in
    inodes-created before c.place_entry.new.slots c.insert_reserved.new.self c.args.directory c.next-id.result
    c.insert_reserved.result c.args.name.items c.args.node (c.place_entry.ensures.placed c.self.inside.root)
    (rw c.into_node.ensures at c.insert_reserved.ensures.inserted) c.insert_reserved.ensures.len number
    ∙ (λ i. with_new nat_eq (inodes_of (c.self.view_is i)) c.args.directory c.args.name.items (sym number i)
    c.args.node)

-- a name, and an inode without entries
pub invariant_of-self : goal.invariant_of-self
invariant_of-self c =
    let root = c.self.inside.root in
    let before = inodes_in root c.self.inside.slots in
    let inserted = c.insert_reserved.ensures in
    let promised = ap (λ (value : TreeValue). value.promised) c.self.view_is in
    let unnamed : (place : ℕ) → has_entry_to nat_eq (nodes_of before) place c.next-id.result ≡ false =
    λ place. ap (has_entry_to nat_eq (nodes_of before) place) c.next-id.ensures.value
    ∙ ap (λ value. has_entry_to nat_eq (tree_of value) place (next_number value)) c.self.view_is
    ∙ c.requires.unnamed place in (
      counted_as (inodes_in root c.insert_reserved.new.self) _ _ _ refl c.start.ensures.listings
          (new_keeps (inodes_in root c.place_entry.new.slots) (inodes_in root c.insert_reserved.new.self)
          c.insert_reserved.result c.args.node _ (rw c.into_node.ensures at inserted.inserted)
          (no_entries c.args.directory c.args.node.content c.requires.node)
          (counted_as _ _ _ _ (c.place_entry.ensures.placed root) refl
          (name_more before c.args.directory c.args.name.items c.next-id.result
          (none_at c.next-id.result (listings c.self.inside.names)) c.place_entry.ensures.in_order
          (none_keeps (nodes_of before) c.next-id.result (listings c.self.inside.names) unnamed c.self.invariant.0)))),
      record {
        room = omega (arith, c.self.invariant.1.room, c.place_entry.ensures.room, inserted.room, promised, c.requires.promised);
        reach = λ some. omega (
          arith,
          c.self.invariant.1.reach (omega (arith, promised, c.requires.promised)),
          ap (λ (inodes : Inodes ℕ). inodes.count) (c.place_entry.ensures.placed root),
          c.place_entry.ensures.room,
          inserted.room,
          inserted.len,
          c.start.ensures.len,
        );
      },
    )

-- there is room for the inode, and a list for its number
pub start-requires : goal.start-requires
start-requires c =
    let number : c.next-id.result ≡ c.insert_reserved.result = cc in
    omega (
      arith,
      number,
      c.insert_reserved.ensures.below,
      c.place_entry.ensures.room,
      ap (λ (inodes : Inodes ℕ). inodes.count) (c.place_entry.ensures.placed c.self.inside.root),
      c.self.invariant.1.reach (omega (
        arith,
        ap (λ (value : TreeValue). value.promised) c.self.view_is,
        c.requires.promised,
      )),
    )

pub insert_reserved-requires : goal.insert_reserved-requires
insert_reserved-requires c = omega (
  arith,
  c.place_entry.ensures.room,
  c.self.invariant.1.room,
  ap (λ (value : TreeValue). value.promised) c.self.view_is,
  c.requires.promised,
)
