-- What `Slots` end as, where a `&mut` to one of its nodes is returned.
use Rattle.std.specs.Prelude.{ℕ, Option}
use Rattle.std.specs.Borrow.{Lends, LendsIf, Fml, MutBor}
use Rattle.vt_spec.specs.Tree.{Node}
use Rattle.vt_node.specs.contracts.nodes.Node.{the_row as node_row}
use Rattle.vt_fs.specs.Trees.Slots.{Slots, with_node_at}
use Rattle.vt_fs.specs.contracts.tree.slots.Slots.{the_row}

module _ (table : MutBor Slots) (id : ℕ) where
  -- once the borrow r ends, the number has the last node written through r
  abbrev pub lends_present : MutBor (Node ℕ) → Fml
  lends_present r = Lends the_row node_row table r (with_node_at table.now id)

  -- the same where r is a reference, and at `None` the table stays as it is
  abbrev pub lends_node : Option (MutBor (Node ℕ)) → Fml
  lends_node r = LendsIf the_row node_row table r (with_node_at table.now id) table.now
