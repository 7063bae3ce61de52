use Rattle.std.proofs.Common.{arith, ap, ◌∙◌}
use Rattle.indexmap.specs.IndexMap.{spare}
use Rattle.vt_node.specs.Listed.{listed}
use Rattle.vt_node.proofs.Moved.{length-listed}
use Rattle.vt_node.proofs.rooms.EntryRoom.make_place.Goals as goal

pub move_entries-requires-clause-room : goal.move_entries-requires-clause-room
move_entries-requires-clause-room c =
    let kept = length-listed c.args.by_name.now.entries c.len.ensures.unique in
    omega (arith, kept, c.requires, c.self.view_is, c.self.invariant.1)

pub returns-clause-listed : goal.returns-clause-listed
returns-clause-listed c = ap (λ map. listed map.entries) c.swap.ensures.x_after ∙ c.move_entries.ensures.listed

pub returns-clause-place : goal.returns-clause-place
returns-clause-place c =
    let kept = length-listed c.args.by_name.now.entries c.len.ensures.unique in
    omega (
      arith,
      kept,
      c.requires,
      c.self.view_is,
      c.self.invariant.1,
      c.move_entries.ensures.spare,
      ap spare c.swap.ensures.x_after,
    )
