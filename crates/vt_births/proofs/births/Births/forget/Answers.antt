use Rattle.std.proofs.Common.{arith, sym, ◌∙◌}
use Rattle.vt_births.specs.Births.{births_kept}
use Rattle.vt_births.proofs.OneToOne.{one_to_one-left}
use Rattle.vt_births.proofs.births.Births.forget.Goals as goal

pub invariant_of-self-2 : goal.invariant_of-self-2
invariant_of-self-2 c = record {
  one_to_one = one_to_one-left (births_kept c.self.inside.by_copy c.self.inside.by_node c.self.inside.promised)
      (births_kept c.swap_remove-2.new.self c.swap_remove.new.self c.self.inside.promised) c.args.node c.in_ok-slot.slot
      c.self.invariant.one_to_one (sym c.swap_remove.ensures.value ∙ c.in_ok-slot.was) c.swap_remove-2.ensures.updates.0
      c.swap_remove.ensures.updates.0;
  copies = omega (arith, c.swap_remove-2.ensures.room.0, c.self.invariant.copies);
  nodes = omega (arith, c.swap_remove.ensures.room.0, c.self.invariant.nodes);
}
