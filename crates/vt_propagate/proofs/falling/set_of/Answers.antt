use Rattle.std.proofs.Common.{arith, ◌∙◌}
use Rattle.vt_propagate.proofs.falling.GoneSets.{known_all}
use Rattle.vt_propagate.proofs.falling.set_of.Goals as goal

pub returns-then-ids-le-FEW : goal.returns-then-ids-le-FEW
returns-then-ids-le-FEW c = record {
  few = λ _. c.new-set.ensures.empty;
  many = λ large. absurd (omega (arith, large, c.if-ids-le-FEW.true));
}

pub returns : goal.returns
returns c = known_all c.reserve.new.self.keys c.note_in_set.new.set.keys c.args.ids.now
    (c.in_ok-reserve.ensures.keys ∙ c.new-set.ensures.empty) c.in_ok-note_in_set.ensures c.if-ids-le-FEW.false
