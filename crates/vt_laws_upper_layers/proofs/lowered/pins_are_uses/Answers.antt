use Rattle.vt_laws_upper_layers.proofs.lowered.Counted.{pins_are_exchanged, pins_are_uses, read_only_stays}
use Rattle.vt_laws_upper_layers.proofs.lowered.pins_are_uses.Goals as goal

pub returns-clause-one : goal.returns-clause-one
returns-clause-one c = pins_are_uses

pub returns-clause-exchanged : goal.returns-clause-exchanged
returns-clause-exchanged c = pins_are_exchanged

pub returns-clause-read_only : goal.returns-clause-read_only
returns-clause-read_only c = read_only_stays
