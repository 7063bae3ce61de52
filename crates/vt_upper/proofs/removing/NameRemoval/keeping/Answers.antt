use Rattle.std.proofs.Common.{ap}
use Rattle.vt_upper.specs.declared.making.Place.{Place}
use Rattle.vt_upper.proofs.removing.NameRemoval.keeping.Goals as goal

pub returns : goal.returns
returns c = ap (λ (place : Place). record c.args.self { place = place }) c.keeping.ensures
