use Rattle.std.proofs.Common.{ap, sym}
use Rattle.vt_upper.specs.New.{keeping}
use Rattle.vt_upper.proofs.making.Place.keeping.Goals as goal

pub returns-in-There : goal.returns-in-There
returns-in-There c = sym (ap (keeping c.args.keeps) c.in-There.is)

pub returns-in-Copied : goal.returns-in-Copied
returns-in-Copied c = sym (ap (keeping c.args.keeps) c.in-Copied.is)
