use Rattle.vt_laws_worlds.proofs.overlays_read.Swept.{plain_worlds_have_layers, same_worlds_have_layers_alike}
use Rattle.vt_laws_worlds.proofs.overlays_read.worlds_whose_writers_have_layers.Goals as goal

pub returns-clause-plain : goal.returns-clause-plain
returns-clause-plain c = plain_worlds_have_layers

pub returns-clause-alike : goal.returns-clause-alike
returns-clause-alike c = same_worlds_have_layers_alike
