use Rattle.vt_laws_worlds.proofs.worlds.FitPermitsNamed.{all_permits_fit}
use Rattle.vt_laws_worlds.proofs.worlds.what_is_permitted_is_there.Goals as goal

pub returns : goal.returns
returns c = all_permits_fit
