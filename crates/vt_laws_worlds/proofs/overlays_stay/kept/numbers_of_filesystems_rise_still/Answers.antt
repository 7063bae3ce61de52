use Rattle.vt_laws_worlds.proofs.overlays_stay.kept.NumbersRise.{numbers_rise_still}
use Rattle.vt_laws_worlds.proofs.overlays_stay.kept.numbers_of_filesystems_rise_still.Goals as goal

pub returns : goal.returns
returns c = numbers_rise_still
