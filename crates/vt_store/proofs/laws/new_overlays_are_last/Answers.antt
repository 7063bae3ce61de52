use Rattle.vt_store.proofs.WovenLast.{new_overlays_are_last}
use Rattle.vt_store.proofs.laws.new_overlays_are_last.Goals as goal

pub returns : goal.returns
returns c = new_overlays_are_last
