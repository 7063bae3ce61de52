use Rattle.vt_laws_worlds.proofs.overlays_stay.in_use.NamedBefore.{any_worlds_keep_to_named_before}
use Rattle.vt_laws_worlds.proofs.overlays_stay.in_use.any_worlds_keep_to_named_before.Goals as goal

pub returns : goal.returns
returns c = any_worlds_keep_to_named_before
