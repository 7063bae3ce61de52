use Rattle.vt_overlaps.proofs.LiveLayers.{overlaps_are_with_live_layers}
use Rattle.vt_overlaps.proofs.Locked.{plain_filesystems_are_locked_alike}
use Rattle.vt_overlaps.proofs.laws.overlaps_are_with_live_layers.Goals as goal

pub returns-clause-live : goal.returns-clause-live
returns-clause-live c = overlaps_are_with_live_layers

pub returns-clause-alike : goal.returns-clause-alike
returns-clause-alike c = plain_filesystems_are_locked_alike
