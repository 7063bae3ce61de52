use Rattle.vt_laws_mounts.proofs.counts.overlays.Living.{layers_left_are_mounted, overlays_use_filesystems}
use Rattle.vt_laws_mounts.proofs.counts.overlays.overlays_count_as_layers.Goals as goal

pub returns-clause-layers : goal.returns-clause-layers
returns-clause-layers c = overlays_use_filesystems

pub returns-clause-left : goal.returns-clause-left
returns-clause-left c = layers_left_are_mounted
