use Rattle.vt_laws_mounts.proofs.counts.overlays.Living.{all_layers_are_mounted, overlays_are_mounted, overlays_are_no_layers}
use Rattle.vt_laws_mounts.proofs.counts.overlays.overlays_of_worlds_are_mounted.Goals as goal

pub returns-clause-no_layers : goal.returns-clause-no_layers
returns-clause-no_layers c = overlays_are_no_layers

pub returns-clause-mounted : goal.returns-clause-mounted
returns-clause-mounted c = overlays_are_mounted

pub returns-clause-all : goal.returns-clause-all
returns-clause-all c = all_layers_are_mounted
