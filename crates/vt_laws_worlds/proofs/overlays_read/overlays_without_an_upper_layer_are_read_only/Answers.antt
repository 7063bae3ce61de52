use Rattle.vt_laws_worlds.proofs.overlays_read.Changes.{changes_have_layers, opens_copy_nothing, plain_ones_are_changed}
use Rattle.vt_laws_worlds.proofs.overlays_read.overlays_without_an_upper_layer_are_read_only.Goals as goal

pub returns-clause-layers : goal.returns-clause-layers
returns-clause-layers c = changes_have_layers

pub returns-clause-plain : goal.returns-clause-plain
returns-clause-plain c = plain_ones_are_changed

pub returns-clause-copied : goal.returns-clause-copied
returns-clause-copied c = opens_copy_nothing
