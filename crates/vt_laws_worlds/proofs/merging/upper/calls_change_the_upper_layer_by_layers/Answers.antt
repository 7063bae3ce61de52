use Rattle.vt_laws_worlds.proofs.merging.upper.Asked.{asked_changes_have_places}
use Rattle.vt_laws_worlds.proofs.merging.upper.Worlds.{changes_are_by_layers, upper_layers_after_calls, upper_layers_after_whole_calls}
use Rattle.vt_laws_worlds.proofs.merging.upper.calls_change_the_upper_layer_by_layers.Goals as goal

pub returns-clause-changes : goal.returns-clause-changes
returns-clause-changes c = changes_are_by_layers

pub returns-clause-calls : goal.returns-clause-calls
returns-clause-calls c = upper_layers_after_calls

pub returns-clause-places : goal.returns-clause-places
returns-clause-places c = asked_changes_have_places

pub returns-clause-whole : goal.returns-clause-whole
returns-clause-whole c = upper_layers_after_whole_calls
