use Rattle.vt_laws_worlds.proofs.merging.upper.UpperKinds.{attr_is_set_above, bytes_are_set_above, linked_above, made_above, mark_is_set_above, moved_above, opened_is_copied, removed_above}
use Rattle.vt_laws_worlds.proofs.merging.upper.changes_of_the_upper_layer_are_by_layers.Goals as goal

pub returns-clause-bytes : goal.returns-clause-bytes
returns-clause-bytes c = bytes_are_set_above

pub returns-clause-attr : goal.returns-clause-attr
returns-clause-attr c = attr_is_set_above

pub returns-clause-mark : goal.returns-clause-mark
returns-clause-mark c = mark_is_set_above

pub returns-clause-opened : goal.returns-clause-opened
returns-clause-opened c = opened_is_copied

pub returns-clause-made : goal.returns-clause-made
returns-clause-made c = made_above

pub returns-clause-linked : goal.returns-clause-linked
returns-clause-linked c = linked_above

pub returns-clause-removed : goal.returns-clause-removed
returns-clause-removed c = removed_above

pub returns-clause-moved : goal.returns-clause-moved
returns-clause-moved c = moved_above
