use Rattle.vt_laws_trees.proofs.layers.layers.ShownAtPath.{computed, nothing_is_shown, one_is_shown}
use Rattle.vt_laws_trees.proofs.layers.layers.ShownNames.{names_are_those_shown}
use Rattle.vt_laws_trees.proofs.layers.layers.one_object_is_shown.Goals as goal

pub returns-clause-one : goal.returns-clause-one
returns-clause-one c = one_is_shown

pub returns-clause-computed : goal.returns-clause-computed
returns-clause-computed c = computed

pub returns-clause-nothing : goal.returns-clause-nothing
returns-clause-nothing c = nothing_is_shown

pub returns-clause-names : goal.returns-clause-names
returns-clause-names c = names_are_those_shown
