mod Told
use Rattle.vt_laws_trees.proofs.calls.effects.EffectsRights.{changes_are_by_right}
use Rattle.vt_laws_trees.proofs.calls.effects.a_right_stands_behind_each_effect.Answers.Told.{bytes_are_told_by_right, names_are_told_by_right, opens_are_by_right}
use Rattle.vt_laws_trees.proofs.calls.effects.a_right_stands_behind_each_effect.Goals as goal

pub returns-clause-changes : goal.returns-clause-changes
returns-clause-changes c = changes_are_by_right

pub returns-clause-names : goal.returns-clause-names
returns-clause-names c = names_are_told_by_right

pub returns-clause-bytes : goal.returns-clause-bytes
returns-clause-bytes c = bytes_are_told_by_right

pub returns-clause-opens : goal.returns-clause-opens
returns-clause-opens c = opens_are_by_right
