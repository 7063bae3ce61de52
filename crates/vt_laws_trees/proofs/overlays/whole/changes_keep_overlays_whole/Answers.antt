use Rattle.vt_laws_trees.proofs.overlays.whole.UpperWhole
use Rattle.vt_laws_trees.proofs.overlays.whole.changes_keep_overlays_whole.Goals as goal

pub returns-clause-made : goal.returns-clause-made
returns-clause-made c = UpperWhole.make_keeps_whole

pub returns-clause-linked : goal.returns-clause-linked
returns-clause-linked c = UpperWhole.link_keeps_whole

pub returns-clause-removed : goal.returns-clause-removed
returns-clause-removed c = UpperWhole.remove_keeps_whole

pub returns-clause-moved : goal.returns-clause-moved
returns-clause-moved c = UpperWhole.move_keeps_whole

pub returns-clause-changes : goal.returns-clause-changes
returns-clause-changes c = UpperWhole.changes_keep_whole

pub returns-clause-rows : goal.returns-clause-rows
returns-clause-rows c = UpperWhole.changes_follow_one_another
