use Rattle.vt_laws_trees.proofs.overlays.changes.WholeOthers.{calls_keep_other_overlays, other_overlays_stay_merged}
use Rattle.vt_laws_trees.proofs.overlays.changes.WholeLater.{changed_overlay_is_merged}
use Rattle.vt_laws_trees.proofs.overlays.changes.WholeHidden.{hidden_stays_hidden}
use Rattle.vt_laws_trees.proofs.overlays.changes.WholeTogether.{changes_keep_shown}
use Rattle.vt_laws_trees.proofs.overlays.changes.WholeWorlds.{overlays_are_whole, shown_is_merged}
use Rattle.vt_laws_trees.proofs.overlays.changes.changes_keep_what_is_shown.Goals as goal

pub returns-clause-changes : goal.returns-clause-changes
returns-clause-changes c = changes_keep_shown

pub returns-clause-merged : goal.returns-clause-merged
returns-clause-merged c = shown_is_merged

pub returns-clause-whole : goal.returns-clause-whole
returns-clause-whole c = overlays_are_whole

pub returns-clause-hidden : goal.returns-clause-hidden
returns-clause-hidden c = hidden_stays_hidden

pub returns-clause-world : goal.returns-clause-world
returns-clause-world c = changed_overlay_is_merged

pub returns-clause-others : goal.returns-clause-others
returns-clause-others c = other_overlays_stay_merged

pub returns-clause-calls : goal.returns-clause-calls
returns-clause-calls c = calls_keep_other_overlays
