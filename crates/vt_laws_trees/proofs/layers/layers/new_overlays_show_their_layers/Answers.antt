use Rattle.vt_laws_trees.proofs.layers.layers.ShownMounted.{new_overlay_is_merged, remount_shows_the_same}
use Rattle.vt_laws_trees.proofs.layers.layers.new_overlays_show_their_layers.Goals as goal

pub returns-clause-merged : goal.returns-clause-merged
returns-clause-merged c = new_overlay_is_merged

pub returns-clause-remount : goal.returns-clause-remount
returns-clause-remount c = remount_shows_the_same
