use Rattle.vt_laws_mounts.proofs.counts.overlays.FilesystemUses.{new_tree_is_counted_beside_overlays}
use Rattle.vt_laws_mounts.proofs.counts.overlays.a_new_tree_is_counted_beside_overlays.Goals as goal

pub returns : goal.returns
returns c = new_tree_is_counted_beside_overlays
