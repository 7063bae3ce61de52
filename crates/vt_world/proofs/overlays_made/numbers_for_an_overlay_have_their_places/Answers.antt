use Rattle.vt_world.proofs.overlays_made.Supplied.{inodes_get_their_numbers, mounts_get_counts, overlays_get_their_count}
use Rattle.vt_world.proofs.overlays_made.numbers_for_an_overlay_have_their_places.Goals as goal

pub returns-clause-count : goal.returns-clause-count
returns-clause-count c = overlays_get_their_count

pub returns-clause-inodes : goal.returns-clause-inodes
returns-clause-inodes c = inodes_get_their_numbers

pub returns-clause-mounts : goal.returns-clause-mounts
returns-clause-mounts c = mounts_get_counts
