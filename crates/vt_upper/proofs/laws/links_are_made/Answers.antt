use Rattle.vt_upper.proofs.LinksMade.{above_of_paths, links_made}
use Rattle.vt_upper.proofs.laws.links_are_made.Goals as goal

pub returns-clause-made : goal.returns-clause-made
returns-clause-made c = links_made c.changes_of_overlays_are_rows.ensures.changes

pub returns-clause-above : goal.returns-clause-above
returns-clause-above c = above_of_paths
