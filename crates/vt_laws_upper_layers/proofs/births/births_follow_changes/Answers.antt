use Rattle.vt_laws_upper_layers.proofs.births.Changing.{births_follow_changes, births_follow_copies}
use Rattle.vt_laws_upper_layers.proofs.births.Found.{births_go_with_inodes}
use Rattle.vt_laws_upper_layers.proofs.births.births_follow_changes.Goals as goal

pub returns-clause-copies : goal.returns-clause-copies
returns-clause-copies c = births_follow_copies

pub returns-clause-changes : goal.returns-clause-changes
returns-clause-changes c = births_follow_changes

pub returns-clause-inodes : goal.returns-clause-inodes
returns-clause-inodes c = births_go_with_inodes
