use Rattle.vt_laws_upper_layers.proofs.births.Kept.{kept_follow_changes}
use Rattle.vt_laws_upper_layers.proofs.births.Named.{births_name}
use Rattle.vt_laws_upper_layers.proofs.births.Swept.{kept_are_located}
use Rattle.vt_laws_upper_layers.proofs.births.births_name_overlays.Goals as goal

pub returns-clause-named : goal.returns-clause-named
returns-clause-named c = births_name

pub returns-clause-changes : goal.returns-clause-changes
returns-clause-changes c = kept_follow_changes

pub returns-clause-swept : goal.returns-clause-swept
returns-clause-swept c = kept_are_located
