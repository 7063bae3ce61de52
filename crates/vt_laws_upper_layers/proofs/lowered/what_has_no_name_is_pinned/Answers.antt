use Rattle.vt_laws_upper_layers.proofs.lowered.InUse.{lowered_are_in_use}
use Rattle.vt_laws_upper_layers.proofs.lowered.Unnamed.{unnamed_are_pinned}
use Rattle.vt_laws_upper_layers.proofs.lowered.UnnamedSwept.{unnamed_are_swept_alike}
use Rattle.vt_laws_upper_layers.proofs.lowered.what_has_no_name_is_pinned.Goals as goal

pub returns-clause-unnamed : goal.returns-clause-unnamed
returns-clause-unnamed c = unnamed_are_pinned

pub returns-clause-in_use : goal.returns-clause-in_use
returns-clause-in_use c = lowered_are_in_use

pub returns-clause-swept : goal.returns-clause-swept
returns-clause-swept c = unnamed_are_swept_alike
