use Rattle.vt_laws_members.proofs.overlay_names.names.HidingEnding.{all_opaques_end_alike, all_whiteouts_end_alike}
use Rattle.vt_laws_members.proofs.overlay_names.names.calls_of_theirs_that_hide_lower_layers_end_alike.Goals as goal

pub returns-clause-opaque : goal.returns-clause-opaque
returns-clause-opaque c = all_opaques_end_alike

pub returns-clause-whiteout : goal.returns-clause-whiteout
returns-clause-whiteout c = all_whiteouts_end_alike
