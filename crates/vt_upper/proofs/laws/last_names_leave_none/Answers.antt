use Rattle.vt_upper.proofs.NamesLeft.{last_leaves_none}
use Rattle.vt_upper_overlay.proofs.Shown.{looked_by}
use Rattle.vt_upper.proofs.laws.last_names_leave_none.Goals as goal

pub returns : goal.returns
returns c = λ trees overlay directory node path name stands small own at.
    last_leaves_none trees overlay (looked_by trees overlay directory stands small own) directory node path name at
