use Rattle.vt_laws_mounts.proofs.letting_go.leaving.TreesWithOverlays.{left_and_changed_lets_go, opened_keeps_all, taken_and_changed_lets_go}
use Rattle.vt_laws_mounts.proofs.letting_go.leaving.what_one_call_leaves_goes_with_overlays.Goals as goal

pub returns-clause-removed : goal.returns-clause-removed
returns-clause-removed c = taken_and_changed_lets_go

pub returns-clause-left : goal.returns-clause-left
returns-clause-left c = left_and_changed_lets_go

pub returns-clause-opened : goal.returns-clause-opened
returns-clause-opened c = opened_keeps_all
