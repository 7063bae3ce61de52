use Rattle.vt_laws_worlds.proofs.overlays_let_go.changing.NamesLost.{only_these_lose_names, overlay_changes_keep_all, written_parts_in_overlays_keep_all}
use Rattle.vt_laws_worlds.proofs.overlays_let_go.changing.OverlayCalls.{made_in_overlays_lets_go, removed_from_overlays_let_go, replaced_in_overlays_let_go, taken_and_overlay_changes_let_go}
use Rattle.vt_laws_worlds.proofs.overlays_let_go.changing.OverlaysChanged.{overlay_changes_let_go}
use Rattle.vt_laws_worlds.proofs.overlays_let_go.changing.what_a_change_of_an_overlay_leaves_goes.Goals as goal

pub returns-clause-change : goal.returns-clause-change
returns-clause-change c = overlay_changes_let_go

pub returns-clause-with_mounts : goal.returns-clause-with_mounts
returns-clause-with_mounts c = taken_and_overlay_changes_let_go

pub returns-clause-rmdir : goal.returns-clause-rmdir
returns-clause-rmdir c = removed_from_overlays_let_go

pub returns-clause-rename : goal.returns-clause-rename
returns-clause-rename c = replaced_in_overlays_let_go

pub returns-clause-names : goal.returns-clause-names
returns-clause-names c = only_these_lose_names

pub returns-clause-kept : goal.returns-clause-kept
returns-clause-kept c = overlay_changes_keep_all

pub returns-clause-written : goal.returns-clause-written
returns-clause-written c = written_parts_in_overlays_keep_all

pub returns-clause-make : goal.returns-clause-make
returns-clause-make c = made_in_overlays_lets_go
