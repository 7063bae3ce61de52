use Rattle.vt_laws_worlds.proofs.overlays_let_go.changing.NamesGiven.{given_names_let_go, opened_names_let_go}
use Rattle.vt_laws_worlds.proofs.overlays_let_go.changing.what_a_new_name_replaces_goes.Goals as goal

pub returns-clause-change : goal.returns-clause-change
returns-clause-change c = given_names_let_go

pub returns-clause-open : goal.returns-clause-open
returns-clause-open c = opened_names_let_go
