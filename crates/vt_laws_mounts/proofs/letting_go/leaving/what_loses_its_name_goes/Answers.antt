use Rattle.vt_laws_mounts.proofs.letting_go.leaving.TreesChanged.{named_stay, unnamed_go}
use Rattle.vt_laws_mounts.proofs.letting_go.leaving.what_loses_its_name_goes.Goals as goal

pub returns-clause-unnamed : goal.returns-clause-unnamed
returns-clause-unnamed c = unnamed_go

pub returns-clause-named : goal.returns-clause-named
returns-clause-named c = named_stay
