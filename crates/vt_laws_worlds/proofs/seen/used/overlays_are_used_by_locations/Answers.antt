use Rattle.vt_laws_worlds.proofs.seen.used.NoLayers.{used_by_locations}
use Rattle.vt_laws_worlds.proofs.seen.used.Unnamed.{unnamed_are_used_where_located}
use Rattle.vt_laws_worlds.proofs.seen.used.overlays_are_used_by_locations.Goals as goal

pub returns-clause-uses : goal.returns-clause-uses
returns-clause-uses c = used_by_locations

pub returns-clause-unnamed : goal.returns-clause-unnamed
returns-clause-unnamed c = unnamed_are_used_where_located
