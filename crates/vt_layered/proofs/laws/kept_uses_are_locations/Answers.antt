use Rattle.vt_layered.proofs.LocationsCounted.{locations_come, locations_go, pinned_used, unpinned_used}
use Rattle.vt_layered.proofs.laws.kept_uses_are_locations.Goals as goal

pub returns-clause-come : goal.returns-clause-come
returns-clause-come c = locations_come

pub returns-clause-go : goal.returns-clause-go
returns-clause-go c = locations_go

pub returns-clause-pinned : goal.returns-clause-pinned
returns-clause-pinned c = pinned_used

pub returns-clause-unpinned : goal.returns-clause-unpinned
returns-clause-unpinned c = unpinned_used
