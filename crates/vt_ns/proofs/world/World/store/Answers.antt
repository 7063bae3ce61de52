use Rattle.std.proofs.Common.{ap}
use Rattle.vt_ns.proofs.Common.{WorldValue, store_stands}
use Rattle.vt_ns.specs.contracts.world.World.{the_view}
use Rattle.vt_ns.proofs.world.World.store.Goals as goal

pub returns-clause-plain : goal.returns-clause-plain
returns-clause-plain c = ap (λ (value : WorldValue). value.filesystems) c.self.view_is

pub returns-clause-overlays : goal.returns-clause-overlays
returns-clause-overlays c = ap (λ (value : WorldValue). value.overlays) c.self.view_is

pub returns-clause-standing : goal.returns-clause-standing
returns-clause-standing c = store_stands (the_view c.self.inside) c.self.inside.store c.self.invariant
