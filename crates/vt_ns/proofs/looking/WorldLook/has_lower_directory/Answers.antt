use Rattle.std.proofs.Common.{subst}
use Rattle.vt_ns.proofs.Common.{IsHeld, location_of}
use Rattle.vt_ns.proofs.looking.UppersAsked.{no_lower_directory}
use Rattle.vt_ns.proofs.looking.WorldLook.has_lower_directory.Goals as goal

pub returns : goal.returns
returns c = cc (no_lower_directory c.args.self.now (subst IsHeld c.self.view_is c.self.invariant) (location_of c.args._at) c.requires c.args._name.now)
