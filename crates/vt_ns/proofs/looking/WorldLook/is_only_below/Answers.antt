use Rattle.std.proofs.Common.{ap, is_some, ◌∙◌}
use Rattle.vt_ns.proofs.Common.{location_of}
use Rattle.vt_ns.proofs.looking.OverlaysLooked.{mounted_by_some, only_below_is}
use Rattle.vt_ns.proofs.looking.WorldLook.is_only_below.Goals as goal

pub returns : goal.returns
returns c = c.is_some.ensures ∙ mounted_by_some c.overlay_on.result ∙ ap is_some c.overlay_on.ensures.mounter
    ∙ only_below_is c.args.self.now (location_of c.args.at) c.overlay_on.ensures.held
