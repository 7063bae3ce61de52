use Rattle.std.proofs.Common.{ap, is_some, ◌∙◌}
use Rattle.vt_ns.proofs.Common.{location_of}
use Rattle.vt_ns.proofs.looking.OverlaysLooked.{mounted_by_some, no_upper_is}
use Rattle.vt_ns.proofs.looking.WorldLook.has_no_upper.Goals as goal

pub returns : goal.returns
returns c = c.is_some.ensures ∙ mounted_by_some c.overlay_on.result ∙ ap is_some c.overlay_on.ensures.mounter
    ∙ no_upper_is c.args.self.now (location_of c.args.at) c.overlay_on.ensures.held
