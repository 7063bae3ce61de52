use Rattle.std.proofs.Common.{ap, option_copied, sym, ◌∙◌, ◌≡◌}
use Rattle.vt_location.specs.Locations.{number_of}
use Rattle.vt_location.specs.Numbers.{counted}
use Rattle.vt_sealing.specs.Seen.{has_root_layer}
use Rattle.vt_sealing.proofs.Lists.{overlay_found}
use Rattle.vt_sealing.proofs.sealing.Sealing.has_root_layer.Goals as goal

pub returns-in-Some : goal.returns-in-Some
returns-in-Some c = c.has_lower_at.ensures
    ∙ overlay_found (has_root_layer (counted c.args.root.filesystem.count) (number_of c.args.root))
    c.args.self.now.store.now.overlays c.args.id.count _
    (sym (ap option_copied c.in-Some.is) ∙ c.overlay.ensures.value)

pub returns-in-None : goal.returns-in-None
returns-in-None c = overlay_found (has_root_layer (counted c.args.root.filesystem.count) (number_of c.args.root))
    c.args.self.now.store.now.overlays c.args.id.count _
    (sym (ap option_copied c.in-None.is) ∙ c.overlay.ensures.value)
