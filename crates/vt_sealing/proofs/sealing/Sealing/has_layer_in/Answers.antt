use Rattle.std.proofs.Common.{ap, option_copied, sym, ◌∙◌, ◌≡◌}
use Rattle.vt_location.specs.Numbers.{counted}
use Rattle.vt_sealing.specs.Seen.{has_layer_in}
use Rattle.vt_sealing.proofs.Lists.{overlay_found}
use Rattle.vt_sealing.proofs.sealing.Sealing.has_layer_in.Goals as goal

pub returns-in-Some : goal.returns-in-Some
returns-in-Some c =
    let filesystem = counted c.args.filesystem.count in
    c.has_layer_in.ensures
    ∙ overlay_found (has_layer_in filesystem) c.args.self.now.store.now.overlays c.args.id.count _
    (sym (ap option_copied c.in-Some.is) ∙ c.overlay.ensures.value)

pub returns-in-None : goal.returns-in-None
returns-in-None c = overlay_found (has_layer_in (counted c.args.filesystem.count))
    c.args.self.now.store.now.overlays c.args.id.count _
    (sym (ap option_copied c.in-None.is) ∙ c.overlay.ensures.value)
