use Rattle.std.proofs.Common.{ap, rules, sym, ◌∙◌, ◌||◌}
use Rattle.vt_spec.proofs.Common.{YieldsList-from_slice, any_from_yields_List, list_any}
use Rattle.vt_location.specs.Numbers.{counted}
use Rattle.vt_sealing.specs.Seen.{has_work_in, stands_in}
use Rattle.vt_sealing.proofs.Lists.{held_passes}
use Rattle.vt_sealing.proofs.layers.has_layer_in.Goals as goal

pub returns-else-any : goal.returns-else-any
returns-else-any c =
    let filesystem = counted c.args.filesystem.count in
    let overlay = c.args.overlay.now.overlay in
    let above = c.args.overlay.now.above in
    let none = sym c.if-any.false ∙ any_from_yields_List (stands_in filesystem) _ _ _ c.any.ensures.ran
    (YieldsList-from_slice c.layers-layers.result.now cc) (λ x b q k. search rules)
    ∙ ap (list_any (stands_in filesystem)) c.layers-layers.ensures in
    c.has_work_in.ensures ∙ ap (λ b. b || has_work_in filesystem above) none
    ∙ held_passes (stands_in filesystem) overlay above
