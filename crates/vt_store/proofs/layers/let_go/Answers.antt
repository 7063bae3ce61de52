use Rattle.std.proofs.Common.{ap, sym, ◌∙◌}
use Rattle.vt_fs.specs.FilesystemsValue.{shown}
use Rattle.vt_store.specs.LayersHeld.{without_layer, without_layers}
use Rattle.vt_store.proofs.LayersWithWork.{folded_alone, folded_with}
use Rattle.vt_store.proofs.layers.let_go.Goals as goal

pub returns-in-Some : goal.returns-in-Some
returns-in-Some c = folded_with c.args.overlay.now without_layer (shown c.args.plain.now)
    (shown c.let_go_layers.new.plain) (shown c.let_go_layer.new.plain) c.in-Some.work
    (sym c.work.ensures ∙ c.in-Some.is)
    (c.let_go_layers.ensures ∙ ap (λ layers. without_layers layers (shown c.args.plain.now)) c.layers.ensures)
    c.let_go_layer.ensures

pub returns-in_default : goal.returns-in_default
returns-in_default c = folded_alone c.args.overlay.now without_layer (shown c.args.plain.now)
    (shown c.let_go_layers.new.plain) (sym c.work.ensures ∙ c.in_default.is)
    (c.let_go_layers.ensures ∙ ap (λ layers. without_layers layers (shown c.args.plain.now)) c.layers.ensures)
