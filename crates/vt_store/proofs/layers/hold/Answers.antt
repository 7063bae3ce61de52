use Rattle.std.proofs.Common.{ap, subst, sym, ◌∙◌, length, List}
use Rattle.vt_fs.specs.FilesystemsValue.{shown}
use Rattle.vt_overlay.specs.declared.merge.layers.LayerRef.{LayerRef}
use Rattle.vt_store.specs.LayersHeld.{HaveRoomFor, with_layer, with_layers}
use Rattle.vt_store.proofs.LayersWithWork.{folded_alone, folded_with, room_first, room_last}
use Rattle.vt_store.proofs.layers.hold.Goals as goal

pub hold_layers-requires : goal.hold_layers-requires
hold_layers-requires c = subst (λ (layers : List LayerRef). HaveRoomFor (length layers) (shown c.args.plain.now) layers)
    (sym c.layers.ensures) (room_first c.args.overlay.now (shown c.args.plain.now) c.requires)

pub hold_layer-requires : goal.hold_layer-requires
hold_layer-requires c = room_last c.args.overlay.now (shown c.args.plain.now) (shown c.hold_layers.new.plain)
    c.in-Some.work (sym c.work.ensures ∙ c.in-Some.is) c.requires
    (c.hold_layers.ensures ∙ ap (λ layers. with_layers layers (shown c.args.plain.now)) c.layers.ensures)

pub returns-in-Some : goal.returns-in-Some
returns-in-Some c = folded_with c.args.overlay.now with_layer (shown c.args.plain.now) (shown c.hold_layers.new.plain)
    (shown c.hold_layer.new.plain) c.in-Some.work (sym c.work.ensures ∙ c.in-Some.is)
    (c.hold_layers.ensures ∙ ap (λ layers. with_layers layers (shown c.args.plain.now)) c.layers.ensures)
    c.hold_layer.ensures

pub returns-in_default : goal.returns-in_default
returns-in_default c = folded_alone c.args.overlay.now with_layer (shown c.args.plain.now)
    (shown c.hold_layers.new.plain) (sym c.work.ensures ∙ c.in_default.is)
    (c.hold_layers.ensures ∙ ap (λ layers. with_layers layers (shown c.args.plain.now)) c.layers.ensures)
