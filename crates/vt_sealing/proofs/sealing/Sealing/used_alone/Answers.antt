use Rattle.std.proofs.Common.{Bool, ap, nat_eq, not, sym, ◌&&◌, ◌∙◌}
use Rattle.vt_spec.proofs.Common.{list_any}
use Rattle.vt_spec.specs.Machine.Sealed.{no_outsider_on}
use Rattle.vt_location.specs.Numbers.{counted}
use Rattle.vt_store.specs.OverlaysValue.{OverlayEntry}
use Rattle.vt_sealing.specs.Seen.{has_layer_in, world_seen}
use Rattle.vt_sealing.proofs.Looked.{alone_looked}
use Rattle.vt_sealing.proofs.sealing.Sealing.used_alone.Goals as goal

pub returns-then-no_outsider_on : goal.returns-then-no_outsider_on
returns-then-no_outsider_on c =
    let filesystem = counted c.args.filesystem.count in
    let others = list_any (λ (entry : OverlayEntry). has_layer_in filesystem entry.overlay entry.above
    && not (no_outsider_on nat_eq (world_seen c.args.self.now) c.args.self.now.names.now (counted entry.count)))
    c.args.self.now.store.now.overlays in
    ap not c.is_under_others.ensures
    ∙ ap (λ b. b && not others) (sym c.if-no_outsider_on.true ∙ c.no_outsider_on.ensures)
    ∙ sym (alone_looked c.args.self.now filesystem)
