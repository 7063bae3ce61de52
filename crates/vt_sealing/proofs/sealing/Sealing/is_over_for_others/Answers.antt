use Rattle.std.proofs.Common.{Bool, ap, nat_eq, not, sym, ◌&&◌, ◌∙◌, ℕ}
use Rattle.vt_spec.proofs.Common.{holds_of}
use Rattle.vt_spec.specs.Machine.Sealed.{no_outsider_on}
use Rattle.vt_location.specs.Numbers.{counted}
use Rattle.vt_store.specs.OverlaysValue.{OverlayEntry, entry_kept}
use Rattle.vt_sealing.specs.Seen.{has_layer_in, world_seen}
use Rattle.vt_sealing.proofs.Lists.{counted_there, holds_both}
use Rattle.vt_sealing.proofs.sealing.Sealing.is_over_for_others.Goals as goal

pub returns-then-has_layer_in : goal.returns-then-has_layer_in
returns-then-has_layer_in c =
    let overlays = c.args.self.now.store.now.overlays in
    let within : OverlayEntry → Bool = λ entry.
    has_layer_in (counted c.args.filesystem.count) entry.overlay entry.above in
    let used : ℕ → Bool = λ count. not (no_outsider_on nat_eq (world_seen c.args.self.now) c.args.self.now.names.now
    (counted count)) in
    ap not c.no_outsider_on.ensures
    ∙ ap (λ b. b && used c.args.id.count) (sym c.if-has_layer_in.true ∙ c.has_layer_in.ensures)
    ∙ holds_both within (used c.args.id.count) (entry_kept overlays c.args.id.count)
    ∙ counted_there within used c.args.id.count overlays

pub returns-else-has_layer_in : goal.returns-else-has_layer_in
returns-else-has_layer_in c =
    let overlays = c.args.self.now.store.now.overlays in
    let within : OverlayEntry → Bool = λ entry.
    has_layer_in (counted c.args.filesystem.count) entry.overlay entry.above in
    let used : ℕ → Bool = λ count. not (no_outsider_on nat_eq (world_seen c.args.self.now) c.args.self.now.names.now
    (counted count)) in
    c.if-has_layer_in.false
    ∙ ap (λ b. b && used c.args.id.count) (sym c.if-has_layer_in.false ∙ c.has_layer_in.ensures)
    ∙ holds_both within (used c.args.id.count) (entry_kept overlays c.args.id.count)
    ∙ counted_there within used c.args.id.count overlays
