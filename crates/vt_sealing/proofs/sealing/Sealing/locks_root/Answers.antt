use Rattle.std.proofs.Common.{Bool, ap, nat_eq, sym, ◌&&◌, ◌∙◌, ℕ}
use Rattle.vt_spec.proofs.Common.{holds_of}
use Rattle.vt_spec.specs.Machine.Sealed.{used_alone}
use Rattle.vt_location.specs.Locations.{number_of}
use Rattle.vt_location.specs.Numbers.{counted}
use Rattle.vt_store.specs.OverlaysValue.{OverlayEntry, entry_kept}
use Rattle.vt_sealing.specs.Seen.{has_root_layer, world_seen}
use Rattle.vt_sealing.proofs.Lists.{counted_there, holds_both}
use Rattle.vt_sealing.proofs.sealing.Sealing.locks_root.Goals as goal

pub returns-then-has_root_layer : goal.returns-then-has_root_layer
returns-then-has_root_layer c =
    let overlays = c.args.self.now.store.now.overlays in
    let at : OverlayEntry → Bool = λ entry. has_root_layer (counted c.args.root.filesystem.count)
    (number_of c.args.root) entry.overlay entry.above in
    let alone : ℕ → Bool = λ count. used_alone nat_eq (world_seen c.args.self.now) c.args.self.now.names.now (counted count) in
    c.used_alone.ensures
    ∙ ap (λ b. b && alone c.args.id.count) (sym c.if-has_root_layer.true ∙ c.has_root_layer.ensures)
    ∙ holds_both at (alone c.args.id.count) (entry_kept overlays c.args.id.count)
    ∙ counted_there at alone c.args.id.count overlays

pub returns-else-has_root_layer : goal.returns-else-has_root_layer
returns-else-has_root_layer c =
    let overlays = c.args.self.now.store.now.overlays in
    let at : OverlayEntry → Bool = λ entry. has_root_layer (counted c.args.root.filesystem.count)
    (number_of c.args.root) entry.overlay entry.above in
    let alone : ℕ → Bool = λ count. used_alone nat_eq (world_seen c.args.self.now) c.args.self.now.names.now (counted count) in
    c.if-has_root_layer.false
    ∙ ap (λ b. b && alone c.args.id.count) (sym c.if-has_root_layer.false ∙ c.has_root_layer.ensures)
    ∙ holds_both at (alone c.args.id.count) (entry_kept overlays c.args.id.count)
    ∙ counted_there at alone c.args.id.count overlays
