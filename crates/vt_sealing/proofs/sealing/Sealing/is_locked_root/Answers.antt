use Rattle.std.proofs.Common.{Bool, nat_eq, rules, ◌&&◌, ◌∙◌, ℕ}
use Rattle.vt_spec.proofs.Common.{YieldsList-from_slice, any_from_yields_List, holds_of}
use Rattle.vt_spec.specs.Machine.Sealed.{used_alone}
use Rattle.vt_location.specs.declared.numbers.FilesystemId.{FilesystemId}
use Rattle.vt_location.specs.Locations.{number_of}
use Rattle.vt_location.specs.Numbers.{counted}
use Rattle.vt_store.specs.OverlaysValue.{OverlayEntry, entry_kept}
use Rattle.vt_sealing.specs.Seen.{has_root_layer, world_seen}
use Rattle.vt_sealing.proofs.sealing.Sealing.is_locked_root.Goals as goal

pub returns : goal.returns
returns c =
    let names = c.args.self.now.names.now in
    let world = world_seen c.args.self.now in
    let test : OverlayEntry → Bool = λ entry.
    has_root_layer (counted c.args.root.filesystem.count) (number_of c.args.root) entry.overlay entry.above
    && used_alone nat_eq world names (counted entry.count) in
    any_from_yields_List (λ (id : FilesystemId).
    holds_of test (entry_kept c.args.self.now.store.now.overlays id.count)) _ _ _
    c.any.ensures.ran (YieldsList-from_slice c.overlays.result.now cc) (λ x b q k. search rules)
    ∙ c.overlays.ensures.entries test
