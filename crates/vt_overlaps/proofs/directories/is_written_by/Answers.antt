use Rattle.std.proofs.Common.{Bool, List, Some, ap, false, option_map, slice_get, sym, ◌||◌, ◌≡◌, ◌∙◌}
use Rattle.vt_spec.proofs.Common.{holds_of}
use Rattle.vt_layered.specs.LayeredValue.{Above}
use Rattle.vt_location.specs.Locations.{inode_of}
use Rattle.vt_location.specs.declared.locations.InodeRef.{InodeRef}
use Rattle.vt_overlay.specs.declared.merge.layers.LayerRef.{LayerRef}
use Rattle.vt_overlaps.specs.Overlaps.{counts_under}
use Rattle.vt_overlaps.proofs.Written.{any_written}
use Rattle.vt_overlaps.proofs.directories.is_written_by.Goals as goal

pub returns-else-is_under_first : goal.returns-else-is_under_first
returns-else-is_under_first c =
    let overlay = c.args.overlay.now in
    let counts : InodeRef → Bool =
    counts_under c.args.store.now c.args.inode.filesystem.count (inode_of c.args.inode) in
    let work : option_map (λ (above : Above). above.work) overlay.above ≡ Some c.in-Some.work =
    sym c.work.ensures ∙ c.in-Some.is in
    let none : holds_of (λ (layer : LayerRef). counts layer.directory) (slice_get overlay.overlay.lowers 0) ≡ false =
    ap (λ (layers : List LayerRef). holds_of (λ (layer : LayerRef). counts layer.directory) (slice_get layers 0))
    (sym c.layers.ensures) ∙ sym c.is_under_first.ensures ∙ c.if-is_under_first.false in
    c.counts_under.ensures
    ∙ sym (any_written counts overlay.overlay overlay.above c.in-Some.work work
    ∙ ap (λ b. b || counts c.in-Some.work.directory) none)
