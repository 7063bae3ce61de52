use Rattle.std.proofs.Common.{Bool, rules, sym, ◌∙◌}
use Rattle.vt_spec.proofs.Common.{YieldsList-from_slice, any_from_yields_List, holds_of, list_any}
use Rattle.vt_location.specs.Locations.{inode_of}
use Rattle.vt_location.specs.declared.locations.InodeRef.{InodeRef}
use Rattle.vt_location.specs.declared.numbers.FilesystemId.{FilesystemId}
use Rattle.vt_store.specs.OverlaysValue.{OverlayEntry, entry_kept}
use Rattle.vt_overlaps.specs.Overlaps.{counts_under, written_by}
use Rattle.vt_overlaps.proofs.Locked.{any_flat}
use Rattle.vt_overlaps.proofs.directories.counts_under_written.Goals as goal

pub returns : goal.returns
returns c =
    let overlays = c.args.store.now.overlays in
    let counts : InodeRef → Bool =
    counts_under c.args.store.now c.args.inode.filesystem.count (inode_of c.args.inode) in
    let test : OverlayEntry → Bool = λ entry. list_any counts (written_by entry.overlay entry.above) in
    any_from_yields_List (λ (id : FilesystemId). holds_of test (entry_kept overlays id.count)) _ _ _
    c.any.ensures.ran (YieldsList-from_slice c.overlays.result.now cc) (λ x b q k. search rules)
    ∙ c.overlays.ensures.entries test
    ∙ sym (any_flat counts (λ (entry : OverlayEntry). written_by entry.overlay entry.above) overlays)
