use Rattle.std.proofs.Common.{Bool, rules, ◌∙◌}
use Rattle.vt_spec.proofs.Common.{YieldsList-from_slice, any_from_yields_List, holds_of}
use Rattle.vt_location.specs.Locations.{inode_of}
use Rattle.vt_location.specs.declared.numbers.FilesystemId.{FilesystemId}
use Rattle.vt_store.specs.OverlaysValue.{OverlayEntry, entry_kept}
use Rattle.vt_overlaps.specs.Overlaps.{keeps_under}
use Rattle.vt_overlaps.proofs.directories.is_kept_under.Goals as goal

pub returns : goal.returns
returns c =
    let test : OverlayEntry → Bool =
    keeps_under c.args.store.now.plain c.args.inode.filesystem.count (inode_of c.args.inode) c.args.top in
    any_from_yields_List (λ (id : FilesystemId). holds_of test (entry_kept c.args.store.now.overlays id.count)) _ _ _
    c.any.ensures.ran (YieldsList-from_slice c.overlays.result.now cc) (λ x b q k. search rules)
    ∙ c.overlays.ensures.entries test
