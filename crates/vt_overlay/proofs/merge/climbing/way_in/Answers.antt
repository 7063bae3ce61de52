use Rattle.std.proofs.Common.{Some, ap, sym, ◌≡◌, ◌∙◌}
use Rattle.vt_spec.proofs.Common.{led}
use Rattle.vt_location.specs.declared.numbers.FilesystemId.{FilesystemId}
use Rattle.vt_location.specs.Locations.{inode_of}
use Rattle.vt_location.specs.Numbers.{exchanged}
use Rattle.vt_overlay.specs.Merge.LayerValue.{tree_seen}
use Rattle.vt_overlay.proofs.merge.climbing.way_in.Goals as goal

pub returns-clause-nowhere : goal.returns-clause-nowhere
returns-clause-nowhere c none is path leads =
    let lower : exchanged c.args.top.filesystem.count c.slot_of-lower.result ≡ inode_of c.args.directory =
    ap (λ (id : FilesystemId). exchanged id.count c.slot_of-lower.result) (sym c.requires.one_filesystem)
    ∙ c.slot_of-lower.ensures.number in
    c.climb.ensures.nowhere none path
    (ap (λ n. led (tree_seen c.args.top.filesystem.count (Some c.args.tree.now)) n path) c.slot_of-upper.ensures.number
    ∙ leads ∙ ap Some (sym lower))
