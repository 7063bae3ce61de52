use Rattle.std.proofs.Common.{Some, ap, option_map, sym, ◌∙◌}
use Rattle.vt_location.specs.declared.locations.InodeRef.{InodeRef}
use Rattle.vt_overlay.specs.MergedTree.{real_in}
use Rattle.vt_overlay.proofs.overlays.Overlay.real_in.Goals as goal

pub returns-in_err-lower-clause-value : goal.returns-in_err-lower-clause-value
returns-in_err-lower-clause-value c = c.from_residual.ensures
    ∙ ap (option_map (real_in c.args.place c.args.node.slot)) (sym c.in_err-lower.was ∙ c.layer_in.ensures)

pub returns-clause-value : goal.returns-clause-value
returns-clause-value c =
    ap (λ (inode : InodeRef). Some (record { layer = c.args.place; inode = inode })) c.inode_in.ensures.is
    ∙ ap (option_map (real_in c.args.place c.args.node.slot)) (sym c.in_ok-lower.was ∙ c.layer_in.ensures)
