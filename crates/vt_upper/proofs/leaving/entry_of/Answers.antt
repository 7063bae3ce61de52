use Rattle.std.proofs.Common.{◌≡◌, ◌∙◌, ap, IfSome, option_map, subst, sym}
use Rattle.vt_spec.proofs.Common.{entry_at}
use Rattle.vt_fs.specs.FilesystemsValue.{files_at}
use Rattle.vt_location.specs.declared.locations.InodeRef.{InodeRef}
use Rattle.vt_location.specs.Locations.{inode_of}
use Rattle.vt_overlay.specs.declared.merge.layers.MergedDirectory.{MergedDirectory}
use Rattle.vt_upper.proofs.leaving.entry_of.Goals as goal

pub returns-clause-leads : goal.returns-clause-leads
returns-clause-leads c =
    let found = c.in_ok-found.found in
    sym (ap (λ (m : MergedDirectory). entry_at (files_at c.args.trees.now m.directory.filesystem.count).tree
    (inode_of m.directory) c.args.name.now) (sym c.in_ok-found.ensures.above) ∙ c.in_ok-found.ensures.entry.leads)

pub returns-clause-filesystem : goal.returns-clause-filesystem
returns-clause-filesystem c = c.in_ok-found.ensures.entry.filesystem
    ∙ ap (λ (m : MergedDirectory). m.directory.filesystem) c.in_ok-found.ensures.above

pub returns-in_err-found-clause-leads : goal.returns-in_err-found-clause-leads
returns-in_err-found-clause-leads c = ap (option_map inode_of) c.from_residual.ensures
    ∙ sym (c.entry_in.ensures.nothing c.in_err-found.was)

pub returns-in_err-found-clause-filesystem : goal.returns-in_err-found-clause-filesystem
returns-in_err-found-clause-filesystem c = subst (λ o. IfSome o (λ (white : InodeRef).
    white.filesystem ≡ c.args.directory.filesystem)) (sym c.from_residual.ensures) tt
