use Rattle.std.proofs.Common.{ap, eqb-true, nat_eq, subst, sym, true, ◌&&◌, ◌≡◌, ◌∙◌}
use Rattle.vt_spec.proofs.Common.{is_under}
use Rattle.vt_location.specs.Locations.{inode_of}
use Rattle.vt_location.specs.Numbers.{inode_number}
use Rattle.vt_fs.specs.FilesystemsValue.{files_at}
use Rattle.vt_overlaps.specs.Overlaps.{lies_under}
use Rattle.vt_overlaps.proofs.directories.lies_in.Goals as goal

pub returns-then-eq : goal.returns-then-eq
returns-then-eq c =
    let plain = c.args.plain.now in
    let top = c.args.top in
    let inode = c.args.inode in
    let equal : nat_eq inode.filesystem.count top.filesystem.count ≡ true = sym c.eq.ensures ∙ c.if-eq.true in
    c.lies_under.ensures
    ∙ subst (λ n. is_under nat_eq (files_at plain n) (inode_of top) (inode_number n inode.slot)
    ≡ lies_under plain inode.filesystem.count (inode_of inode) top)
    (eqb-true inode.filesystem.count top.filesystem.count equal)
    (sym (ap (λ b. b && is_under nat_eq (files_at plain inode.filesystem.count) (inode_of top) (inode_of inode)) equal))
