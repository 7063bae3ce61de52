use Rattle.std.proofs.Common.{false, nat_eq, rules, subst, sym, true, ◌≡◌}
use Rattle.vt_spec.specs.Inodes.{changed}
use Rattle.vt_spec.specs.Language.Changes.Change.{SetMark}
use Rattle.vt_spec.specs.Lists.{folded}
use Rattle.vt_copyup.proofs.Changed.{nothing_changes}
use Rattle.vt_fs.specs.FilesystemsValue.{ChangesInodes}
use Rattle.vt_laws_upper_layers.specs.Rows.{marking}
use Rattle.vt_location.specs.declared.locations.NodeRef.{NodeRef}
use Rattle.vt_location.specs.Locations.{inode_of, number_of}
use Rattle.vt_upper.proofs.making.mark.Goals as goal

pub returns-then-not-opaque : goal.returns-then-not-opaque
returns-then-not-opaque c =
    let no : c.args.opaque ≡ false = search rules in
    subst (λ b. ChangesInodes c.args.object.filesystem.count (λ inodes. folded (changed nat_eq) inodes
    (marking b (inode_of c.args.object))) c.args.trees.now c.args.trees.now) (sym no)
    (nothing_changes c.args.object.filesystem.count c.args.trees.now)

pub returns : goal.returns
returns c =
    let yes : c.args.opaque ≡ true = search rules in
    let trees = c.args.trees.now in
    let new = c.set_opaque.new.self in
    subst (λ b. ChangesInodes c.args.object.filesystem.count (λ inodes. folded (changed nat_eq) inodes
    (marking b (inode_of c.args.object))) trees new) (sym yes)
    (subst (λ (n : NodeRef). ChangesInodes n.filesystem.count (λ inodes. changed nat_eq inodes
    (SetMark (number_of n) true)) trees new) c.node_ref.ensures.value c.set_opaque.ensures)
