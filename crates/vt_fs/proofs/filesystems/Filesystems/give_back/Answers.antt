use Rattle.std.proofs.Common.{ap, sym, ◌-◌, ◌∙◌}
use Rattle.vt_spec.proofs.Common.{option_copied_mut}
use Rattle.vt_fs.specs.FilesystemsValue.{with_tree}
use Rattle.vt_fs.proofs.Standing.{nowhere_changed, standing_of, tree_changed}
use Rattle.vt_fs.proofs.filesystems.Filesystems.give_back.Goals as goal

pub returns-in-Some : goal.returns-in-Some
returns-in-Some c =
    let f = c.args.filesystem.count in
    let standing = standing_of c.args.self.now f c.get_mut.result c.in-Some.tree c.get_mut.ensures.value
    c.get_mut.ensures.apart c.in-Some.is in
    ap (λ tree. with_tree f tree c.args.self.now) c.give_back.ensures
    ∙ tree_changed f (λ tree. record tree { promised = tree.promised - c.args.inodes }) c.args.self.now
    c.in-Some.tree.now standing

pub returns-in_default : goal.returns-in_default
returns-in_default c = nowhere_changed c.args.filesystem.count
    (λ tree. record tree { promised = tree.promised - c.args.inodes }) c.args.self.now
    (sym c.get_mut.ensures.value ∙ ap option_copied_mut c.in_default.is)
