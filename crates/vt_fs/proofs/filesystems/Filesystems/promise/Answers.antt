use Rattle.std.proofs.Common.{ap, sym, ◌+◌, ◌∙◌}
use Rattle.vt_spec.proofs.Common.{on_err_weaker, on_ok_weaker, option_copied_mut}
use Rattle.vt_fs.specs.FilesystemsValue.{with_tree}
use Rattle.vt_fs.proofs.Standing.{kept, nowhere_changed, standing_of, tree_changed}
use Rattle.vt_fs.proofs.filesystems.Filesystems.promise.Goals as goal

pub returns-in-Some-clause-ok : goal.returns-in-Some-clause-ok
returns-in-Some-clause-ok c =
    let f = c.args.filesystem.count in
    let standing = standing_of c.args.self.now f c.get_mut.result c.in-Some.tree c.get_mut.ensures.value
    c.get_mut.ensures.apart c.in-Some.is in
    on_ok_weaker c.promise.result (λ promised. ap (λ tree. with_tree f tree c.args.self.now) promised
    ∙ tree_changed f (λ tree. record tree { promised = tree.promised + c.args.inodes }) c.args.self.now
    c.in-Some.tree.now standing) c.promise.ensures.ok

pub returns-in-Some-clause-err : goal.returns-in-Some-clause-err
returns-in-Some-clause-err c =
    let f = c.args.filesystem.count in
    let standing = standing_of c.args.self.now f c.get_mut.result c.in-Some.tree c.get_mut.ensures.value
    c.get_mut.ensures.apart c.in-Some.is in
    on_err_weaker c.promise.result (kept c.args.self.now f c.promise.new.self c.in-Some.tree.now standing)
    c.promise.ensures.err

pub returns-in-None-clause-ok : goal.returns-in-None-clause-ok
returns-in-None-clause-ok c = nowhere_changed c.args.filesystem.count
    (λ tree. record tree { promised = tree.promised + c.args.inodes }) c.args.self.now
    (sym c.get_mut.ensures.value ∙ ap option_copied_mut c.in-None.is)
