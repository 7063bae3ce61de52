use Rattle.std.proofs.Common.{sym, subst, ◌≡◌, IfOk, List, ℕ, map}
use Rattle.vt_spec.proofs.Common.{names_in}
use Rattle.vt_fs.proofs.Standing.{empty_there, plain_there}
use Rattle.vt_fs.proofs.filesystems.Filesystems.list.Goals as goal

pub returns-in-Some-get-clause-ok : goal.returns-in-Some-get-clause-ok
returns-in-Some-get-clause-ok c =
    subst (λ (found : List (List ℕ)). IfOk c.list.result (λ names. map (λ name. name.items) names.items ≡ found))
    (sym (plain_there c.args.self.now c.args.directory.filesystem.count c.in-Some-get.tree.now
    (sym c.in-Some-get.ensures)
    (List (List ℕ)) (λ A node. names_in node) c.in-Some.slot _ c.in-Some.ensures.number)) c.list.ensures.ok

pub returns-in-Some-get-clause-empty : goal.returns-in-Some-get-clause-empty
returns-in-Some-get-clause-empty c = λ empty. c.list.ensures.empty
    (empty_there c.args.self.now c.args.directory.filesystem.count c.in-Some-get.tree.now
    (sym c.in-Some-get.ensures) c.in-Some.slot _ c.in-Some.ensures.number empty)
