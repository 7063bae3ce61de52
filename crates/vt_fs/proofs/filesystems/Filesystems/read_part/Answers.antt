use Rattle.std.proofs.Common.{sym, subst, ◌≡◌, [], IfOk, IsOk, List, ℕ, drop, take}
use Rattle.vt_spec.proofs.Common.{bytes_in}
use Rattle.vt_fs.proofs.Standing.{plain_there}
use Rattle.vt_fs.proofs.filesystems.Filesystems.read_part.Goals as goal

pub returns-in-Some-get-clause-ok : goal.returns-in-Some-get-clause-ok
returns-in-Some-get-clause-ok c = subst (λ (found : List ℕ). IfOk c.read_part.result
    (λ bytes. bytes.items ≡ take c.args.size (drop c.args.offset found)))
    (sym (plain_there c.args.self.now c.args.file.filesystem.count c.in-Some-get.tree.now (sym c.in-Some-get.ensures)
    (List ℕ)
    (λ A node. bytes_in node) c.in-Some.slot _ c.in-Some.ensures.number)) c.read_part.ensures.ok

pub returns-in-Some-get-clause-empty : goal.returns-in-Some-get-clause-empty
returns-in-Some-get-clause-empty c =
    subst (λ (found : List ℕ). take c.args.size (drop c.args.offset found) ≡ [] → IsOk c.read_part.result)
    (sym (plain_there c.args.self.now c.args.file.filesystem.count c.in-Some-get.tree.now (sym c.in-Some-get.ensures)
    (List ℕ)
    (λ A node. bytes_in node) c.in-Some.slot _ c.in-Some.ensures.number)) c.read_part.ensures.empty
