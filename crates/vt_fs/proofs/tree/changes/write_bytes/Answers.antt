use Rattle.std.proofs.Common.{sym}
use Rattle.vt_spec.proofs.Common.{on_ok_weaker}
use Rattle.vt_fs.proofs.tree.InodeLemmas.{written-through}
use Rattle.vt_fs.proofs.tree.changes.write_bytes.Goals as goal

pub returns-in-Some-clause-ok : goal.returns-in-Some-clause-ok
returns-in-Some-clause-ok c = λ root. on_ok_weaker c.write_at.result
    (written-through root c.args.slots.now c.args.file c.in-Some.node.now c.write_at.new.self c.args.offset
    c.args.bytes.now (sym c.in-Some.ensures.value)) c.write_at.ensures.ok
