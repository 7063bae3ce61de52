use Rattle.std.proofs.Common.{ap}
use Rattle.vt_line.specs.Versions.{version_of}
use Rattle.vt_test.proofs.SuiteLemmas.{read-nothing}
use Rattle.vt_test.proofs.suite.scripts.Goals as goal

pub returns-in-Ok-2 : goal.returns-in-Ok-2
returns-in-Ok-2 c =
    let version = version_of c.args.version in
    (c.in-Ok-2.ensures c.if-reading.false).1 version
    (read-nothing version c.new.result.items c.new-2.result c.new.ensures.items (λ i. (c.new-2.ensures.name i).now)
    (ap version_of c.new-2.ensures.version) c.new-2.ensures.text)
