use Rattle.vt_later.proofs.refusing.descriptor_refused.Goals as goal

pub returns-in-Open : goal.returns-in-Open
returns-in-Open g c asked = rw c.in-Open.is (c.open.ensures asked)

pub returns-in-Close : goal.returns-in-Close
returns-in-Close g c asked = rw c.in-Close.is (c.close.ensures (g.L.Look.looks c.args.world.now) c.args.passed.now)
