use Rattle.std.proofs.Common.{◌∙◌}
use Rattle.vt_mount.proofs.EnteringLemmas.{ascending-taken, may_enter_at}
use Rattle.vt_mount.proofs.KeptLemmas.{is-refused}
use Rattle.vt_mount.proofs.mounts.Mounts.attach_all.Goals as goal

pub attach-requires : goal.attach-requires
attach-requires c =
    may_enter_at c.args.self.now c.loop-index.self c.args.new.now c.loop-index.index _ c.loop-index-test.true
    c.requires c.loop-index.invariant

pub returns-then-is_err-clause-err : goal.returns-then-is_err-clause-err
returns-then-is_err-clause-err c = c.withdraw.ensures c.args.self.now
    (ascending-taken c.args.self.now c.args.new.now c.loop-index.index c.requires)
    (is-refused c.attach.result c.if-is_err.ensures.value c.attach.ensures.err ∙ c.loop-index.invariant)
