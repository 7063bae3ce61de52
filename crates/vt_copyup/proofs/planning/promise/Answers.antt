use Rattle.vt_copyup.proofs.Changed.{promises_given_back}
use Rattle.vt_copyup.proofs.planning.promise.Goals as goal

pub returns-then-is_err-clause-err : goal.returns-then-is_err-clause-err
returns-then-is_err-clause-err c =
    promises_given_back c.args.upper.count c.args.inodes c.args.trees.now c.promise.new.self c.give_back.new.self
    c.in_ok-promise.ensures.ok c.give_back.ensures
