use Rattle.vt_location.specs.Numbers.{counted}
use Rattle.vt_retype.proofs.Left.{slave_typed}
use Rattle.vt_retype.proofs.retyping.make_slave.Goals as goal

pub returns-clause-types : goal.returns-clause-types
returns-clause-types c typed =
    slave_typed c.args.groups.now c.make_slave_of_own.new.self (counted c.args.id.count) c.args.mounts.now typed
    c.make_slave_of_own.ensures.types c.hand_on.new.mounts c.follow.new.mounts c.hand_on.ensures.slaves c.follow.ensures
