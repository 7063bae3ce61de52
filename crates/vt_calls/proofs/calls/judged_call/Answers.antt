use Rattle.std.proofs.Common.{refl}
use Rattle.vt_request.specs.Requests.{call_of}
use Rattle.vt_calls.proofs.Counting.{counts_few, counts_if_same}
use Rattle.vt_calls.proofs.calls.judged_call.Goals as goal

pub returns-in-Ok-clause-ends : goal.returns-in-Ok-clause-ends
returns-in-Ok-clause-ends c = c.apply.ensures.ends (call_of c.args.call) c.in-Ok.ensures.ok

pub returns-in-Ok-clause-counts : goal.returns-in-Ok-clause-counts
returns-in-Ok-clause-counts c = counts_few c.args.world.now c.apply.new.world c.permit_of.ensures.born c.apply.ensures.counts

pub returns-in-Err-clause-counts : goal.returns-in-Err-clause-counts
returns-in-Err-clause-counts c = counts_few c.args.world.now c.args.world.now c.permit_of.ensures.born
    (counts_if_same c.args.world.now c.args.world.now refl)
