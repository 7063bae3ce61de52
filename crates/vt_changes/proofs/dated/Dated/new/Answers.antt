use Rattle.vt_calls.specs.KernelValue.{kernel_world}
use Rattle.vt_changes.proofs.Told.{none_living}
use Rattle.vt_changes.proofs.dated.Dated.new.Goals as goal

pub invariant_of-result : goal.invariant_of-result
invariant_of-result c = none_living c.new.result.entries c.new-2.result.entries c.new-3.result.entries
    c.new.ensures.empty c.new-2.ensures.empty c.new-3.ensures.empty (kernel_world c.args.kernel)
