use Rattle.std.proofs.Common.{ap}
use Rattle.vt_calls.specs.KernelValue.{KernelValue}
use Rattle.vt_calls.proofs.calls.Kernel.world.Goals as goal

pub returns : goal.returns
returns c = ap (λ (value : KernelValue). value.world) c.self.view_is
