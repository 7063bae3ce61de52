-- What contracts see of a kernel, and the world that the definitions see.
use Rattle.std.specs.Prelude.{ℕ}
use Rattle.vt_spec.specs.Machine.World.{World}
use Rattle.vt_world.specs.WorldValue.{WorldValue, world_of}

-- a world, and its change number
pub record KernelValue : Type 0 where
  pub world : WorldValue
  pub change : ℕ

abbrev pub kernel_world : KernelValue → World ℕ
kernel_world kernel = record (world_of kernel.world) { change = kernel.change }
