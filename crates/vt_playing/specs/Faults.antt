-- The fault of an output that failed.
use Rattle.std.specs.Prelude.{Bool, false, true}
use Rattle.vt_run.specs.declared.fault.Fault.{Fault}
use Rattle.vt_run.specs.declared.fault.Fault.TheVariants.{Write}

-- the output failed
abbrev pub is_of_output : Fault → Bool
is_of_output (Write cause) = true
is_of_output fault = false
