-- What contracts see of a kernel with its change numbers, and the world that the definitions see.
use Rattle.std.specs.Prelude.{List, ℕ}
use Rattle.vt_spec.specs.Language.Calls.{TaskName}
use Rattle.vt_spec.specs.Machine.World.{World}
use Rattle.vt_laws_turns.specs.Dated.{Dates, dated}
use Rattle.vt_calls.specs.KernelValue.{KernelValue, kernel_world}
use Rattle.vt_changes.specs.Kept.{dates_kept}

-- a kernel, and the change numbers of tasks, namespaces and filesystems that are kept
pub record DatedValue : Type 0 where
  pub kernel : KernelValue
  pub tasks : List (TaskName × ℕ)
  pub namespaces : List (ℕ × ℕ)
  pub filesystems : List (ℕ × ℕ)

-- all change numbers
abbrev pub dates_of : DatedValue → Dates
dates_of value = dates_kept value.tasks value.namespaces value.filesystems

-- its world, with all change numbers
abbrev pub dated_world : DatedValue → World ℕ
dated_world value = dated (dates_of value) (kernel_world value.kernel)
