use Rattle.std.proofs.Common.{refl}
use Rattle.vt_location.specs.Numbers.{inode_number}
use Rattle.vt_laws_trees.proofs.runs.handed.InodesAllotted.{allotted_numbers_open}
use Rattle.vt_mounting.specs.Attach.Opening.{opening_numbers}
use Rattle.vt_calls.proofs.calls.KernelCalls.opening.Goals as goal

pub returns-clause-opened : goal.returns-clause-opened
returns-clause-opened c = (
  opening_numbers,
  allotted_numbers_open 0 3 (inode_number 2 0) refl,
  c.in_ok-new.ensures.opening,
)

pub returns-clause-counts : goal.returns-clause-counts
returns-clause-counts c = λ i. record { numbers = c.in_ok-new.ensures.counts i; births = c.in_ok-new.ensures.births i }
