use Rattle.std.proofs.Common.{◌≡◌, All, take}
use Rattle.vt_group.specs.Additions.{FitsMaster}
use Rattle.vt_group.proofs.additions.reserve_masters.Given as goal

abbrev pub invariant-loop-group : goal.invariant-loop-group
invariant-loop-group l = (l.above.entries ≡ l.fn.above.entries) × All (FitsMaster l.above) (take l.group-index l.new)
