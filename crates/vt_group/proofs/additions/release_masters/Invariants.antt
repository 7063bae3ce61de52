use Rattle.std.proofs.Common.{◌≡◌}
use Rattle.vt_group.proofs.additions.release_masters.Given as goal

abbrev pub invariant-loop-group : goal.invariant-loop-group
invariant-loop-group l = l.above.entries ≡ l.fn.above.entries
