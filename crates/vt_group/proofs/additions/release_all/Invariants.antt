use Rattle.std.proofs.Common.{◌≡◌}
use Rattle.vt_group.proofs.additions.release_all.Given as goal

abbrev pub invariant-loop-pair : goal.invariant-loop-pair
invariant-loop-pair l = l.types.kinds.entries ≡ l.fn.types.kinds.entries
