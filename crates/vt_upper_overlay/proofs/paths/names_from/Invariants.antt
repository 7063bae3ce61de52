use Rattle.std.proofs.Common.{◌≡◌, ◌++◌, drop, map}
use Rattle.vt_upper_overlay.proofs.paths.names_from.Given as goal

abbrev pub invariant-loop-index : goal.invariant-loop-index
invariant-loop-index g l = map (λ name. name.items) l.names.items ++ drop l.index (g.W.Way.names l.path)
    ≡ drop l.fn.start (g.W.Way.names l.path)
