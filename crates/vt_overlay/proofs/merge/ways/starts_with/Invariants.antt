use Rattle.std.proofs.Common.{◌≡◌, ◌≤◌, length, take}
use Rattle.vt_overlay.proofs.merge.ways.starts_with.Given as goal

-- the names so far are the same
abbrev pub invariant-loop-index : goal.invariant-loop-index
invariant-loop-index g l = record {
  far : length (g.V.Way.names l.front) ≤ length (g.W.Way.names l.path);
  same : take l.index (g.V.Way.names l.front) ≡ take l.index (g.W.Way.names l.path);
}
