use Rattle.std.proofs.Common.{◌≡◌}
use Rattle.vt_overlay.specs.Merge.Climbed.{climbed}
use Rattle.vt_fs.specs.Trees.TreeValue.{tree_of}
use Rattle.vt_overlay.proofs.merge.climbing.name_climbed.Given as goal

-- so many steps up
abbrev pub invariant-loop-step : goal.invariant-loop-step
invariant-loop-step l = l.here ≡ climbed (tree_of l.tree) l._step l.fn.directory
