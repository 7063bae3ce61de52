use Rattle.std.proofs.Common.{◌≡◌}
use Rattle.vt_overlay.specs.Merge.Climbed.{AreNamed, climbed}
use Rattle.vt_fs.specs.Trees.TreeValue.{tree_of}
use Rattle.vt_overlay.proofs.merge.GoingUp.{ComesFromAbove, LeadsDown}
use Rattle.vt_overlay.proofs.merge.climbing.climb.Given as goal

-- so many steps up from the lower directory
abbrev pub invariant-loop-len : goal.invariant-loop-len
invariant-loop-len l = record {
  is : l.here ≡ climbed (tree_of l.tree) l.len l.fn.lower;
  leads : LeadsDown l.fn.filesystem.count l.tree l.fn.lower l.len;
  named : AreNamed (tree_of l.tree) l.len l.fn.lower;
  come : ComesFromAbove l.fn.filesystem.count l.tree l.fn.top l.fn.lower l.len;
}
