use Rattle.std.proofs.Common.{◌≡◌, ◌++◌, List, length}
use Rattle.std.specs.Prelude.{reverse}
use Rattle.vt_copyup.specs.Made.{AreMade, parent_made}
use Rattle.vt_copyup.specs.Plans.{AreReady, copies_of, in_turn}
use Rattle.vt_copyup.specs.declared.plans.PlannedCopy.{PlannedCopy}
use Rattle.vt_copyup.proofs.Stepping.{OwnFits}
use Rattle.vt_copyup.proofs.plans.Plan.grow.Given as goal

-- what was made, and what is left, which is ready to be made in the last copy
abbrev pub invariant-loop-piece : goal.invariant-loop-piece
invariant-loop-piece l = record {
  done : List PlannedCopy;
  split : done ++ copies_of (reverse l.pieces.items) ≡ copies_of (in_turn l.fn.self);
  made : AreMade l.fn.self.directory done l.fn.trees l.fn.births l.trees l.births l.here;
  parent_is : l.parent ≡ parent_made l.fn.self.directory made.made;
  ready : AreReady (reverse l.pieces.items) l.here l.trees l.births;
  fits : OwnFits (reverse l.pieces.items) l.here l.trees;
}

abbrev pub decreases-loop-piece : goal.decreases-loop-piece
decreases-loop-piece l = length l.pieces.items
