use Rattle.std.proofs.Common.{◌≡◌, take}
use Rattle.vt_copyup.specs.Planned.{names_of}
use Rattle.vt_copyup.specs.Plans.{in_turn}
use Rattle.vt_copyup.proofs.forks.shared_by.Given as goal

-- the names so far are the same, in one directory
abbrev pub invariant-loop-index : goal.invariant-loop-index
invariant-loop-index l = record {
  beside : l.first.directory.slot ≡ l.second.directory.slot;
  same : take l.index (names_of (in_turn l.first)) ≡ take l.index (names_of (in_turn l.second));
}
