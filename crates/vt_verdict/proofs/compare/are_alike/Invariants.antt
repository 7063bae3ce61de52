use Rattle.std.proofs.Common.{◌≡◌, drop, length}
use Rattle.std.specs.List.{list_all, zip}
use Rattle.vt_verdict.specs.Compared.{pair_is_met}
use Rattle.vt_verdict.proofs.compare.are_alike.Given as goal

abbrev pub invariant-loop-wanted : goal.invariant-loop-wanted
invariant-loop-wanted l = record {
  can_next : (goal.iterator-loop-wanted).can_next l.wanted-iterator;
  is_finite : (goal.iterator-loop-wanted).is_finite l.wanted-iterator;
  left : list_all pair_is_met (drop (length l.yielded) (zip l.fn.wanted l.fn.given))
      ≡ list_all pair_is_met (zip l.fn.wanted l.fn.given);
}
