use Rattle.std.proofs.Common.{◌≡◌, false, true}
use Rattle.vt_spec.proofs.Common.{list_any}
use Rattle.vt_location.specs.declared.numbers.GroupId.{GroupId}
use Rattle.vt_group.specs.Sets.{has, same_group}
use Rattle.vt_group.proofs.index.take_out.Given as goal

abbrev pub invariant-loop-name : goal.invariant-loop-name
invariant-loop-name g l = record {
  others : (at : GroupId) (other : g.row.T.Denot) → g.T.PartialEq.eq l.one other ≡ false
      → has g.T.PartialEq.eq at other l.fn.sets ≡ true → has g.T.PartialEq.eq at other l.sets ≡ true;
  own : (at : GroupId) (other : g.row.T.Denot) → list_any (λ name. same_group name at) l.stays ≡ true
      → has g.T.PartialEq.eq at other l.fn.sets ≡ true → has g.T.PartialEq.eq at other l.sets ≡ true;
}
