use Rattle.std.proofs.Common.{subst, take_all}
use Rattle.vt_group.specs.Listing.{EachJoined}
use Rattle.vt_group.proofs.Coming.{each_joined_still, joined_more}
use Rattle.vt_group.proofs.index.Index.join_all.Goals as goal

pub loop-group-preserved : goal.loop-group-preserved
loop-group-preserved c = (
  joined_more c.join_new.new.self c.args.new.now c.loop-group.group-index _ c.loop-group-test.true
      (each_joined_still c.loop-group.self c.join_new.new.self c.join_new.ensures.lower c.join_new.ensures.kept _
      c.loop-group.invariant.0) c.in_ok-join_new.ensures.ok,
  λ mount kind listed. c.join_new.ensures.kept mount kind (c.loop-group.invariant.1 mount kind listed),
  λ low up joined. c.join_new.ensures.lower low up (c.loop-group.invariant.2 low up joined),
)

pub returns-clause-ok : goal.returns-clause-ok
returns-clause-ok c =
    subst (EachJoined c.loop-group.self) (take_all c.loop-group.group-index c.args.new.now c.loop-group-test.false)
    c.loop-group.invariant.0
