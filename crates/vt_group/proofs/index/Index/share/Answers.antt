use Rattle.std.proofs.Common.{subst, take_all}
use Rattle.vt_group.specs.Listing.{EachShared}
use Rattle.vt_group.proofs.Coming.{each_shared_still, shared_more}
use Rattle.vt_group.proofs.index.Index.share.Goals as goal

pub loop-pair-preserved : goal.loop-pair-preserved
loop-pair-preserved c = (
  shared_more c.share_pair.new.self c.args.types.now c.args.named.now c.loop-pair.pair-index _ c.loop-pair-test.true
      (each_shared_still c.loop-pair.self c.share_pair.new.self c.share_pair.ensures.lower c.share_pair.ensures.kept
      c.args.types.now _ c.loop-pair.invariant.0) c.in_ok-share_pair.ensures.ok,
  λ mount kind listed. c.share_pair.ensures.kept mount kind (c.loop-pair.invariant.1 mount kind listed),
  λ low up joined. c.share_pair.ensures.lower low up (c.loop-pair.invariant.2 low up joined),
)

pub returns-clause-ok : goal.returns-clause-ok
returns-clause-ok c = subst (EachShared c.loop-pair.self c.args.types.now)
    (take_all c.loop-pair.pair-index c.args.named.now c.loop-pair-test.false) c.loop-pair.invariant.0
