use Rattle.std.proofs.Common.{subst, take_all}
use Rattle.vt_group.specs.Listing.{EachListed}
use Rattle.vt_group.proofs.Coming.{each_listed_still, listed_more}
use Rattle.vt_group.proofs.index.Index.list_all.Goals as goal

pub loop-mount-preserved : goal.loop-mount-preserved
loop-mount-preserved c = (
  listed_more c.list_new.new.self c.args.mounts.now c.loop-mount.mount-index _ c.loop-mount-test.true
      (each_listed_still c.loop-mount.self c.list_new.new.self c.list_new.ensures.lower c.list_new.ensures.kept _
      c.loop-mount.invariant.0) c.in_ok-list_new.ensures.ok,
  λ mount kind listed. c.list_new.ensures.kept mount kind (c.loop-mount.invariant.1 mount kind listed),
  λ low up joined. c.list_new.ensures.lower low up (c.loop-mount.invariant.2 low up joined),
)

pub returns-clause-ok : goal.returns-clause-ok
returns-clause-ok c =
    subst (EachListed c.loop-mount.self) (take_all c.loop-mount.mount-index c.args.mounts.now c.loop-mount-test.false)
    c.loop-mount.invariant.0
