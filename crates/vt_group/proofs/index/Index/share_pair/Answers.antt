use Rattle.std.proofs.Common.{subst, OnOk}
use Rattle.vt_group.specs.Listing.{IsShared}
use Rattle.vt_group.proofs.index.Index.share_pair.Goals as goal

pub returns-clause-ok : goal.returns-clause-ok
returns-clause-ok c =
    subst (λ was. OnOk c.share_one.result (IsShared c.share_one.new.self was c.args.pair.now.0 c.args.pair.now.1))
    c.get-was.ensures c.share_one.ensures.ok
