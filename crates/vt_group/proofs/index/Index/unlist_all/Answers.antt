use Rattle.std.proofs.Common.{◌≡◌, true}
use Rattle.vt_group.specs.ByNumber.{value_at}
use Rattle.vt_group.specs.Indexed.{is_listed}
use Rattle.vt_group.proofs.IndexLemmas.{unlisted_still}
use Rattle.vt_group.proofs.index.Index.unlist_all.Goals as goal

pub loop-pair-preserved : goal.loop-pair-preserved
loop-pair-preserved c = (
  λ mount kind at listed. unlisted_still (λ mount kind. is_listed c.loop-pair.self mount kind ≡ true)
      (λ mount kind. is_listed c.leave.new.self mount kind ≡ true) (value_at c.args.types.now) _
      c.get.result c.get.ensures c.leave.ensures.others c.leave.ensures.own
      mount kind at (c.loop-pair.invariant.0 mount kind at listed),
  λ low up under. c.leave.ensures.lower low up (c.loop-pair.invariant.1 low up under),
)
