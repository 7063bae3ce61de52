use Rattle.std.proofs.Common.{◌∙◌}
use Rattle.vt_store.proofs.layer_counts.LayerCounts.reserve.Goals as goal

pub returns-clause-same : goal.returns-clause-same
returns-clause-same c = λ layers is. record {
  filesystems = λ q. c.reserve.ensures.same q ∙ is.filesystems q;
  directories = λ q. c.reserve-2.ensures.same q ∙ is.directories q;
  small = is.small;
  total = is.total;
}
