use Rattle.std.proofs.Common.{ap, arith, length}
use Rattle.vt_location.proofs.OrderLemmas.{length-in_order}
use Rattle.vt_location.specs.InOrder.{in_order_by}
use Rattle.vt_group.proofs.Counted.{values_fewer}
use Rattle.vt_group.proofs.by_number.ByNumber.len.Goals as goal

pub returns : goal.returns
returns g c = omega (
  arith,
  values_fewer (in_order_by (λ number. number) c.self.inside.places.entries),
  length-in_order (λ number. number) c.self.inside.places.entries c.len.ensures.unique,
  c.len.ensures.len,
  ap (λ map. length map.entries) c.self.view_is,
)
