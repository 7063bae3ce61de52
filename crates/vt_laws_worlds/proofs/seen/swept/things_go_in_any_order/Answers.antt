use Rattle.vt_laws_worlds.proofs.seen.swept.AnyOrder.{any_may_go_before, any_order_is_the_sweep}
use Rattle.vt_laws_worlds.proofs.seen.swept.things_go_in_any_order.Goals as goal

pub returns-clause-before : goal.returns-clause-before
returns-clause-before c = any_may_go_before

pub returns-clause-whole : goal.returns-clause-whole
returns-clause-whole c = any_order_is_the_sweep
