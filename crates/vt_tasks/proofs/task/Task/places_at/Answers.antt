use Rattle.std.proofs.Common.{false, sym, ◌∙◌}
use Rattle.vt_spec.proofs.Common.{not_turned}
use Rattle.vt_tasks.proofs.PlacesCounted.{places_told}
use Rattle.vt_tasks.proofs.task.Task.places_at.Goals as goal

pub returns : goal.returns
returns c = places_told c.args.namespace c.args.at c.args.self.now c.is_same.result c.is_same-2.result
    (not_turned _ false (sym c.if-ne.false ∙ c.ne.ensures)) c.is_same.ensures c.is_same-2.ensures
    c.from.result c.from-2.result c.from.ensures c.from-2.ensures
