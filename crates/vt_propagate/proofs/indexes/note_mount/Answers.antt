use Rattle.std.proofs.Common.{sym, ◌∙◌}
use Rattle.vt_spec.proofs.Common.{get, none_from_not_some}
use Rattle.vt_location.specs.Numbers.{same_id}
use Rattle.vt_location.specs.declared.numbers.MountId.{MountId}
use Rattle.vt_propagate.proofs.Places.{noted}
use Rattle.vt_propagate.proofs.indexes.note_mount.Goals as goal

pub returns-in_ok-insert : goal.returns-in_ok-insert
returns-in_ok-insert c = noted (λ (id : MountId). id.count) (λ a b same i. record { count = same i })
    (get same_id c.args.places.now)
    (get same_id c.insert.new.self) c.args.id c.args.index c.in_ok-insert.ensures.updates.0
    (none_from_not_some (get same_id c.args.places.now c.args.id)
    (sym c.contains_key.ensures ∙ c.if-not-contains_key.true))
