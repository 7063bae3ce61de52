use Rattle.std.proofs.Common.{sym, ◌∙◌}
use Rattle.vt_spec.proofs.Common.{get, none_from_not_some}
use Rattle.vt_location.specs.declared.numbers.GroupId.{GroupId}
use Rattle.vt_propagate.proofs.Places.{noted}
use Rattle.vt_propagate.proofs.indexes.note_group.Goals as goal
use Rattle.vt_group.specs.Sets.{same_group}

pub returns-in_ok-insert : goal.returns-in_ok-insert
returns-in_ok-insert c = noted (λ (group : GroupId). group.count) (λ a b same i. record { count = same i })
    (get same_group c.args.places.now)
    (get same_group c.insert.new.self) c.args.group c.args.index c.in_ok-insert.ensures.updates.0
    (none_from_not_some (get same_group c.args.places.now c.args.group)
    (sym c.contains_key.ensures ∙ c.if-not-contains_key.true))
