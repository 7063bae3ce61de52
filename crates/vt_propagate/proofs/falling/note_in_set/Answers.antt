use Rattle.std.proofs.Common.{Bool, ap, cond, false, get_or, nat_eq, refl, take, true, ◌∙◌, ◌≡◌, ◌||◌}
use Rattle.vt_spec.proofs.Common.{list_any}
use Rattle.vt_location.specs.declared.numbers.MountId.{MountId}
use Rattle.vt_location.specs.Numbers.{counted, same_id}
use Rattle.vt_propagate.proofs.Found.{counts}
use Rattle.vt_propagate.proofs.falling.GoneSets.{going_more}
use Rattle.vt_propagate.proofs.falling.note_in_set.Goals as goal

later : (b old noted : Bool) → cond b true (old || noted) ≡ (old || cond b true noted)
later true true noted = refl
later true false noted = refl
later false old noted = refl

pub loop-id-preserved : goal.loop-id-preserved
loop-id-preserved c id =
    let none : MountId = record { count = 0 } in
    c.in_ok-insert.ensures.updates.0 id
    ∙ ap (cond (nat_eq (get_or c.args.ids.now c.loop-id.id-index none).count id.count) true) (c.loop-id.invariant id)
    ∙ later (nat_eq (get_or c.args.ids.now c.loop-id.id-index none).count id.count)
    (list_any (same_id id) c.args.set.now.keys)
    (list_any (nat_eq (counted id.count)) (counts (take c.loop-id.id-index c.args.ids.now)))
    ∙ ap (λ b. list_any (same_id id) c.args.set.now.keys || b)
    (going_more c.args.ids.now c.loop-id.id-index none id c.loop-id-test.true)
