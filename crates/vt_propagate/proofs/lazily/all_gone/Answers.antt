use Rattle.std.proofs.Common.{ap, get_or, subst, sym, ◌++◌, ◌∙◌}
use Rattle.vt_location.specs.Numbers.{counted}
use Rattle.vt_location.specs.declared.numbers.MountId.{MountId}
use Rattle.vt_propagate.specs.Through.{going_then_if_there}
use Rattle.vt_propagate.proofs.Found.{counts}
use Rattle.vt_propagate.proofs.falling.GoneSets.{known_none}
use Rattle.vt_propagate.proofs.lazily.LazySteps.{IsTaken, taken_first, taken_last, taken_step}
use Rattle.vt_propagate.proofs.lazily.all_gone.Goals as goal

abbrev none : MountId
none = record { count = 0 }

pub loop-id-init : goal.loop-id-init
loop-id-init c = (
  known_none c.new-set.result.keys c.in_ok-ids.ids.items c.new-set.ensures.empty c.in_ok-ids.ensures.items,
  λ world number kept seen are. subst (λ ids. IsTaken world kept number (counts ids) (counts c.args.events.now))
      (sym c.in_ok-ids.ensures.items) (taken_first world kept number c.args.events.now are),
)

pub loop-id-preserved : goal.loop-id-preserved
loop-id-preserved c = (
  c.in_ok-note_all.ensures.set c.loop-id.invariant.0,
  λ world number kept seen are.
      taken_step world kept number c.loop-id.ids.items c.in_ok-going.going.items c.note_all.new.ids.items
      c.args.events.now c.loop-id.id-index none c.loop-id-test.true
      (c.in_ok-note_all.ensures.ids ∙ ap (λ more. counts c.loop-id.ids.items ++ counts more)
      c.deref-in-loop-id.ensures) (c.loop-id.invariant.1 world number kept seen are)
      (c.in_ok-going.ensures.ok world seen ∙ ap (λ ids. going_then_if_there world (counts ids)
      (counted (get_or c.args.events.now c.loop-id.id-index none).count)) c.deref.ensures.value),
)

pub returns : goal.returns
returns c = record {
  ok = λ world number seen kept are.
      taken_last world kept number c.loop-id.ids.items c.args.events.now c.loop-id.id-index
      c.loop-id-test.false (c.loop-id.invariant.1 world number kept seen are);
  set = c.loop-id.invariant.0;
}
