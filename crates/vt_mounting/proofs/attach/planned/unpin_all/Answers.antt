use Rattle.std.proofs.Common.{ap, refl, ◌∙◌, take_all}
use Rattle.vt_spec.proofs.Common.{folded}
use Rattle.vt_mounting.proofs.Common.{shown}
use Rattle.vt_mounting.specs.Attach.Planned.{left_of, unpinned_by}
use Rattle.vt_mounting.proofs.attach.PlannedMoves.{unpinned_next, unpinned_once}
use Rattle.vt_mounting.proofs.attach.planned.unpin_all.Goals as goal

pub loop-one-init : goal.loop-one-init
loop-one-init c = record { uses = refl; overlays = refl; still = c.requires }

pub loop-one-preserved : goal.loop-one-preserved
loop-one-preserved c =
    let moved = c.args.moved.now in
    let place = c.loop-one.one-index in
    record {
      uses = unpinned_next moved (shown c.args.store.now.plain) place _ c.loop-one-test.true
          c.loop-one.invariant.uses
          (c.unpin_point.ensures.uses
          ∙ unpinned_once _ (shown c.loop-one.store.plain));
      overlays = c.unpin_point.ensures.overlays ∙ c.loop-one.invariant.overlays;
      still = c.unpin_point.ensures.still;
    }

pub returns-clause-uses : goal.returns-clause-uses
returns-clause-uses c = c.loop-one.invariant.uses
    ∙ ap (λ moved. folded unpinned_by (shown c.args.store.now.plain) (left_of moved))
    (take_all c.loop-one.one-index c.args.moved.now c.loop-one-test.false)
