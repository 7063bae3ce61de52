use Rattle.std.proofs.Common.{ap, arith, refl, ◌∙◌, take_all}
use Rattle.vt_spec.proofs.Common.{folded}
use Rattle.vt_mounting.proofs.Common.{shown}
use Rattle.vt_mounting.specs.Attach.Planned.{pinned_by, taken_of}
use Rattle.vt_mounting.proofs.attach.PlannedMoves.{pinned_fits, pinned_next}
use Rattle.vt_mounting.proofs.detach.CountNoUses.{pin_granted, pins_plain, still_pinned}
use Rattle.vt_mounting.proofs.attach.planned.pin_all.Goals as goal

pub loop-one-init : goal.loop-one-init
loop-one-init c = record { uses = refl; overlays = refl; still = c.requires.none }

pub loop-one-preserved : goal.loop-one-preserved
loop-one-preserved c =
    let moved = c.args.moved.now in
    let place = c.loop-one.one-index in
    let old = shown c.args.store.now.plain in
    let sofar = c.loop-one.invariant in
    let pins = pin_granted c.loop-one.store sofar.still _ c.pin.result c.pin.new.self
    (pinned_fits moved old place _ c.loop-one-test.true sofar.uses (omega arith) c.requires.room)
    c.pin.ensures.limit.0 c.pin.ensures.ok in
    let done = pins_plain c.loop-one.store sofar.still _ c.pin.new.self pins in
    record {
      uses = pinned_next moved old place _ c.loop-one-test.true sofar.uses done.0;
      overlays = done.1 ∙ sofar.overlays;
      still = still_pinned c.loop-one.store sofar.still _ c.pin.new.self pins;
    }

pub returns-clause-uses : goal.returns-clause-uses
returns-clause-uses c = c.loop-one.invariant.uses
    ∙ ap (λ moved. folded pinned_by (shown c.args.store.now.plain) (taken_of moved))
    (take_all c.loop-one.one-index c.args.moved.now c.loop-one-test.false)
