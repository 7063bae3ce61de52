use Rattle.std.proofs.Common.{ap, arith, refl, take_all, ◌∙◌}
use Rattle.vt_spec.proofs.Common.{folded}
use Rattle.vt_mounting.proofs.Common.{shown}
use Rattle.vt_mounting.specs.Detach.Uses.{shown_by}
use Rattle.vt_mounting.proofs.attach.RoomLemmas.{room_at, shown_next}
use Rattle.vt_mounting.proofs.attach.attaching.show_all.Goals as goal

pub loop-mount-init : goal.loop-mount-init
loop-mount-init c = record { uses = refl; overlays = refl; still = c.requires.none }

pub show-requires-clause-room : goal.show-requires-clause-room
show-requires-clause-room c =
    room_at c.args.new.now (shown c.args.store.now.plain) c.loop-mount.mount-index _ c.loop-mount-test.true
    (omega arith) c.requires.room c.loop-mount.invariant.uses

pub loop-mount-preserved : goal.loop-mount-preserved
loop-mount-preserved c = record {
  uses = shown_next c.args.new.now (shown c.args.store.now.plain) c.loop-mount.mount-index _ c.loop-mount-test.true
      c.loop-mount.invariant.uses c.show.ensures.uses;
  overlays = c.show.ensures.overlays ∙ c.loop-mount.invariant.overlays;
  still = c.show.ensures.still;
}

pub returns-clause-uses : goal.returns-clause-uses
returns-clause-uses c = c.loop-mount.invariant.uses ∙ ap (folded shown_by (shown c.args.store.now.plain))
    (take_all c.loop-mount.mount-index c.args.new.now c.loop-mount-test.false)
