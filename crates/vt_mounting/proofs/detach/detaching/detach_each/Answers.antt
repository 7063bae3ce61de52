use Rattle.std.proofs.Common.{refl}
use Rattle.vt_mounting.specs.Detach.Stored.{kept}
use Rattle.vt_mounting.proofs.detach.MountsUnplaced.{turn_goes_on}
use Rattle.vt_mounting.proofs.detach.OverlaysListed.{left_itself, left_twice}
use Rattle.vt_mounting.proofs.detach.detaching.detach_each.Goals as goal

pub loop-id-init : goal.loop-id-init
loop-id-init c = (
  λ last turn. turn,
  left_itself c.args.store.now.overlays c.args.store.now.overlays refl,
  c.requires,
)

pub loop-id-preserved : goal.loop-id-preserved
loop-id-preserved c = (
  λ last turn. c.loop-id.invariant.0 last (turn_goes_on c.args.ids.now c.loop-id.id-index _ c.loop-id-test.true
      (kept c.loop-id.mounts c.loop-id.store) last c.detach.result c.detach.ensures.point c.detach.ensures.slot
      c.detach.ensures.left turn),
  left_twice c.args.store.now.overlays c.loop-id.store.overlays c.detach.new.store.overlays c.loop-id.invariant.1
      c.detach.ensures.overlays,
  c.detach.ensures.still,
)
