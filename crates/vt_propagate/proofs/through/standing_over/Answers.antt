use Rattle.std.proofs.Common.{ap, arith, suc, sym, ◌+◌, ◌-◌, ◌≡◌, ◌∙◌}
use Rattle.vt_location.specs.Locations.{location_of}
use Rattle.vt_mount.specs.MountsValue.{mounts_in}
use Rattle.vt_propagate.specs.Through.{over_from}
use Rattle.vt_propagate.proofs.Found.{counts}
use Rattle.vt_propagate.proofs.through.LookedThrough.{over_lost, over_next}
use Rattle.vt_propagate.proofs.through.standing_over.Goals as goal

pub returns-in_err-get : goal.returns-in_err-get
returns-in_err-get c =
    absurd (over_lost (mounts_in c.args.mounts.now) (counts c.args.gone.now.ids.now) c.in_ok-child.ensures.order
    (location_of c.loop.here) c.in_ok-child.ensures.child c.in_err-get.ensures)

pub loop-preserved : goal.loop-preserved
loop-preserved c =
    let mounts = mounts_in c.args.mounts.now in
    let gone = counts c.args.gone.now.ids.now in
    let most = c.len-end.result - (c.loop.counter + 1) in
    let one : c.len-end.result - c.loop.counter ≡ suc most = omega (arith, c.loop-test.true) in (
      c.loop.invariant.0,
      ap (over_from most mounts gone) c.root_location-here.ensures
          ∙ sym (over_next mounts gone c.in_ok-child.ensures.order most (location_of c.loop.here)
          c.in_ok-child.ensures.child (sym c.is_gone.ensures ∙ c.if-not-is_gone.false) c.in_ok-get.ensures)
          ∙ ap (λ n. over_from n mounts gone (location_of c.loop.here)) (sym one) ∙ c.loop.invariant.1,
    )
