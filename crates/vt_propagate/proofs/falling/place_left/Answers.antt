use Rattle.std.proofs.Common.{Some, ap, arith, nat_eq, suc, sym, ◌+◌, ◌-◌, ◌≡◌, ◌∙◌}
use Rattle.vt_spec.proofs.Common.{mount_point_of_parent}
use Rattle.vt_location.specs.Locations.{location_of}
use Rattle.vt_mount.specs.MountsValue.{mounts_in}
use Rattle.vt_mount.proofs.PointLemmas.{end-more, end_of}
use Rattle.vt_propagate.specs.Falling.{of_mounts}
use Rattle.vt_propagate.proofs.Found.{counts}
use Rattle.vt_propagate.proofs.falling.place_left.Goals as goal

pub loop-preserved : goal.loop-preserved
loop-preserved c =
    let step = mount_point_of_parent nat_eq (of_mounts (mounts_in c.args.mounts.now)) (counts c.args.gone.now.ids.now) in
    let is : step (location_of c.loop.here) ≡ Some (location_of c.in-Some.below) = sym c.in-Some.ensures in
    let one : c.len-end.result - c.loop.counter
    ≡ suc (c.len-end.result - (c.loop.counter + 1)) = omega (arith, c.loop-test.true) in (
      c.loop.invariant.0,
      sym (end-more step _ _ _ is) ∙ ap (λ n. end_of step n (location_of c.loop.here)) (sym one) ∙ c.loop.invariant.1,
    )
