use Rattle.std.proofs.Common.{Some, ap, arith, length, map, nat_eq, option_map, suc, sym, ◌+◌, ◌-◌, ◌≡◌, ◌∙◌, ℕ}
use Rattle.vt_spec.proofs.Common.{Location, child_at, root_of}
use Rattle.vt_location.specs.Locations.{location_of}
use Rattle.vt_location.specs.MountValue.{mount_of}
use Rattle.vt_mount.proofs.PointLemmas.{end-more, end_of}
use Rattle.vt_propagate.proofs.pushing.topmost.Goals as goal

pub loop-preserved : goal.loop-preserved
loop-preserved c =
    let step = λ (here : Location ℕ). option_map root_of (child_at nat_eq (map mount_of c.args.copies.now) here) in
    let is : step (location_of c.loop.here) ≡ Some (location_of c.in-Some.root) = sym c.in-Some.ensures in
    let one : length c.args.copies.now - c.loop.counter
    ≡ suc (length c.args.copies.now - (c.loop.counter + 1)) = omega (arith, c.loop-test.true) in (
      c.loop.invariant.0,
      sym (end-more step _ _ _ is) ∙ ap (λ n. end_of step n (location_of c.loop.here)) (sym one) ∙ c.loop.invariant.1,
    )
