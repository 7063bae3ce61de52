use Rattle.std.proofs.Common.{ap, arith, eqb-true, false, nat_eq, subst, suc, sym, ◌+◌, ◌-◌, ◌≡◌, ◌∙◌}
use Rattle.vt_ns.proofs.Common.{IsHeld, counted, counted_test, location_of, mounts_in}
use Rattle.vt_ns.proofs.mount_looks.Climbing.{meets, met_above, met_from, met_here, met_nowhere}
use Rattle.vt_ns.proofs.mount_looks.WorldLookAtMounts.is_at_or_below.Goals as goal

pub returns-then-eq : goal.returns-then-eq
returns-then-eq c =
    let mounts = mounts_in c.args.self.now.mounts in
    let held = subst IsHeld c.self.view_is c.self.invariant in
    let same = eqb-true c.loop.here.count c.args.top.count (sym c.eq.ensures ∙ c.if-eq.true) in
    sym (met_here mounts (counted c.args.top.count) (c.len-end.result - c.loop.counter) (counted c.loop.here.count)
    (ap counted same)) ∙ c.loop.invariant.1 ∙ met_from mounts held.in_world.mounts.one_number (counted c.args.top.count)
    (counted c.args.mount.count) c.len-end.result c.loop.invariant.0

pub returns-in_default : goal.returns-in_default
returns-in_default c =
    let mounts = mounts_in c.args.self.now.mounts in
    let held = subst IsHeld c.self.view_is c.self.invariant in
    let other : nat_eq c.loop.here.count c.args.top.count ≡ false = sym c.eq.ensures ∙ c.if-eq.false in
    sym (met_nowhere mounts (counted c.args.top.count) (c.len-end.result - c.loop.counter) (counted c.loop.here.count)
    (counted_test c.loop.here.count c.args.top.count ∙ other) (sym c.in_default.ensures.point)) ∙ c.loop.invariant.1
    ∙ met_from mounts held.in_world.mounts.one_number (counted c.args.top.count)
    (counted c.args.mount.count) c.len-end.result c.loop.invariant.0

pub loop-preserved : goal.loop-preserved
loop-preserved c =
    let mounts = mounts_in c.args.self.now.mounts in
    let other : nat_eq c.loop.here.count c.args.top.count ≡ false = sym c.eq.ensures ∙ c.if-eq.false in
    let one : c.len-end.result - c.loop.counter
    ≡ suc (c.len-end.result - (c.loop.counter + 1)) = omega (arith, c.loop-test.true) in (
      c.loop.invariant.0,
      sym (met_above mounts (counted c.args.top.count) (c.len-end.result - (c.loop.counter + 1))
          (counted c.loop.here.count) (location_of c.in-Some.point)
          (counted_test c.loop.here.count c.args.top.count ∙ other) (sym c.in-Some.ensures.point))
          ∙ ap (λ n. meets mounts (counted c.args.top.count) n (counted c.loop.here.count)) (sym one)
          ∙ c.loop.invariant.1,
    )

pub returns : goal.returns
returns c =
    let mounts = mounts_in c.args.self.now.mounts in
    let held = subst IsHeld c.self.view_is c.self.invariant in
    let last : c.len-end.result - c.loop.counter ≡ 0 = omega (arith, c.loop-test.false) in
    c.eq-2.ensures ∙ sym (counted_test c.loop.here.count c.args.top.count)
    ∙ ap (λ n. meets mounts (counted c.args.top.count) n (counted c.loop.here.count)) (sym last) ∙ c.loop.invariant.1
    ∙ met_from mounts held.in_world.mounts.one_number (counted c.args.top.count)
    (counted c.args.mount.count) c.len-end.result c.loop.invariant.0
