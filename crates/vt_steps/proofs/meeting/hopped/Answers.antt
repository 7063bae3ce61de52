use Rattle.std.proofs.Common.{[], ap, arith, map, nat_eq, sym, ◌++◌, ◌-◌, ◌+◌, ◌<◌, ◌∙◌, ◌∷◌, append_assoc}
use Rattle.vt_spec.proofs.Common.{chain, last_or, map-append}
use Rattle.vt_spec.specs.Machine.Walking.{hop}
use Rattle.vt_location.specs.Locations.{location_of}
use Rattle.vt_tasks.specs.TaskValue.{task_of}
use Rattle.vt_steps.proofs.Chains.{chain-goes, chain-stops, last-goes}
use Rattle.vt_steps.proofs.meeting.hopped.Goals as goal

pub returns-in_default-clause-passed : goal.returns-in_default-clause-passed
returns-in_default-clause-passed g c =
    let looks = g.L.Look.looks c.args.world.now in
    let here = location_of c.loop-hop.here in
    ap (map location_of) c.in_ok-push.ensures.items ∙ map-append location_of c.loop-hop.passed.items _
    ∙ ap (λ xs. map location_of c.loop-hop.passed.items ++ xs)
    (sym (chain-stops (hop nat_eq looks (task_of c.args.who.now)) looks.mount_count c.loop-hop._hop here
    (omega (arith, c.mount_count-hop-end.ensures)) (sym c.in_default.ensures))) ∙ c.loop-hop.invariant.0

pub returns-in_default-clause-last : goal.returns-in_default-clause-last
returns-in_default-clause-last g c =
    let looks = g.L.Look.looks c.args.world.now in
    let here = location_of c.loop-hop.here in
    sym (ap (last_or here)
    (chain-stops (hop nat_eq looks (task_of c.args.who.now)) looks.mount_count c.loop-hop._hop here
    (omega (arith, c.mount_count-hop-end.ensures)) (sym c.in_default.ensures))) ∙ c.loop-hop.invariant.1

pub loop-hop-preserved : goal.loop-hop-preserved
loop-hop-preserved g c =
    let looks = g.L.Look.looks c.args.world.now in
    let on = hop nat_eq looks (task_of c.args.who.now) in
    let here = location_of c.loop-hop.here in
    let point = location_of c.in-Some.point in
    let below : c.loop-hop._hop < looks.mount_count = omega (arith, c.mount_count-hop-end.ensures) in
    let goes = sym c.in-Some.ensures in (
      ap (λ xs. map location_of xs ++ chain (looks.mount_count - (c.loop-hop._hop + 1)) on point)
          c.in_ok-push.ensures.items
          ∙ ap (λ xs. xs ++ chain (looks.mount_count - (c.loop-hop._hop + 1)) on point)
          (map-append location_of c.loop-hop.passed.items _)
          ∙ append_assoc (map location_of c.loop-hop.passed.items) (here ∷ []) _
          ∙ ap (λ xs. map location_of c.loop-hop.passed.items ++ xs)
          (sym (chain-goes on looks.mount_count c.loop-hop._hop here point below goes)) ∙ c.loop-hop.invariant.0,
      last-goes on looks.mount_count c.loop-hop._hop here point below goes ∙ c.loop-hop.invariant.1,
    )
