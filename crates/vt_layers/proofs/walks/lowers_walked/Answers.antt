use Rattle.std.proofs.Common.{◌≡◌, ◌≤◌, ap, arith, eqb, length, nat_eq, rules, true, ◌∙◌}
use Rattle.vt_spec.proofs.Common.{each_walked, err_from_is_err_and, nat_tests}
use Rattle.vt_location.specs.Locations.{location_of}
use Rattle.vt_tasks.specs.TaskValue.{task_of}
use Rattle.vt_layers.specs.LayersValue.{lowers_of}
use Rattle.vt_layers.proofs.WalkLemmas.{kept_before, lowers-length, lowers-push, walk-kept, walk-passed, walk-refused, walks-ended}
use Rattle.vt_layers.proofs.walks.lowers_walked.Goals as goal

pub returns-in_err-at-clause-err : goal.returns-in_err-at-clause-err
returns-in_err-at-clause-err g c =
    let p = err_from_is_err_and c.from_residual.result c.from_residual.ensures.1 in
    rw (p.1, p.2) (walk-refused (g.L.Look.looks c.args.world.now) (task_of c.args.who.now)
    (lowers_of c.loop-path.lowers.items) c.loop-path.paths c.next.new.self c.in-Some.path.now _
    c.in-Some.ensures.steps c.in_err-at.ensures ∙ c.loop-path.invariant.kept)

pub loop-path-preserved-then-not-is_full : goal.loop-path-preserved-then-not-is_full
loop-path-preserved-then-not-is_full g c =
    let looks = g.L.Look.looks c.args.world.now in
    let task = task_of c.args.who.now in
    let items = c.loop-path.lowers.items in
    let rest = c.next.new.self in
    record {
      kept = ap (λ lowers. kept_before (lowers_of lowers) (each_walked nat_eq looks task rest)) c.push.ensures.items
          ∙ ap (λ before. kept_before before (each_walked nat_eq looks task rest)) (lowers-push items c.in_ok-at.at)
          ∙ walk-kept looks task (lowers_of items) c.loop-path.paths rest c.in-Some.path.now
          (location_of c.in_ok-at.at) c.in-Some.ensures.steps c.in_ok-at.ensures ∙ c.loop-path.invariant.kept;
      few = search rules;
    }

pub loop-path-preserved : goal.loop-path-preserved
loop-path-preserved g c =
    let items = c.loop-path.lowers.items in
    let full : eqb (length items) 129 ≡ true = search rules in
    let many : length items ≡ 129 = grind (arith, nat_tests) in
    record {
      kept = walk-passed (g.L.Look.looks c.args.world.now) (task_of c.args.who.now) (lowers_of items) c.loop-path.paths
          c.next.new.self c.in-Some.path.now (location_of c.in_ok-at.at) c.in-Some.ensures.steps
          (lowers-length items ∙ many) c.in_ok-at.ensures ∙ c.loop-path.invariant.kept;
      few = c.loop-path.invariant.few;
    }

pub returns-clause-ok : goal.returns-clause-ok
returns-clause-ok g c =
    let items = c.loop-path.lowers.items in
    let few : length (lowers_of items) ≤ 129 = rw (lowers-length items) c.loop-path.invariant.few in
    walks-ended (g.L.Look.looks c.args.world.now) (task_of c.args.who.now) (lowers_of items) c.loop-path.paths
    c.in_default.ensures.steps.0 few ∙ c.loop-path.invariant.kept
