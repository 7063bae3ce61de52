use Rattle.std.proofs.Common.{ℕ, Ok, ap, nat_eq, rules, sym, ◌≡◌, ◌∙◌}
use Rattle.vt_spec.proofs.Common.{MakeWhiteout, Node, ToMake, Whiteout, err_from_is_err_and, exact_attr, judging, make_permit, name_of, new_leaf_walk, unless-let_through, walk_end, whiteout_rules}
use Rattle.vt_permits.specs.GrantValue.{node_in}
use Rattle.vt_tasks.specs.TaskValue.{task_of}
use Rattle.vt_rules.proofs.Judged.{refused, without_memory}
use Rattle.vt_rules.proofs.Refusals.{unless-stopped}
use Rattle.vt_policy.specs.Judged.{judge_by_looks}
use Rattle.vt_policy.proofs.PlaceLemmas.{went}
use Rattle.vt_policy.proofs.making.whiteout.Goals as goal

pub returns-in_err-may_make_whiteout : goal.returns-in_err-may_make_whiteout
unfolding judging
returns-in_err-may_make_whiteout g c =
    let looks = g.L.Look.looks c.args.world.now in
    let task = task_of c.args.who.now in
    let at = c.in_ok-place.ensures.ok in
    let node : Node ℕ = record { attr = exact_attr task 0; content = Whiteout } in
    let p = err_from_is_err_and c.from_residual-in_err-may_make_whiteout.result
    c.from_residual-in_err-may_make_whiteout.ensures.1 in
    rw (p.1, p.2) (refused task (judge_by_looks looks task (MakeWhiteout c.args.path.now)) _
    (went (walk_end (new_leaf_walk nat_eq looks task c.args.path.now)) at.0 _ at.1
    ∙ unless-stopped (whiteout_rules looks task at.0) (Ok (make_permit at.0 node)) _
    (c.in_err-may_make_whiteout.ensures at.0 at.2)))

pub returns-in_err-name_at : goal.returns-in_err-name_at
unfolding judging
returns-in_err-name_at g c =
    let looks = g.L.Look.looks c.args.world.now in
    let task = task_of c.args.who.now in
    let at = c.in_ok-place.ensures.ok in
    let node : Node ℕ = record { attr = exact_attr task 0; content = Whiteout } in
    let p = err_from_is_err_and c.from_residual-in_err-name_at.result c.from_residual-in_err-name_at.ensures.1 in
    rw (p.1, p.2) (without_memory task (judge_by_looks looks task (MakeWhiteout c.args.path.now)) (make_permit at.0 node) _
    (went (walk_end (new_leaf_walk nat_eq looks task c.args.path.now)) at.0 _ at.1
    ∙ unless-let_through (whiteout_rules looks task at.0) (Ok (make_permit at.0 node))
    (c.in_ok-may_make_whiteout.ensures at.0 at.2)) c.in_err-name_at.ensures.memory)

pub returns : goal.returns
unfolding judging
returns g c =
    let looks = g.L.Look.looks c.args.world.now in
    let task = task_of c.args.who.now in
    let at = c.in_ok-place.ensures.ok in
    let node : Node ℕ = record { attr = exact_attr task 0; content = Whiteout } in
    let name = ap name_of at.2.last ∙ sym c.in_ok-name_at.ensures.ok in
    let built : node ≡ node_in c.in_ok-place.place.parent c.whiteout.result = search rules in
    went (walk_end (new_leaf_walk nat_eq looks task c.args.path.now)) at.0 _ at.1
    ∙ unless-let_through (whiteout_rules looks task at.0) (Ok (make_permit at.0 node))
    (c.in_ok-may_make_whiteout.ensures at.0 at.2) ∙ (λ i. Ok (ToMake (at.2.parent i) (name i) (built i)))
