use Rattle.std.proofs.Common.{ℕ, Ok, ap, is_some, nat_eq, rules, sym, unwrap_or, ◌≡◌, ◌∙◌}
use Rattle.vt_spec.proofs.Common.{Mkdir, Node, Place, ToMake, directory_mode, err_from_is_err_and, is_special, judging, make_permit, make_rules, name_of, new_attr, new_directory, new_walk, unless-let_through, unnumbered, walk_end}
use Rattle.vt_tasks.specs.TaskValue.{task_of}
use Rattle.vt_rules.proofs.Judged.{refused, without_memory}
use Rattle.vt_policy.specs.Judged.{judge_by_looks}
use Rattle.vt_policy.proofs.PlaceLemmas.{is_some_mapped, made_asked}
use Rattle.vt_rules.proofs.Refusals.{unless-stopped}
use Rattle.vt_policy.proofs.making.mkdir.Goals as goal

pub returns-in_err-may_make : goal.returns-in_err-may_make
unfolding judging
returns-in_err-may_make g c =
    let looks = g.L.Look.looks c.args.world.now in
    let task = task_of c.args.who.now in
    let at = c.in_ok-place.ensures.ok in
    let node : Place ℕ → Node ℕ = λ place. record { attr = new_attr task (unwrap_or c.args.mode directory_mode); content = new_directory place.parent.node } in
    let rows = make_rules looks task at.0 (unnumbered at.0 (node at.0)) in
    let permit = make_permit at.0 (node at.0) in
    let special = ap is_special at.2.last ∙ sym c.is_special.ensures ∙ c.if-is_special.false in
    let missing = ap is_some at.2.object ∙ is_some_mapped c.in_ok-place.place.object ∙ sym c.is_some.ensures
    ∙ c.if-is_some.false in
    let p = err_from_is_err_and c.from_residual-in_err-may_make.result c.from_residual-in_err-may_make.ensures.1 in
    rw (p.1, p.2) (refused task (judge_by_looks looks task (Mkdir c.args.path.now c.args.mode)) _
    (made_asked looks task (walk_end (new_walk nat_eq looks task c.args.path.now)) at.0 node at.1 special missing
    ∙ unless-stopped rows (Ok permit) _ (c.in_err-may_make.ensures at.0 (node at.0) at.2.parent)))

pub returns-in_err-name_at : goal.returns-in_err-name_at
unfolding judging
returns-in_err-name_at g c =
    let looks = g.L.Look.looks c.args.world.now in
    let task = task_of c.args.who.now in
    let at = c.in_ok-place.ensures.ok in
    let node : Place ℕ → Node ℕ = λ place. record { attr = new_attr task (unwrap_or c.args.mode directory_mode); content = new_directory place.parent.node } in
    let rows = make_rules looks task at.0 (unnumbered at.0 (node at.0)) in
    let permit = make_permit at.0 (node at.0) in
    let special = ap is_special at.2.last ∙ sym c.is_special.ensures ∙ c.if-is_special.false in
    let missing = ap is_some at.2.object ∙ is_some_mapped c.in_ok-place.place.object ∙ sym c.is_some.ensures
    ∙ c.if-is_some.false in
    let p = err_from_is_err_and c.from_residual-in_err-name_at.result c.from_residual-in_err-name_at.ensures.1 in
    rw (p.1, p.2) (without_memory task (judge_by_looks looks task (Mkdir c.args.path.now c.args.mode)) permit _
    (made_asked looks task (walk_end (new_walk nat_eq looks task c.args.path.now)) at.0 node at.1 special missing
    ∙ unless-let_through rows (Ok permit) (c.in_ok-may_make.ensures at.0 (node at.0) at.2.parent))
    c.in_err-name_at.ensures.memory)

pub returns : goal.returns
unfolding judging
returns g c =
    let looks = g.L.Look.looks c.args.world.now in
    let task = task_of c.args.who.now in
    let at = c.in_ok-place.ensures.ok in
    let node : Place ℕ → Node ℕ = λ place. record { attr = new_attr task (unwrap_or c.args.mode directory_mode); content = new_directory place.parent.node } in
    let rows = make_rules looks task at.0 (unnumbered at.0 (node at.0)) in
    let permit = make_permit at.0 (node at.0) in
    let special = ap is_special at.2.last ∙ sym c.is_special.ensures ∙ c.if-is_special.false in
    let missing = ap is_some at.2.object ∙ is_some_mapped c.in_ok-place.place.object ∙ sym c.is_some.ensures
    ∙ c.if-is_some.false in
    let name = ap name_of at.2.last ∙ sym c.in_ok-name_at.ensures.ok in
    let attr : new_attr task (unwrap_or c.args.mode directory_mode) ≡ c.new_attr-attr.result = search rules in
    let built = (λ i. record { attr = attr i; content = new_directory (at.2.parent i).node })
    ∙ sym c.empty_directory.ensures in
    made_asked looks task (walk_end (new_walk nat_eq looks task c.args.path.now)) at.0 node at.1 special missing
    ∙ unless-let_through rows (Ok permit) (c.in_ok-may_make.ensures at.0 (node at.0) at.2.parent)
    ∙ (λ i. Ok (ToMake (at.2.parent i) (name i) (built i)))
