use Rattle.std.proofs.Common.{IfOk, Ok, Err, Result, [], ap, drop, subst, sym, ◌++◌, ◌∷◌, ◌∙◌}
use Rattle.vt_tasks.specs.TaskValue.{task_of}
use Rattle.vt_explain.specs.LaterRules.{RefuseInTurn, refusal}
use Rattle.vt_explain.proofs.later.later_rules.Goals as goal

so_if : {T E : Type 0} {P Q : T → Type 0} (r : Result T E) → IfOk r P → ((t : T) → P t → Q t) → IfOk r Q
so_if (Ok t) p then = then t p
so_if (Err e) p then = tt

pub returns : goal.returns
returns g c asked = so_if c.from_slice.result c.from_slice.ensures.items (λ rules same call is.
    let told = c.in_ok-push_rules_behind.ensures asked call is in
    let refuses = refusal (g.L.Look.looks c.args.refused.now.world.now)
    (g.L.LookAtMounts.overfills c.args.refused.now.world.now) (task_of c.args.refused.now.who.now) call in
    let start = c.in_ok-push.ensures.items ∙ ap (λ items. items ++ c.args.first ∷ []) c.new-rules.ensures.items in
    let left = same ∙ c.behind_first.ensures ∙ ap (drop 1) (c.as_slice.ensures.value ∙ told.1)
    ∙ ap (λ items. drop 1 (items ++ told.0)) start in
    subst (RefuseInTurn refuses 16 (c.args.first ∷ [])) (sym left)
    (subst (λ items. RefuseInTurn refuses 16 items told.0) start told.2))
