use Rattle.std.proofs.Common.{[], Err, List, Ok, OnOk, Result, ap, refl, subst, sym, ◌++◌, ◌-◌, ◌∷◌, ◌≡◌, ◌∙◌}
use Rattle.vt_tasks.specs.TaskValue.{task_of}
use Rattle.vt_explain.specs.LaterRules.{RefuseInTurn, refusal}
use Rattle.vt_explain.proofs.later.+push_rules_behind.Goals as goal

so_then : {T E P Q : Type 0} (r : Result T E) → OnOk r P → (P → Q) → OnOk r Q
so_then (Ok x) p then = then p
so_then (Err e) p then = tt

append-snoc : {A : Type 0} (xs : List A) (x : A) (rest : List A) → (xs ++ x ∷ []) ++ rest ≡ xs ++ x ∷ rest
append-snoc [] x rest = refl
append-snoc (y ∷ xs) x rest = ap (λ ys. y ∷ ys) (append-snoc xs x rest)

pub returns : goal.returns
returns g t c = so_then c.push_rules_behind.result c.push_rules_behind.ensures (λ behind asked call is.
    let told = behind asked call is in
    let refuses = refusal (g.L.Look.looks c.args.refused.now.world.now)
    (g.L.LookAtMounts.overfills c.args.refused.now.world.now) (task_of c.args.refused.now.who.now) call in
    let pushed = c.in_ok-push.ensures.items in (
      c.in-Some.rule ∷ told.0,
      told.1 ∙ ap (λ items. items ++ told.0) pushed ∙ append-snoc c.args.rules.now.items c.in-Some.rule told.0,
      (
        ap refuses (sym c.as_slice.ensures.value) ∙ sym (c.in_ok-rule.ensures asked call is) ∙ c.in-Some.is,
        subst (λ items. RefuseInTurn refuses (c.args.most - 1) items told.0) pushed told.2,
      ),
    ))
