use Rattle.std.proofs.Common.{IfOk, IsOk, ap, arith, inr, length, refl, sym, true, true≢false, Err, Ok, Result, ◌∙◌, ◌≡◌, ◌≤◌}
use Rattle.vt_spec.proofs.Common.{err_from_is_err_and, free_from, inserted}
use Rattle.vt_tasks.specs.Open.{are_ascending, numbered}
use Rattle.vt_tasks.proofs.OpenLemmas.{ascending-inserted, entries-inserted, length-opened, lookup-free, opened, opened-inserted}
use Rattle.vt_tasks.proofs.descriptors.Descriptors.insert_after.Goals as goal

-- what holds of the value, where there is one
of_value : {A E : Type 0} {P Q : A → Type 0} (r : Result A E) → IsOk r → IfOk r P → IfOk r Q → (a : A) × P a × Q a
of_value (Ok a) ok p q = (a, p, q)
of_value (Err e) ok p q = absurd (true≢false (sym ok))

pub returns-in_err-step-clause-step_err : goal.returns-in_err-step-clause-step_err
returns-in_err-step-clause-step_err g c =
    let failed = err_from_is_err_and c.from_residual-in_err-step.result c.from_residual-in_err-step.ensures.1 in
    rw (failed.1, failed.2) (inr
    (record { shown = _; shows = refl; left = _; met = c.in_err-step.ensures; leaves = refl }))

pub invariant_of-self-3 : goal.invariant_of-self-3
invariant_of-self-3 g c =
    let es = c.reserve.new.self.entries in
    let rising : are_ascending 0 es ≡ true = ap (are_ascending 0) c.in_ok-reserve.ensures.entries ∙ c.self.invariant in
    let free = c.free_number-free.result in
    let is : free_from 0 (opened es) ≡ free = sym c.free_number-free.ensures.value in
    let within : free ≤ length es = omega (arith, c.free_number-free.ensures.limit, length-opened es) in
    let made = of_value c.insert_before.result (c.insert_before.ensures.succeeds (omega (arith, c.in_ok-reserve.ensures.ok)))
    c.insert_before.ensures.index c.insert_before.ensures.entries in
    ap (are_ascending 0) (entries-inserted c.reserve.new.self free _ c.args.opened _
    (lookup-free free 0 es rising is) within made.1 made.2)
    ∙ ascending-inserted c.args.opened free 0 free es rising is (omega arith)

pub returns-clause-ok : goal.returns-clause-ok
returns-clause-ok g c =
    let es = c.reserve.new.self.entries in
    let rising : are_ascending 0 es ≡ true = ap (are_ascending 0) c.in_ok-reserve.ensures.entries ∙ c.self.invariant in
    let free = c.free_number-free.result in
    let is : free_from 0 (opened es) ≡ free = sym c.free_number-free.ensures.value in
    let within : free ≤ length es = omega (arith, c.free_number-free.ensures.limit, length-opened es) in
    let made = of_value c.insert_before.result (c.insert_before.ensures.succeeds (omega (arith, c.in_ok-reserve.ensures.ok)))
    c.insert_before.ensures.index c.insert_before.ensures.entries in
    ap opened (entries-inserted c.reserve.new.self free _ c.args.opened _
    (lookup-free free 0 es rising is) within made.1 made.2)
    ∙ opened-inserted c.args.opened free 0 free es rising is (omega arith)
    ∙ ap (λ entries. inserted (numbered free c.args.opened) (opened entries)) c.in_ok-reserve.ensures.entries
    ∙ ap (inserted (numbered free c.args.opened)) c.self.view_is
