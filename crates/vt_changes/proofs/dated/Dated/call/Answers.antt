use Rattle.std.proofs.Common.{Err, ap, false, is_some, not, refl, subst, sym, true, ◌≡◌, ◌∙◌}
use Rattle.vt_spec.proofs.Common.{err_from_is_err_and, none_from_not_some, only_looks, task_called}
use Rattle.vt_request.specs.Requests.{call_of}
use Rattle.vt_answers.specs.Ends as any
use Rattle.vt_world.specs.Held.{IsHeld}
use Rattle.vt_world.specs.WorldValue.{WorldValue, world_of}
use Rattle.vt_calls.specs.KernelValue.{kernel_world}
use Rattle.vt_calls.specs.Permitted.{IsPermitted}
use Rattle.vt_changes.specs.DatedValue.{DatedValue}
use Rattle.vt_changes.specs.Ends.{EndsDated}
use Rattle.vt_changes.specs.Following.{has_task}
use Rattle.vt_changes.specs.contracts.dated.Dated.{the_view}
use Rattle.vt_changes.proofs.Ended.{dated_is, ends_nobody, ends_refused}
use Rattle.vt_changes.proofs.Spending.{looked_ends, looked_in_world, looked_living}
use Rattle.vt_changes.proofs.Told.{lent_there}
use Rattle.vt_changes.proofs.dated.Dated.call.Goals as goal

pub returns-then-is_none-clause-ends : goal.returns-then-is_none-clause-ends
returns-then-is_none-clause-ends c =
    let name = c.args.name.now in
    let there = c.world.ensures ∙ ap (λ (value : DatedValue). value.kernel.world) c.self.view_is in
    let held : IsHeld c.args.self.now.kernel.world = subst IsHeld there c.task.ensures.held in
    let none : has_task (world_of c.args.self.now.kernel.world) name ≡ false =
    ap (λ (value : WorldValue). has_task (world_of value) name) (sym there)
    ∙ lent_there _ c.task.result _ c.task.ensures.found ∙ c.is_none.ensures ∙ ap not c.if-is_none.true in
    ends_nobody c.args.self.now held name (call_of c.args.call)
    (none_from_not_some (task_called (world_of c.args.self.now.kernel.world) name) none) c.denial.result c.denial.ensures
    c.args.self.now refl

pub invariant_of-self : goal.invariant_of-self
invariant_of-self c =
    let held : IsHeld c.self.inside.kernel.world = subst IsHeld c.world.ensures c.task.ensures.held in
    let looks : only_looks (call_of c.args.call) ≡ true = sym c.only_looks.ensures ∙ c.if-only_looks.true in
    looked_living (the_view c.self.inside) held c.args.name.now (call_of c.args.call) c.call.new.self looks c.call.result
    c.call.ensures.ends c.call.ensures.change c.self.invariant

pub returns-then-only_looks-clause-ends : goal.returns-then-only_looks-clause-ends
returns-then-only_looks-clause-ends c =
    let held : IsHeld c.self.inside.kernel.world = subst IsHeld c.world.ensures c.task.ensures.held in
    let looks : only_looks (call_of c.args.call) ≡ true = sym c.only_looks.ensures ∙ c.if-only_looks.true in
    let seen : DatedValue = the_view c.self.inside in
    subst (λ (old : DatedValue). EndsDated old c.args.name.now (call_of c.args.call) c.call.result
    (record seen { kernel = c.call.new.self })) c.self.view_is
    (looked_ends seen held c.args.name.now (call_of c.args.call) c.call.new.self looks c.call.result c.call.ensures.ends
    c.call.ensures.change)

pub returns-in_err-permit-clause-ends : goal.returns-in_err-permit-clause-ends
returns-in_err-permit-clause-ends c =
    let held : IsHeld c.self.inside.kernel.world = subst IsHeld c.world.ensures c.task.ensures.held in
    let name = c.args.name.now in
    let call = call_of c.args.call in
    let seen : DatedValue = the_view c.self.inside in
    let p = err_from_is_err_and c.from_residual.result c.from_residual.ensures.1 in
    rw p.1 (subst (λ (old : DatedValue). EndsDated old name call (Err p.0) old) c.self.view_is
    (ends_refused seen held name call p.0 seen.kernel seen refl
    (subst (λ deny. any.Ends kernel_world seen.kernel name call (Err deny) seen.kernel) (sym p.2)
    c.in_err-permit.ensures.err)))

pub returns-clause-ends : goal.returns-clause-ends
returns-clause-ends c = c.spend.ensures.ends (call_of c.args.call) (sym c.only_looks.ensures ∙ c.if-only_looks.false)
    (subst (λ (value : DatedValue). IsPermitted value.kernel.world value.kernel.change c.args.name.now
    (call_of c.args.call) c.in_ok-permit.permit) c.self.view_is c.in_ok-permit.ensures.ok)

pub returns-then-is_none-clause-in_world : goal.returns-then-is_none-clause-in_world
returns-then-is_none-clause-in_world c = dated_is c.args.self.now
    (subst IsHeld (c.world.ensures ∙ ap (λ (value : DatedValue). value.kernel.world) c.self.view_is)
    c.task.ensures.held)

pub returns-then-only_looks-clause-in_world : goal.returns-then-only_looks-clause-in_world
returns-then-only_looks-clause-in_world c =
    let held : IsHeld c.self.inside.kernel.world = subst IsHeld c.world.ensures c.task.ensures.held in
    let looks : only_looks (call_of c.args.call) ≡ true = sym c.only_looks.ensures ∙ c.if-only_looks.true in
    looked_in_world (the_view c.self.inside) held c.args.name.now (call_of c.args.call) c.call.new.self looks
    c.call.result c.call.ensures.ends c.call.ensures.change

pub returns-in_err-permit-clause-in_world : goal.returns-in_err-permit-clause-in_world
returns-in_err-permit-clause-in_world c = dated_is c.args.self.now
    (subst IsHeld (c.world.ensures ∙ ap (λ (value : DatedValue). value.kernel.world) c.self.view_is)
    c.task.ensures.held)
