use Rattle.std.proofs.Common.{Err, IfErr, IfOk, Ok, Result, length, refl, subst, ◌≤◌}
use Rattle.vt_spec.proofs.Common.{Call, TaskName}
use Rattle.vt_spec.specs.declared.errors.Deny.{Deny}
use Rattle.vt_policy.specs.PermitValue.{PermitValue}
use Rattle.vt_request.specs.Requests.{call_of}
use Rattle.vt_answers.specs.Ends as any
use Rattle.vt_world.specs.Held.{IsHeld}
use Rattle.vt_calls.proofs.Numbered.{ends_numbered}
use Rattle.vt_calls.specs.KernelValue.{KernelValue, kernel_world}
use Rattle.vt_calls.specs.Meets.{Ends}
use Rattle.vt_calls.specs.Permitted.{IsPermitted}
use Rattle.vt_calls.specs.contracts.calls.Kernel.{the_view}
use Rattle.vt_calls.proofs.calls.Kernel.permit.Goals as goal

-- a refusal changes nothing
refused : (kernel : KernelValue) → IsHeld kernel.world → (name : TaskName) (call : Call) (result : Result PermitValue Deny)
    → IfErr result (λ deny. Ends kernel.world name call (Err deny) kernel.world)
    → IfErr result (λ deny. any.Ends kernel_world kernel name call (Err deny) kernel)
refused kernel held name call (Ok permit) ends = tt
refused kernel held name call (Err deny) ends = ends_numbered kernel held name call kernel (Err deny) ends (λ same. refl)

pub returns-clause-ok : goal.returns-clause-ok
returns-clause-ok c = subst (λ (kernel : KernelValue). IfOk c.permit_of.result (λ permit.
    IsPermitted kernel.world kernel.change c.args.name.now (call_of c.args.call) permit)) c.self.view_is
    c.permit_of.ensures.ok

pub returns-clause-err : goal.returns-clause-err
returns-clause-err c = subst (λ (kernel : KernelValue). IfErr c.permit_of.result (λ deny.
    any.Ends kernel_world kernel c.args.name.now (call_of c.args.call) (Err deny) kernel)) c.self.view_is
    (refused (the_view c.self.inside) c.permit_of.ensures.held c.args.name.now (call_of c.args.call) c.permit_of.result
    c.permit_of.ensures.err)

pub returns-clause-born : goal.returns-clause-born
returns-clause-born c = subst (λ (kernel : KernelValue). length kernel.world.tasks ≤ kernel.world.births)
    c.self.view_is c.permit_of.ensures.born
