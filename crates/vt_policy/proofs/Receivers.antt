-- What code answers of a judgement, where a call may gather receivers.
use Rattle.std.proofs.Common.{◌≡◌, refl, ℕ, nat_eq, Bool, List, Result, Ok, Err, inl}
use Rattle.vt_spec.proofs.Common.{Access, Call, Creation, Exclusive, Judgement, Looks, NoCreation, OpenFile, OrCreate, Permit, Task, judge, judging}
use Rattle.vt_spec.specs.declared.errors.Deny.{Deny}
use Rattle.vt_permits.specs.Memory.{Judges, JudgesAlike, JudgesByReceivers}
use Rattle.vt_permits.specs.declared.grant.Grant.{Grant}
use Rattle.vt_request.specs.declared.request.DescriptorCall.{DescriptorCall}
use Rattle.vt_request.specs.declared.request.DescriptorCall.TheVariants as descriptor
use Rattle.vt_request.specs.Requests.{access_of, creation_of, descriptor_call_of}
use Rattle.vt_rules.proofs.Judged.{refused_before}
use Rattle.vt_policy.specs.Judged.{judge_by_looks}

-- the very judgement, or want of memory in place of a permit
pub by_receivers : (call : Call) (task : Task ℕ) (judged : Judgement ℕ) (result : Result Grant Deny)
    → Judges task judged result → JudgesByReceivers call task judged result
by_receivers call task judged (Ok grant) answer = answer
by_receivers call task (Ok permit) (Err deny) answer = answer
by_receivers call task (Err refusal) (Err deny) answer = inl answer

-- the very judgement
pub alike_by_receivers : (call : Call) (task : Task ℕ) (judged : Judgement ℕ) (result : Result Grant Deny)
    → JudgesAlike task judged result → JudgesByReceivers call task judged result
alike_by_receivers call task judged (Ok grant) answer = answer
alike_by_receivers call task judged (Err deny) answer = refused_before call task judged deny answer

-- Of open(2) M9 is not asked, nor of close(2).
opened_by_looks : (looks : Looks ℕ) (overfills : Permit ℕ → Bool) (task : Task ℕ) (path : List ℕ) (access : Access)
    (creation : Creation) → judge nat_eq looks overfills task (OpenFile path access creation)
    ≡ judge_by_looks looks task (OpenFile path access creation)
unfolding judging
opened_by_looks looks overfills task path access NoCreation = refl
opened_by_looks looks overfills task path access (OrCreate mode) = refl
opened_by_looks looks overfills task path access (Exclusive mode) = refl

pub descriptors_by_looks : (looks : Looks ℕ) (overfills : Permit ℕ → Bool) (task : Task ℕ) (call : DescriptorCall)
    → judge nat_eq looks overfills task (descriptor_call_of call) ≡ judge_by_looks looks task (descriptor_call_of call)
unfolding judging
descriptors_by_looks looks overfills task (descriptor.Open path access creation) =
    opened_by_looks looks overfills task path.now (access_of access) (creation_of creation)
descriptors_by_looks looks overfills task (descriptor.Close number) = refl
