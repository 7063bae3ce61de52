-- What code answers of a judgement: a refusal, a permit, or want of memory.
use Rattle.std.proofs.Common.{◌≡◌, subst, ℕ, Bool, true, false, List, [], ◌∷◌, Result, Ok, Err, inl, inr, ◌∙◌}
use Rattle.vt_spec.proofs.Common.{Call, Judgement, MoveMount, Permit, Task, denial, unless}
use Rattle.vt_spec.specs.declared.errors.Deny.{Deny}
use Rattle.vt_spec.specs.declared.errors.Rule.TheVariants.{M10, M9, S5}
use Rattle.vt_permits.specs.Memory.{IsAfterReceivers, Judges, JudgesAlike, JudgesByReceivers}
use Rattle.vt_permits.specs.declared.grant.Grant.{Grant}

pub refused : (task : Task ℕ) (judged : Judgement ℕ) (deny : Deny) → judged ≡ Err deny → Judges task judged (Err deny)
refused task (Ok permit) deny e = absurd cc
refused task (Err refusal) deny e = cc

pub without_memory : (task : Task ℕ) (judged : Judgement ℕ) (permit : Permit ℕ) (deny : Deny)
    → judged ≡ Ok permit → deny ≡ denial S5 → Judges task judged (Err deny)
without_memory task (Ok other) permit deny e memory = memory
without_memory task (Err refusal) permit deny e memory = absurd cc

pub refused_before : (call : Call) (task : Task ℕ) (judged : Judgement ℕ) (deny : Deny) → judged ≡ Err deny
    → JudgesByReceivers call task judged (Err deny)
refused_before call task (Ok permit) deny e = absurd cc
refused_before call task (Err refusal) deny e = inl cc

-- want of memory for the receivers, before what is asked after them: ENOSPC of mount(2)
pub no_receivers : (call : Call) (task : Task ℕ) (judged : Judgement ℕ) (overfull : Bool) (permit : Permit ℕ)
    (deny : Deny) → IsAfterReceivers call (denial M9)
    → judged ≡ unless ((overfull, M9) ∷ []) (Ok permit) → deny ≡ denial S5
    → JudgesByReceivers call task judged (Err deny)
no_receivers call task (Ok other) overfull permit deny late e memory = memory
no_receivers call task (Err refusal) true permit deny late e memory =
    inr (memory, subst (IsAfterReceivers call) (let same : denial M9 ≡ refusal = cc in same) late)
no_receivers call task (Err refusal) false permit deny late e memory = absurd cc

-- the same of a move, with its last rule: EINVAL
pub no_receivers_of_move : (source path : List ℕ) (task : Task ℕ) (judged : Judgement ℕ) (overfull rootless : Bool)
    (permit : Permit ℕ) (deny : Deny)
    → judged ≡ unless ((overfull, M9) ∷ (rootless, M10) ∷ []) (Ok permit) → deny ≡ denial S5
    → JudgesByReceivers (MoveMount source path) task judged (Err deny)
no_receivers_of_move source path task (Ok other) overfull rootless permit deny e memory = memory
no_receivers_of_move source path task (Err refusal) true rootless permit deny e memory = inr (memory, inl cc)
no_receivers_of_move source path task (Err refusal) false true permit deny e memory = inr (memory, inr cc)
no_receivers_of_move source path task (Err refusal) false false permit deny e memory = absurd cc

-- of one judgement code answers as of the same one, written otherwise
pub answers_alike : (task : Task ℕ) (judged other : Judgement ℕ) (result : Result Grant Deny) → judged ≡ other
    → JudgesAlike task other result → JudgesAlike task judged result
answers_alike task judged other result e h = rw e h

pub answers : (task : Task ℕ) (judged other : Judgement ℕ) (result : Result Grant Deny) → judged ≡ other
    → Judges task other result → Judges task judged result
answers task judged other result e h = rw e h

-- what is judged without want of memory is judged
pub answers_without : (task : Task ℕ) (judged other : Judgement ℕ) (result : Result Grant Deny) → judged ≡ other
    → JudgesAlike task other result → Judges task judged result
answers_without task judged other (Ok permit) e h = e ∙ h
answers_without task judged other (Err deny) e h = refused task judged deny (e ∙ h)
