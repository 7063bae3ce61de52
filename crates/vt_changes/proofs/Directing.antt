-- Directives are answered as without change numbers.
use Rattle.std.proofs.Common.{◌≡◌, ap, ◌∙◌, nat_eq, Result, inl, inr}
use Rattle.vt_spec.proofs.Common.{Directive, directed}
use Rattle.vt_spec.specs.declared.errors.Deny.{Deny}
use Rattle.vt_laws_worlds.proofs.one_text.answered.AlikeAnswered.{any_same_worlds_are_directed_alike}
use Rattle.vt_request.specs.declared.answer.Answer.{Answer}
use Rattle.vt_answers.specs.Ends.{Directs}
use Rattle.vt_calls.specs.KernelValue.{kernel_world}
use Rattle.vt_changes.specs.DatedValue.{DatedValue, dated_world, dates_of}
use Rattle.vt_changes.proofs.SameDates.{same_dated}

pub directs_dated : (seen value : DatedValue) → seen ≡ value → (directive : Directive) (result : Result Answer Deny)
    → Directs (kernel_world seen.kernel) directive result → Directs (dated_world value) directive result
directs_dated seen value is directive result (inr short) = inr short
directs_dated seen value is directive result (inl told) = inl (told
    ∙ (any_same_worlds_are_directed_alike (kernel_world seen.kernel) (dated_world seen)
    (same_dated (dates_of seen) (kernel_world seen.kernel)) directive).answer
    ∙ ap (λ (other : DatedValue). (directed nat_eq (dated_world other) directive).answer) is)
