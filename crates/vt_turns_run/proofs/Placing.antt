-- Where lines stand.
use Rattle.std.proofs.Common.{◌≡◌, refl, sym, ap, subst, ◌∙◌, ℕ, leb, ltb, Bool, true, false, cond, ◌||◌, List, length, Option, Some, None, is_some, arith, ◌⊎◌, inl, inr, IfOk, Result, Ok, Err}
use Rattle.std.specs.declared.alloc.AllocError.{AllocError}
use Rattle.vt_spec.proofs.Common.{Call as CallMeant, Nobody, Someone, TaskName, Version, Who, denial, is_silent, nat_tests}
use Rattle.vt_spec.specs.declared.errors.Deny.{Deny}
use Rattle.vt_spec.specs.declared.errors.Rule.TheVariants.{S1, S5}
use Rattle.vt_spec.specs.Language.Calls.{Directive}
use Rattle.vt_spec.specs.Language.Limits.{longest_line}
use Rattle.vt_spec.specs.Language.Script.{Request, overlays, request_of}
use Rattle.vt_spec.specs.Language.Script.Request.{Asking, Calling}
use Rattle.vt_spec.specs.Machine.Turns.{Queued, queued, queued_line, queued_request, refused_line}
use Rattle.vt_spec.specs.Machine.Turns.Item.{Asks}
use Rattle.vt_line.specs.Lines.{IsReadingOf, IsSilent, IsSpoken}
use Rattle.vt_line.specs.declared.line.Line.TheVariants.{Call as LineCall}
use Rattle.vt_request.specs.Requests.{call_of}
use Rattle.vt_request.specs.declared.request.Call.{Call as CallCode}
use Rattle.vt_queues.specs.CallLines.{call_asked_for, is_call_line, line_call}
use Rattle.vt_queues.specs.QueuesValue.{called}
use Rattle.vt_turns_run.specs.Placed.{IsAsked, IsOfNoGrammar, refused_short}
use Rattle.vt_turns_run.specs.declared.lines.Asked.{Asked}
use Rattle.vt_turns_run.specs.declared.lines.Asked.TheVariants.{Call, Nothing}

module _ (version : Version) (number : ℕ) (text : List ℕ) where
  -- the queue of a line, by its request
  abbrev by_request : Option Request → Option (Who × Queued)
  by_request request = queued_request number text request

  fits : IsSpoken text → ltb longest_line (length text) ≡ false
  fits spoken = grind (arith, nat_tests, spoken.0)

  asked_so : IsSpoken text → (request : Option Request) → request_of (overlays version) text ≡ request
      → queued_line (overlays version) (number, text) ≡ by_request request
  asked_so spoken request is =
      ap (λ b. cond b None (by_request (request_of (overlays version) text)))
      (ap (λ b. b || is_silent text) (fits spoken) ∙ spoken.1)
      ∙ ap by_request is

  -- a line that has no answer stands nowhere,
  pub silent_nowhere : IsSilent text → queued_line (overlays version) (number, text) ≡ None
  silent_nowhere silent = by (ltb longest_line (length text))
    where
      by : (long : Bool) → cond (long || is_silent text) None (by_request (request_of (overlays version) text)) ≡ None
      by true = refl
      by false = ap (λ b. cond b None (by_request (request_of (overlays version) text))) silent.1

  -- one that is not of the grammar in the queue of its first token, unless it is too long,
  pub refused_there : IsOfNoGrammar version text
      → refused_short number text ≡ queued_line (overlays version) (number, text)
  refused_there (inl long) =
      let over : ltb longest_line (length text) ≡ true = grind (arith, nat_tests) in
      ap (λ b. cond b None (refused_line number text)) over
      ∙ sym (ap (λ b. cond (b || is_silent text) None (by_request (request_of (overlays version) text))) over)
  refused_there (inr spoken) =
      ap (λ b. cond b None (refused_line number text)) (fits spoken.0) ∙ sym (asked_so spoken.0 None spoken.1)

  -- a directive in that of `!`,
  pub directive_there : IsSpoken text → (directive : Directive)
      → request_of (overlays version) text ≡ Some (Asking directive)
      → Some (queued number Nobody (Asks directive)) ≡ queued_line (overlays version) (number, text)
  directive_there spoken directive is = sym (asked_so spoken (Some (Asking directive)) is)

  -- and a call in that of its task.
  pub call_there : IsSpoken text → (task : TaskName) (call : CallMeant)
      → request_of (overlays version) text ≡ Some (Calling task call)
      → Some (queued number (Someone task) (called (line_call version text)))
      ≡ queued_line (overlays version) (number, text)
  call_there spoken task call is =
      ap (λ asked. Some (queued number (Someone task) (called asked))) (ap call_asked_for is)
      ∙ sym (asked_so spoken (Some (Calling task call)) is)

-- it is a line that asks for a call
pub call_line_so : (version : Version) (text : List ℕ) → IsSpoken text → (task : TaskName) (call : CallMeant)
    → request_of (overlays version) text ≡ Some (Calling task call) → is_call_line version text ≡ true
call_line_so version text spoken task call is =
    let short : leb (length text) longest_line ≡ true = grind (arith, nat_tests, spoken.0) in
    cc (short, spoken.1, ap (λ request. is_some (call_asked_for request)) is)

-- what a line is refused by that asks for nothing
pub asks_nothing : (version : Version) (text : List ℕ) (deny : Deny) (result : Result Asked AllocError)
    → IfOk result (λ asked. (asked ≡ Nothing) × (deny.rule ≡ S1)) → (deny ≡ denial S1) ⊎ (deny ≡ denial S5)
    → (deny ≡ denial S1 → IsOfNoGrammar version text) → IfOk result (IsAsked version text)
asks_nothing version text deny (Err error) is by says = is
asks_nothing version text deny (Ok asked) is (inl one) says = subst (IsAsked version text) (sym is.0) (says one)
asks_nothing version text deny (Ok asked) is (inr five) says =
    let rules_differ : S1 ≡ S5 = sym is.1 ∙ ap (λ (d : Deny). d.rule) five in
    absurd (cc rules_differ)

-- a line that asks for a call of a task
pub asks_call : (version : Version) (text : List ℕ) (task : TaskName) (call : CallCode)
    → IsReadingOf version text (LineCall task call) → IsAsked version text (Call task)
asks_call version text task call is = (is.0, call_of call, is.1)
