-- One line is answered by its step.
use Rattle.std.proofs.Common.{◌≡◌, ◌⊎◌, ℕ, ◌≤◌, ◌<◌, Bool, true, false, List, [], length, Option, Some, None, Result, Ok, Err, refl, sym, ap, ◌∙◌, subst, nat_eq, nat_lt, inl, inr, arith, IsSomeAnd, take_all}
use Rattle.vt_spec.proofs.Common.{Answered, Asking, Call, Calling, Chmod, Chown, Close, Directive, Drop, Exec, Exit, Fresh, Lstat, Opaque, Remount, Request, SameWorlds, SetType, Silent, Stat, TaskName, ToPrivate, ToShared, ToSlave, ToUnbindable, Umask, Version, World, denial, denied, is_silent, line_step, line_step_by, longest_line, nat_tests, policy, reply_line, request_of, requested, step_text, step_world}
use Rattle.vt_spec.specs.declared.errors.Deny.{Deny}
use Rattle.vt_spec.specs.declared.errors.Rule.TheVariants.{S1, S5}
use Rattle.vt_spec.specs.Language.Script.{overlays}
use Rattle.vt_laws_rules.specs.Numbers.{Allotment}
use Rattle.vt_laws_rules.proofs.rules.OwnRules.{denial_changes_nothing}
use Rattle.vt_laws_rules.proofs.denials.Unchanged.{directive_changes_nothing}
use Rattle.vt_laws_trees.specs.Runs.Handed.{may_be_given}
use Rattle.vt_laws_trees.specs.Runs.Runs.{ServesInHand}
use Rattle.vt_laws_trees.proofs.runs.answered.AlikeWorlds.{sameness_is_an_equivalence}
use Rattle.vt_io.specs.declared.output.Sink.{Ghosts}
use Rattle.vt_io.specs.Sink.{Wrote, WroteFront, Prints}
use Rattle.vt_io.specs.LineBuffer.{LineSoFar, Holds}
use Rattle.vt_io.proofs.Printing.{Wrote-nothing}
use Rattle.vt_request.specs.declared.answer.Answer.{Answer}
use Rattle.vt_request.specs.Answers.{result_of}
use Rattle.vt_line.specs.Calls as words
use Rattle.vt_line.specs.Lines.{IsSilent, IsSpoken}
use Rattle.vt_permits.specs.Allocating as calls
use Rattle.vt_answers.specs.Ends.{Directs, Ends, HasNumbers, Meets}
use Rattle.vt_script.specs.Handed.{IsHanded, step_of}
use Rattle.vt_script.specs.Refused.{MayFail}
use Rattle.vt_script.specs.Session.{IsLeftBy, Replied, Replies}

-- a line that is not too long is kept whole
pub kept_whole : (line : List ℕ) (kept : LineSoFar) → Holds line kept → kept.overlong ≡ false → kept.bytes ≡ line
kept_whole line kept held short =
    let fits : nat_lt 8192 (length line) ≡ false = sym held.overlong ∙ short in
    held.bytes ∙ take_all 8192 line (grind (arith, nat_tests, fits))

not_long : (line : List ℕ) → length line ≤ longest_line → nat_lt longest_line (length line) ≡ false
not_long line fits = grind (arith, nat_tests)

module _ (version : Version) where
  -- the step of a line by its length, and by whether it has an answer
  step_too_long : (world : World ℕ) (line : List ℕ) (handed : Option (Fresh ℕ)) → nat_lt longest_line (length line) ≡ true
      → line_step nat_eq (overlays version) world line handed ≡ Answered (denied world (denial S1))
  step_too_long world line handed long = ap
      (λ b. line_step_by nat_eq b (is_silent line) (overlays version) world line handed) long

  step_silent : (world : World ℕ) (line : List ℕ) (handed : Option (Fresh ℕ)) → IsSilent line
      → line_step nat_eq (overlays version) world line handed ≡ Silent
  step_silent world line handed silent =
      ap (λ b. line_step_by nat_eq b (is_silent line) (overlays version) world line handed) (not_long line silent.0)
      ∙ ap (λ b. line_step_by nat_eq false b (overlays version) world line handed) silent.1

  pub step_refused : (world : World ℕ) (line : List ℕ) → IsSpoken line
      → line_step nat_eq (overlays version) world line None ≡ Answered (denied world (denial S5))
  step_refused world line spoken =
      ap (λ b. line_step_by nat_eq b (is_silent line) (overlays version) world line None) (not_long line spoken.0)
      ∙ ap (λ b. line_step_by nat_eq false b (overlays version) world line None) spoken.1

  pub step_spoken : (world : World ℕ) (line : List ℕ) (fresh : Fresh ℕ) (request : Option Request) → IsSpoken line
      → request_of (overlays version) line ≡ request
      → line_step nat_eq (overlays version) world line (Some fresh) ≡ Answered (requested nat_eq world request fresh)
  step_spoken world line fresh request spoken asks =
      ap (λ b. line_step_by nat_eq b (is_silent line) (overlays version) world line (Some fresh)) (not_long line spoken.0)
      ∙ ap (λ b. line_step_by nat_eq false b (overlays version) world line (Some fresh)) spoken.1
      ∙ ap (λ r. Answered (requested nat_eq world r fresh)) asks

-- what is kept of a line's words may fail
words_may_fail : (world : World ℕ) (fresh : Fresh ℕ) (asked : Option Request) → IsSomeAnd asked words.TakesMemory
    → IsSomeAnd asked (MayFail world fresh)
words_may_fail world fresh None takes = absurd takes
words_may_fail world fresh (Some (Calling task call)) takes = inl takes
words_may_fail world fresh (Some (Asking directive)) takes = tt

-- a call takes memory or takes none
is_or_not : (b : Bool) → (b ≡ true) ⊎ (¬ (b ≡ true))
is_or_not true = inl refl
is_or_not false = inr (λ e. cc)

takes_or_not : (call : Call) → calls.TakesMemory call ⊎ (¬ calls.TakesMemory call)
takes_or_not (Stat path) = inr (λ takes. takes)
takes_or_not (Lstat path) = inr (λ takes. takes)
takes_or_not (Exec path) = inr (λ takes. takes)
takes_or_not (Chmod path mode) = inr (λ takes. takes)
takes_or_not (Chown path uid gid) = inr (λ takes. takes)
takes_or_not (Opaque path mark) = inr (λ takes. takes)
takes_or_not (Umask mode) = inr (λ takes. takes)
takes_or_not (Drop which) = inr (λ takes. takes)
takes_or_not (Close descriptor) = inr (λ takes. takes)
takes_or_not Exit = inr (λ takes. takes)
takes_or_not (Remount path flags) = inr (λ takes. takes)
takes_or_not (SetType path ToShared recursive) = inl tt
takes_or_not (SetType path ToSlave recursive) = is_or_not recursive
takes_or_not (SetType path ToPrivate recursive) = is_or_not recursive
takes_or_not (SetType path ToUnbindable recursive) = is_or_not recursive
takes_or_not call = inl tt

-- equal worlds are the same
same_worlds : (one other : World ℕ) → one ≡ other → SameWorlds one other
same_worlds one other e = subst (SameWorlds one) e (sameness_is_an_equivalence.itself one)

module _ {W : Type 0} (version : Version) (sink : Ghosts W) where
  -- a line without an answer
  pub replied_silent : (world : World ℕ) (line : List ℕ) (number : ℕ) (x : W) → HasNumbers world → IsSilent line
      → Replied sink version world line number world x x
  replied_silent world line number x some silent =
      let step = step_silent version world line (Some some.0.new) silent in
      record {
        handed = Some some.0;
        serves = some.1;
        world = same_worlds (step_world world (step_of version world line (Some some.0))) world (ap (step_world world) step);
        numbers = some;
        wrote = subst (λ s. Wrote sink x x (step_text number s)) (sym step) (Wrote-nothing sink x);
      }

  -- a reply is the text of a step that leaves this world
  replies_step : {T E : Type 0} (r : Result T E) (world new : World ℕ) (line text : List ℕ) (number : ℕ)
      (handed : Option Allotment) (x y : W) → IsHanded version world line handed →
      text ≡ step_text number (step_of version world line handed)
      → SameWorlds (step_world world (step_of version world line handed)) new → HasNumbers new →
      Prints sink text r x y → Replies sink version world line number r new x y
  replies_step (Ok t) world new line text number handed x y serves same left some wrote =
      record { handed = handed; serves = serves; world = left; numbers = some; wrote = subst (Wrote sink x y) same wrote }
  replies_step (Err fault) world new line text number handed x y serves same left some wrote =
      record { handed = handed; serves = serves; wrote = subst (WroteFront sink x y) same wrote }

  -- the reply to a line that is refused, and changes nothing
  replies_denied : {T E : Type 0} (r : Result T E) (world : World ℕ) (line : List ℕ) (number : ℕ)
      (handed : Option Allotment) (deny : Deny) (x y : W) → HasNumbers world → IsHanded version world line handed →
      step_of version world line handed ≡ Answered (denied world deny) → Prints sink (reply_line number (Err deny)) r x y
      → Replies sink version world line number r world x y
  replies_denied r world line number handed deny x y some serves step wrote =
      replies_step r world world line _ number handed x y serves (ap (step_text number) (sym step))
      (same_worlds (step_world world (step_of version world line handed)) world (ap (step_world world) step)) some wrote

  -- the reply to a line that is too long
  pub replies_too_long : {T E : Type 0} (r : Result T E) (world : World ℕ) (line : List ℕ) (kept : LineSoFar)
      (number : ℕ) (x y : W) → HasNumbers world → Holds line kept → kept.overlong ≡ true
      → Prints sink (reply_line number (Err (denial S1))) r x y → Replies sink version world line number r world x y
  replies_too_long r world line kept number x y some held long wrote =
      replies_denied r world line number (Some some.0) (denial S1) x y some some.1
      (step_too_long version world line (Some some.0.new) (sym held.overlong ∙ long)) wrote

  -- the reply to a line that is no request, or was refused memory
  pub replies_unread : {T E : Type 0} (r : Result T E) (world : World ℕ) (line : List ℕ) (number : ℕ) (deny : Deny)
      (x y : W) → HasNumbers world → (deny ≡ denial S1) ⊎ (deny ≡ denial S5) →
      (deny ≡ denial S1 → (longest_line < length line) ⊎ (IsSpoken line × (request_of (overlays version) line ≡ None)))
      → (deny ≡ denial S5 → IsSpoken line × IsSomeAnd (request_of (overlays version) line) words.TakesMemory) →
      Prints sink (reply_line number (Err deny)) r x y → Replies sink version world line number r world x y
  replies_unread r world line number deny x y some refused bad memory wrote = elim refused [
    | inl is ↦ elim (bad is) [
      | inl long ↦ replies_denied r world line number (Some some.0) deny x y some some.1
          (step_too_long version world line (Some some.0.new) (grind (arith, nat_tests))
          ∙ ap (λ d. Answered (denied world d)) (sym is)) wrote
      | inr none ↦ replies_denied r world line number (Some some.0) deny x y some some.1
          (step_spoken version world line some.0.new None none.0 none.1
          ∙ ap (λ d. Answered (denied world d)) (sym is)) wrote
    ]
    | inr is ↦ replies_denied r world line number None deny x y some
        (some.0, some.1, ((memory is).0, words_may_fail world some.0.new (request_of (overlays version) line) (memory is).1))
        (step_refused version world line (memory is).0 ∙ ap (λ d. Answered (denied world d)) (sym is)) wrote
  ]

  module _ {V : Type 0} (seen : V → World ℕ) where
    -- the reply to a call that met its outcome, and that answers as the policy if it takes no memory
    replies_met : {T E : Type 0} (r : Result T E) (old new : V) (line : List ℕ) (number : ℕ) (allotment : Allotment)
        (task : TaskName) (call : Call) (answer : Result Answer Deny) (x y : W) →
        ServesInHand may_be_given (seen old) allotment → IsSpoken line
        → request_of (overlays version) line ≡ Some (Calling task call) →
        Meets seen call (policy nat_eq allotment.new (seen old) task call) answer old new →
        (¬ calls.TakesMemory call → result_of answer ≡ (policy nat_eq allotment.new (seen old) task call).answer) →
        HasNumbers (seen new) →
        Prints sink (reply_line number (result_of answer)) r x y → Replies sink version (seen old) line number r (seen new) x y
    replies_met r old new line number allotment task call (Ok answer) x y serves spoken asks meets exact some wrote =
        let step = step_spoken version (seen old) line allotment.new _ spoken asks in
        replies_step r (seen old) (seen new) line _ number (Some allotment) x y serves
        (ap (reply_line number) (sym meets.0) ∙ ap (step_text number) (sym step))
        (subst (λ step. SameWorlds (step_world (seen old) step) (seen new)) (sym step) meets.1) some wrote
    replies_met r old new line number allotment task call (Err deny) x y serves spoken asks meets exact some wrote =
        elim (takes_or_not call) [
          | inl takes ↦ elim meets.0 [
            | inl is ↦ by_rule is
            | inr memory ↦
                let step = step_refused version (seen old) line spoken in
                replies_step r (seen old) (seen new) line _ number None x y (
                  allotment,
                  serves,
                  (
                    spoken,
                    subst
                        (λ asked. IsSomeAnd asked (MayFail (seen old) allotment.new)) (sym asks) (inr (takes, memory.1)),
                  ),
                )
                (ap (λ d. reply_line number (Err d)) memory.0 ∙ ap (step_text number) (sym step))
                (same_worlds (step_world (seen old) (step_of version (seen old) line None)) (seen new)
                (ap (step_world (seen old)) step ∙ ap seen (sym meets.1))) some wrote
          ]
          | inr none ↦ by_rule (sym (exact none))
        ]
      where
        by_rule : (policy nat_eq allotment.new (seen old) task call).answer ≡ Err deny
            → Replies sink version (seen old) line number r (seen new) x y
        by_rule is =
            let step = step_spoken version (seen old) line allotment.new _ spoken asks in
            let left = denial_changes_nothing allotment.new (seen old) task call deny is in
            replies_step r (seen old) (seen new) line _ number (Some allotment) x y serves
            (ap (reply_line number) (sym is) ∙ ap (step_text number) (sym step))
            (same_worlds (step_world (seen old) (step_of version (seen old) line (Some allotment))) (seen new)
            (ap (step_world (seen old)) step ∙ left ∙ ap seen (sym meets.1))) some wrote

    -- the reply to a call
    pub replies_call : {T E : Type 0} (r : Result T E) (old new : V) (line : List ℕ) (number : ℕ) (task : TaskName)
        (call : Call) (answer : Result Answer Deny) (x y : W) →
        IsSpoken line → request_of (overlays version) line ≡ Some (Calling task call) → Ends seen old task call answer new →
        Prints sink (reply_line number (result_of answer)) r x y → Replies sink version (seen old) line number r (seen new) x y
    replies_call r old new line number task call answer x y spoken asks ends wrote =
        replies_met r old new line number ends.allotment task call answer x y ends.serves spoken asks ends.outcome
        ends.memory ends.numbers wrote

  -- the reply to a directive, which changes nothing
  pub replies_direct : {T E : Type 0} (r : Result T E) (world : World ℕ) (line : List ℕ) (number : ℕ)
      (directive : Directive) (answer : Result Answer Deny) (x y : W) → HasNumbers world →
      IsSpoken line → request_of (overlays version) line ≡ Some (Asking directive) → Directs world directive answer →
      Prints sink (reply_line number (result_of answer)) r x y → Replies sink version world line number r world x y
  replies_direct r world line number directive answer x y some spoken asks (inl told) wrote =
      let step = step_spoken version world line some.0.new _ spoken asks in
      let left : step_world world (step_of version world line (Some some.0)) ≡ world =
      ap (step_world world) step ∙ directive_changes_nothing world directive in
      replies_step r world world line _ number (Some some.0) x y some.1
      (ap (reply_line number) told ∙ ap (step_text number) (sym step))
      (same_worlds (step_world world (step_of version world line (Some some.0))) world left) some wrote
  replies_direct r world line number directive answer x y some spoken asks (inr short) wrote =
      replies_denied r world line number None (denial S5) x y some
      (some.0, some.1, (spoken, subst (λ asked. IsSomeAnd asked (MayFail world some.0.new)) (sym asks) tt))
      (step_refused version world line spoken)
      (subst (λ answer. Prints sink (reply_line number (result_of answer)) r x y) short.0 wrote)

-- The world that a line leaves, whatever is told of it

-- a sink that tells nothing
abbrev nowhere : Ghosts Unit
nowhere = record { tells = λ _. ⊥; written = λ _. []; failures = λ _. 0 }

abbrev done : Result Unit Unit
done = Ok tt

untold : (text : List ℕ) → Wrote nowhere tt tt text
untold text = record { still_tells = λ tells. tells; appended = λ tells. absurd tells; failures_kept = refl }

module _ (version : Version) where
  left_by : (old new : World ℕ) (line : List ℕ) → Replied nowhere version old line 0 new tt tt
      → IsLeftBy version old line new
  left_by old new line replied = (replied.handed, replied.serves, replied.world)

  -- a line without an answer
  pub silent_leaves : (world : World ℕ) (line : List ℕ) → HasNumbers world → IsSilent line
      → IsLeftBy version world line world
  silent_leaves world line some silent =
      left_by world world line (replied_silent version nowhere world line 0 tt some silent)

  -- a line that is no request, or was refused memory
  pub unread_leaves : (world : World ℕ) (line : List ℕ) (deny : Deny) → HasNumbers world
      → (deny ≡ denial S1) ⊎ (deny ≡ denial S5)
      → (deny ≡ denial S1 → (longest_line < length line) ⊎ (IsSpoken line × (request_of (overlays version) line ≡ None)))
      → (deny ≡ denial S5 → IsSpoken line × IsSomeAnd (request_of (overlays version) line) words.TakesMemory)
      → IsLeftBy version world line world
  unread_leaves world line deny some refused bad memory =
      left_by world world line (replies_unread version nowhere done world line 0 deny tt tt some refused bad
      memory (untold (reply_line 0 (Err deny))))

  -- a directive
  pub direct_leaves : (world : World ℕ) (line : List ℕ) (directive : Directive) (answer : Result Answer Deny)
      → HasNumbers world → IsSpoken line → request_of (overlays version) line ≡ Some (Asking directive)
      → Directs world directive answer → IsLeftBy version world line world
  direct_leaves world line directive answer some spoken asks directs =
      left_by world world line (replies_direct version nowhere done world line 0 directive answer tt tt some
      spoken asks directs (untold (reply_line 0 (result_of answer))))

  -- a call
  pub call_leaves : {V : Type 0} (seen : V → World ℕ) (old new : V) (line : List ℕ) (task : TaskName) (call : Call)
      (answer : Result Answer Deny) → IsSpoken line → request_of (overlays version) line ≡ Some (Calling task call)
      → Ends seen old task call answer new → IsLeftBy version (seen old) line (seen new)
  call_leaves seen old new line task call answer spoken asks ends =
      left_by (seen old) (seen new) line (replies_call version nowhere seen done old new line 0 task call
      answer tt tt spoken asks ends (untold (reply_line 0 (result_of answer))))
