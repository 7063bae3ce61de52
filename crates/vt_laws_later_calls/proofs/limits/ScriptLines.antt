-- The text of a script by its lines, where no allocation fails.
use Rattle.std.proofs.Common.{◌≡◌, refl, sym, ap, subst, ◌∙◌, ℕ, zero, suc, nat_eq, nat_lt, ◌+◌, ◌<◌, ◌≤◌, false, List, [], ◌∷◌, ◌++◌, Some, Ok, Err, append_assoc, length, arith, codes, decimal, append-nil}
use Rattle.vt_spec.proofs.Common.{Answered, Call, Calling, Done, Fresh, Grammar, Outcome, Serves, TaskName, World, common_steps, denial, denied, granted, is_silent, line_step, line_step_by, longest_line, most_mounts, numbers_for, policy, reply_line, request_of, requested, step_world, text_from}
use Rattle.vt_laws_later_calls.proofs.Common.{M9, digits}
use Rattle.vt_laws_later_calls.specs.Limits.FullNamespaces.{numbered}
use Rattle.vt_laws_later_calls.proofs.limits.Supplies.{HasNumbersUntil, line_adds_its_numbers, next_numbers_serve}

-- a line so many times, before other lines
unfoldable pub lines_repeated : ℕ → List ℕ → List (List ℕ) → List (List ℕ)
lines_repeated zero line lines = lines
lines_repeated (suc count) line lines = line ∷ lines_repeated count line lines

-- so many times, and then more times
pub more_repeated : (count more : ℕ) (line : List ℕ) (lines : List (List ℕ))
    → lines_repeated (count + more) line lines ≡ lines_repeated count line (lines_repeated more line lines)
unfolding lines_repeated
more_repeated zero more line lines =
    let same : 0 + more ≡ more = omega arith in
    ap (λ n. lines_repeated n line lines) same
more_repeated (suc count) more line lines =
    let same : suc count + more ≡ suc (count + more) = omega arith in
    ap (λ n. lines_repeated n line lines) same ∙ ap (λ rest. line ∷ rest) (more_repeated count more line lines)

-- the answers from a number on begin with that of its line
pub numbered_from : (number count : ℕ) (answer : List ℕ)
    → numbered number (suc count) answer ≡ decimal number ++ answer ++ numbered (number + 1) count answer
unfolding numbered
numbered_from number count answer = refl

-- the answers `ok` and M9, printed
pub ok_is_printed : (number : ℕ) → reply_line number (Ok Done) ≡ decimal number ++ codes " ok\n"
ok_is_printed number =
    append-nil (decimal number ++ codes " ok" ++ codes "\n") ∙ append_assoc _ (codes " ok") (codes "\n")

-- a refusal by M9, printed
pub full_is_printed : (number : ℕ)
    → reply_line number (Err (denial M9)) ≡ decimal number ++ codes " deny 28 ENOSPC M9\n"
unfolding digits
full_is_printed number = append_assoc _ _ (codes "\n")

-- the line asks for a call of a task
pub record AsksFor (grammar : Grammar) (line : List ℕ) (name : TaskName) (call : Call) : Type 0 where
  pub short : nat_lt longest_line (length line) ≡ false
  pub loud : is_silent line ≡ false
  pub asks : request_of grammar line ≡ Some (Calling name call)

module _ (grammar : Grammar) (line : List ℕ) (name : TaskName) (call : Call)
    (asked : AsksFor grammar line name call) where
  -- its step is the policy's outcome
  step_is_outcome : (world : World ℕ) (fresh : Fresh ℕ)
      → line_step nat_eq grammar world line (Some fresh) ≡ Answered (policy nat_eq fresh world name call)
  step_is_outcome world fresh =
      (λ i. line_step_by nat_eq (asked.short i) (asked.loud i) grammar world line (Some fresh))
      ∙ ap (λ request. Answered (requested nat_eq world request fresh)) asked.asks

  -- the text goes on from the world of that outcome
  pub text_goes_on : (world : World ℕ) (last : ℕ) (outcome : Outcome ℕ) (lines : List (List ℕ))
      → policy nat_eq (numbers_for (suc last)) world name call ≡ outcome
      → text_from grammar world (suc last) (line ∷ lines) []
      ≡ reply_line (suc last) outcome.answer ++ text_from grammar outcome.world (suc (suc last)) lines []
  text_goes_on world last outcome lines is = grind (arith, common_steps, step_is_outcome)

  -- after the line the world has its numbers too
  pub numbers_go_on : (world : World ℕ) (last : ℕ) (outcome : Outcome ℕ) → HasNumbersUntil last world
      → policy nat_eq (numbers_for (suc last)) world name call ≡ outcome → HasNumbersUntil (suc last) outcome.world
  numbers_go_on world last outcome has is = subst (λ step. HasNumbersUntil (suc last) (step_world world step))
      (step_is_outcome world (numbers_for (suc last)) ∙ ap (λ o. Answered o) is)
      (line_adds_its_numbers grammar world last line has)

  -- a line that is refused in a world is refused each time that it comes again
  pub text_of_refusals : (world : World ℕ)
      → ((fresh : Fresh ℕ) → policy nat_eq fresh world name call ≡ denied world (denial M9)) → (count last : ℕ)
      → text_from grammar world (suc last) (lines_repeated count line []) []
      ≡ numbered (suc last) count (codes " deny 28 ENOSPC M9\n")
  unfolding numbered lines_repeated
  text_of_refusals world refuses zero last = refl
  text_of_refusals world refuses (suc count) last =
      let next : suc (suc last) ≡ suc last + 1 = omega arith in
      text_goes_on world last (denied world (denial M9)) (lines_repeated count line [])
      (refuses (numbers_for (suc last)))
      ∙ (λ i. full_is_printed (suc last) i ++ text_of_refusals world refuses count (suc last) i)
      ∙ ap (λ number. decimal (suc last) ++ codes " deny 28 ENOSPC M9\n"
      ++ numbered number count (codes " deny 28 ENOSPC M9\n")) next

  -- worlds with so many mounts, in which the call is granted while there is room for one more
  module _ (State : ℕ → World ℕ → Type 0)
      (grows : (count : ℕ) (world : World ℕ) (fresh : Fresh ℕ) → State count world → Serves nat_eq world fresh
      → count < most_mounts
      → (later : World ℕ) × (policy nat_eq fresh world name call ≡ granted Done later) × State (suc count) later) where
    -- what so many lines lead to, and the text of their answers
    pub record Fills (count last more : ℕ) (world : World ℕ) (lines : List (List ℕ)) : Type 0 where
      pub later : World ℕ
      pub state : State (count + more) later
      pub has : HasNumbersUntil (last + more) later
      pub text : text_from grammar world (suc last) (lines_repeated more line lines) []
          ≡ numbered (suc last) more (codes " ok\n") ++ text_from grammar later (suc (last + more)) lines []

    -- while there is room, each line is granted
    pub fills : (more count last : ℕ) (world : World ℕ) (lines : List (List ℕ)) → State count world
        → HasNumbersUntil last world → count + more ≤ most_mounts → Fills count last more world lines
    unfolding numbered lines_repeated
    fills zero count last world lines state has room =
        let none : count ≡ count + 0 = omega arith in
        let same : last ≡ last + 0 = omega arith in
        record {
          later = world;
          state = subst (λ n. State n world) none state;
          has = subst (λ n. HasNumbersUntil n world) same has;
          text = ap (λ n. text_from grammar world (suc n) lines []) same;
        }
    fills (suc more) count last world lines state has room =
        let next = grows count world (numbers_for (suc last)) state (next_numbers_serve world last has) (omega arith) in
        let rest = fills more (suc count) (suc last) next.0 lines next.2
        (numbers_go_on world last (granted Done next.0) has next.1) (omega arith) in
        let counted : suc count + more ≡ count + suc more = omega arith in
        let reached : suc last + more ≡ last + suc more = omega arith in
        let following : suc (suc last) ≡ suc last + 1 = omega arith in
        record {
          later = rest.later;
          state = subst (λ n. State n rest.later) counted rest.state;
          has = subst (λ n. HasNumbersUntil n rest.later) reached rest.has;
          text = text_goes_on world last (granted Done next.0) (lines_repeated more line lines) next.1
              ∙ (λ i. ok_is_printed (suc last) i ++ rest.text i)
              ∙ sym (append_assoc (decimal (suc last) ++ codes " ok\n") (numbered (suc (suc last)) more (codes " ok\n"))
              (text_from grammar rest.later (suc (suc last + more)) lines []))
              ∙ (λ i. decimal (suc last) ++ codes " ok\n" ++ numbered (following i) more (codes " ok\n")
              ++ text_from grammar rest.later (suc (reached i)) lines []);
        }
