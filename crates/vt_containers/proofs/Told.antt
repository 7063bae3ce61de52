-- A script writes the same for the calls of a sealed set, beside the lines of others and where these are empty.
use Rattle.std.proofs.Common.{◌≡◌, refl, sym, ap, subst, ◌∙◌, ℕ, nat_eq, nat_lt, Bool, true, false, true≢false, cond, not, List, [], ◌∷◌, ◌++◌, Option, None, Some, Result, append_assoc, filter, flat_map, length, map, ◌+◌, ◌||◌, arith}
use Rattle.vt_spec.proofs.Common.{Answered, Asking, Calling, Grammar, Outcome, Request, Silent, Step, TaskName, World, denial, denied, first_world, is_among, is_silent, line_step, line_step_by, lines_of, list_all, longest_line, numbers_for, reply_line, request_of, requested, same_name, step_text, step_world, text_from}
use Rattle.vt_spec.proofs.Options.{cons-first, cons-rest}
use Rattle.vt_spec.specs.declared.errors.Deny.{Deny}
use Rattle.vt_spec.specs.declared.errors.Rule.TheVariants.{S1}
use Rattle.vt_spec.specs.Language.Answers.{Answer}
use Rattle.vt_spec.specs.Language.Calls.{Call}
use Rattle.vt_spec.specs.Language.Script.{overlays}
use Rattle.vt_spec.specs.Machine.Run.{script_text_as, world_from}
use Rattle.vt_laws_rules.proofs.denials.Unchanged.{directive_changes_nothing}
use Rattle.vt_laws_members.specs.Changes.Changes.{grown}
use Rattle.vt_laws_containers.proofs.sealed_scripts.scripts.AsIfAlone.{sealed_sets_are_answered_as_if_alone}
use Rattle.vt_laws_containers.specs.Scripts.{Asked, Stand, asked, asked_by, moved, next, outcome_at, own_answers, stand_after, told}
use Rattle.vt_containers.specs.Scripts.{SealedSetsAreToldAsIfAlone, TextsAreWrittenByLines, is_theirs, own_line, own_written, without_others, written, written_at}

-- A run stands here.
abbrev stand : ℕ → World ℕ → List TaskName → Stand
stand number world names = record { number = number; world = world; names = names }

-- A line does what it asks for: its call is the policy's, and without one the world stays.
abbrev DoesAsked : Stand → Asked → Step ℕ → Type 0
DoesAsked at None step = step_world at.world step ≡ at.world
DoesAsked at (Some call) step = step ≡ Answered (outcome_at at call.0 call.1)

module _ (grammar : Grammar) where
  -- the step of a line that is handed its numbers
  abbrev step_at : Stand → List ℕ → Step ℕ
  step_at at line = line_step nat_eq grammar at.world line (Some (numbers_for at.number))

  -- by what the line is
  abbrev step_by : Stand → (long silent : Bool) → Option Request → Step ℕ
  step_by at true silent request = Answered (denied at.world (denial S1))
  step_by at false true request = Silent
  step_by at false false request = Answered (requested nat_eq at.world request (numbers_for at.number))

  step_is : (at : Stand) (line : List ℕ) (long silent : Bool)
      → line_step_by nat_eq long silent grammar at.world line (Some (numbers_for at.number))
      ≡ step_by at long silent (request_of grammar line)
  step_is at line true silent = refl
  step_is at line false true = refl
  step_is at line false false = refl

  does : (at : Stand) (long silent : Bool) (request : Option Request)
      → DoesAsked at (cond (long || silent) None (asked_by request)) (step_by at long silent request)
  does at true silent request = refl
  does at false true request = refl
  does at false false None = refl
  does at false false (Some (Calling name call)) = refl
  does at false false (Some (Asking directive)) = directive_changes_nothing at.world directive

  line_does : (at : Stand) (line : List ℕ) → DoesAsked at (asked grammar line) (step_at at line)
  line_does at line = subst (DoesAsked at (asked grammar line))
      (sym (step_is at line (nat_lt longest_line (length line)) (is_silent line)))
      (does at (nat_lt longest_line (length line)) (is_silent line) (request_of grammar line))

  -- where the run stands next
  moved_world : (b : Bool) (at : Stand) (name : TaskName) (call : Call)
      → (moved true b at name call).world ≡ (outcome_at at name call).world
  moved_world true at name call = refl
  moved_world false at name call = refl

  moved_number : (b : Bool) (at : Stand) (name : TaskName) (call : Call)
      → (moved true b at name call).number ≡ at.number + 1
  moved_number true at name call = refl
  moved_number false at name call = refl

  next_world : (at : Stand) (a : Asked) (step : Step ℕ) → DoesAsked at a step
      → (next true at a).world ≡ step_world at.world step
  next_world at None step left = sym left
  next_world at (Some call) step is =
      moved_world (is_among same_name call.0 at.names) at call.0 call.1 ∙ sym (ap (step_world at.world) is)

  next_number : (at : Stand) (a : Asked) → (next true at a).number ≡ at.number + 1
  next_number at None = refl
  next_number at (Some call) = moved_number (is_among same_name call.0 at.names) at call.0 call.1

  -- the text of lines is what they write
  text_is : (lines : List (List ℕ)) (at : Stand)
      → text_from grammar at.world at.number lines [] ≡ flat_map (λ line. line.1) (written grammar at lines)
  text_is [] at = refl
  text_is (line ∷ lines) at =
      let after = next true at (asked grammar line) in
      let world = next_world at (asked grammar line) (step_at at line) (line_does at line) in
      ap (λ rest. written_at grammar at line ++ rest)
      (ap (λ w. text_from grammar w (at.number + 1) lines []) (sym world)
      ∙ ap (λ n. text_from grammar after.world n lines []) (sym (next_number at (asked grammar line)))
      ∙ text_is lines after)

  -- where no line is refused memory, none is said to be
  none_refused : (lines : List (List ℕ)) (refused : List Bool) (world : World ℕ) (number : ℕ)
      → list_all not refused ≡ true
      → text_from grammar world number lines refused ≡ text_from grammar world number lines []
  none_refused [] refused world number none = refl
  none_refused (line ∷ lines) [] world number none = refl
  none_refused (line ∷ lines) (true ∷ refused) world number none = absurd (true≢false (sym none))
  none_refused (line ∷ lines) (false ∷ refused) world number none =
      let step = line_step nat_eq grammar world line (Some (numbers_for number)) in
      ap (λ rest. step_text number step ++ rest)
      (none_refused lines refused (step_world world step) (number + 1) none)

  -- the text of lines, and of those behind them
  text-append : (before lines : List (List ℕ)) (world : World ℕ) (number : ℕ)
      → text_from grammar world number (before ++ lines) []
      ≡ text_from grammar world number before []
      ++ text_from grammar (world_from grammar world number before) (number + length before) lines []
  text-append [] lines world number = ap (λ n. text_from grammar world n lines []) (omega arith)
  text-append (line ∷ before) lines world number =
      let step = line_step nat_eq grammar world line (Some (numbers_for number)) in
      let after = step_world world step in
      ap (λ rest. step_text number step ++ rest) (text-append before lines after (number + 1)
      ∙ ap (λ n. text_from grammar after (number + 1) before []
      ++ text_from grammar (world_from grammar after (number + 1) before) n lines []) (omega arith))
      ∙ sym (append_assoc (step_text number step) _ _)

-- The replies to the calls of the set, with the calls of others or without them.

abbrev replied_by : ℕ → (theirs : Bool) → Outcome ℕ → List (List ℕ)
replied_by number theirs outcome = map (reply_line number) (told theirs outcome)

abbrev replied : Stand → Asked → List (List ℕ)
replied at None = []
replied at (Some call) = replied_by at.number (is_among same_name call.0 at.names) (outcome_at at call.0 call.1)

abbrev replies : (others : Bool) → Stand → List Asked → List (List ℕ)
replies others at [] = []
replies others at (call ∷ calls) = replied at call ++ replies others (next others at call) calls

module _ (grammar : Grammar) where
  -- the lines of the set write them
  own_is : (lines : List (List ℕ)) (at : Stand)
      → own_written grammar at lines ≡ replies true at (map (asked grammar) lines)
  own_is [] at = refl
  own_is (line ∷ lines) at = by (asked grammar line) (line_does grammar at line) (own_is lines (next true at (asked grammar line)))
    where
      by_side : (b : Bool) (after : Stand) (outcome : Outcome ℕ) → step_at grammar at line ≡ Answered outcome
          → own_written grammar after lines ≡ replies true after (map (asked grammar) lines)
          → map (λ one. one.1) (filter (λ one. one.0) ((b, written_at grammar at line) ∷ written grammar after lines))
          ≡ replied_by at.number b outcome ++ replies true after (map (asked grammar) lines)
      by_side true after outcome is rest = ap (λ text. text ∷ own_written grammar after lines) (ap (step_text at.number) is)
          ∙ ap (λ texts. reply_line at.number outcome.answer ∷ texts) rest
      by_side false after outcome is rest = rest

      by : (a : Asked) → DoesAsked at a (step_at grammar at line)
          → own_written grammar (next true at a) lines ≡ replies true (next true at a) (map (asked grammar) lines)
          → map (λ one. one.1) (filter (λ one. one.0)
          ((is_theirs at a, written_at grammar at line) ∷ written grammar (next true at a) lines))
          ≡ replied at a ++ replies true (next true at a) (map (asked grammar) lines)
      by None led rest = rest
      by (Some call) led rest = by_side (is_among same_name call.0 at.names) (next true at (Some call))
          (outcome_at at call.0 call.1) led rest

  -- where lines of others are empty, they are the replies to the calls of the set alone
  without : (lines : List (List ℕ)) (at : Stand)
      → replies true at (map (asked grammar) (without_others grammar at lines)) ≡ replies false at (map (asked grammar) lines)
  without [] at = refl
  without (line ∷ lines) at = by (without lines) (asked grammar line) refl
    where
      -- what is left of the lines behind
      behind : Stand → List Asked
      behind after = map (asked grammar) (without_others grammar after lines)

      side : ((after : Stand) → replies true after (behind after) ≡ replies false after (map (asked grammar) lines))
          → (call : TaskName × Call) → asked grammar line ≡ Some call
          → (b : Bool) → is_among same_name call.0 at.names ≡ b
          → replied at (asked grammar (cond b line []))
          ++ replies true (next true at (asked grammar (cond b line []))) (behind (moved false b at call.0 call.1))
          ≡ replied_by at.number b (outcome_at at call.0 call.1)
          ++ replies false (moved false b at call.0 call.1) (map (asked grammar) lines)
      side later call is false there = later (moved false false at call.0 call.1)
      side later call is true there =
          let after = moved false true at call.0 call.1 in
          let outcome = outcome_at at call.0 call.1 in
          subst (λ a. replied at a ++ replies true (next true at a) (behind after)
          ≡ replied_by at.number true outcome ++ replies false after (map (asked grammar) lines)) (sym is)
          (subst (λ b. replied_by at.number b outcome ++ replies true (moved true b at call.0 call.1) (behind after)
          ≡ replied_by at.number true outcome ++ replies false after (map (asked grammar) lines)) (sym there)
          (ap (λ texts. reply_line at.number outcome.answer ∷ texts) (later after)))

      by : ((after : Stand) → replies true after (behind after) ≡ replies false after (map (asked grammar) lines))
          → (a : Asked) → asked grammar line ≡ a
          → replied at (asked grammar (own_line at a line))
          ++ replies true (next true at (asked grammar (own_line at a line))) (behind (next false at a))
          ≡ replied at a ++ replies false (next false at a) (map (asked grammar) lines)
      by later None is = subst (λ a. replied at a ++ replies true (next true at a) (behind (next false at None))
          ≡ replies false (next false at None) (map (asked grammar) lines)) (sym is) (later (next false at None))
      by later (Some call) is = side later call is (is_among same_name call.0 at.names) refl

-- Answers that are the same in both runs are in lines of the same numbers.
abbrev AreAlike : List Asked → Type 0
AreAlike calls =
    (number : ℕ) (names : List TaskName) (full lone : World ℕ)
    → own_answers true (stand number full names) calls ≡ own_answers false (stand number lone names) calls
    → replies true (stand number full names) calls ≡ replies false (stand number lone names) calls

module _ (calls : List Asked) (later : AreAlike calls) (number : ℕ) (names : List TaskName) (full lone : World ℕ)
    (name : TaskName) (call : Call) where
  abbrev of_full : Outcome ℕ
  of_full = outcome_at (stand number full names) name call

  abbrev of_lone : Outcome ℕ
  of_lone = outcome_at (stand number lone names) name call

  abbrev set : Result Answer Deny → List TaskName
  set answer = grown names name call answer

  theirs : (answer other : Result Answer Deny) → answer ≡ other
      → own_answers true (stand (number + 1) of_full.world (set answer)) calls
      ≡ own_answers false (stand (number + 1) of_lone.world (set other)) calls
      → (reply_line number answer ∷ replies true (stand (number + 1) of_full.world (set answer)) calls)
      ≡ (reply_line number other ∷ replies false (stand (number + 1) of_lone.world (set other)) calls)
  theirs answer other is = subst (λ other.
      own_answers true (stand (number + 1) of_full.world (set answer)) calls
      ≡ own_answers false (stand (number + 1) of_lone.world (set other)) calls
      → (reply_line number answer ∷ replies true (stand (number + 1) of_full.world (set answer)) calls)
      ≡ (reply_line number other ∷ replies false (stand (number + 1) of_lone.world (set other)) calls)) is
      (λ rest. ap (λ texts. reply_line number answer ∷ texts)
      (later (number + 1) (set answer) of_full.world of_lone.world rest))

  by_side : (b : Bool) → told b of_full ++ own_answers true (moved true b (stand number full names) name call) calls
      ≡ told b of_lone ++ own_answers false (moved false b (stand number lone names) name call) calls
      → replied_by number b of_full ++ replies true (moved true b (stand number full names) name call) calls
      ≡ replied_by number b of_lone ++ replies false (moved false b (stand number lone names) name call) calls
  by_side false same = later (number + 1) names of_full.world lone same
  by_side true same = theirs of_full.answer of_lone.answer (cons-first _ _ _ _ same) (cons-rest _ _ _ _ same)

alike : (calls : List Asked) → AreAlike calls
alike [] number names full lone same = refl
alike (None ∷ calls) number names full lone same = alike calls (number + 1) names full lone same
alike (Some call ∷ calls) number names full lone same =
    by_side calls (alike calls) number names full lone call.0 call.1 (is_among same_name call.0 names) same

pub texts_are_written_by_lines : TextsAreWrittenByLines
unfolding script_text_as
texts_are_written_by_lines version script before lines names refused is none =
    let grammar = overlays version in
    none_refused grammar (lines_of script) refused first_world 1 none
    ∙ ap (λ all. text_from grammar first_world 1 all []) is
    ∙ text-append grammar before lines first_world 1
    ∙ ap (λ text. text_from grammar first_world 1 before [] ++ text) (text_is grammar lines (stand_after grammar before names))

pub sealed_sets_are_told_as_if_alone : SealedSetsAreToldAsIfAlone
sealed_sets_are_told_as_if_alone at grammar lines stands stays =
    own_is grammar lines at
    ∙ alike (map (asked grammar) lines) at.number at.names at.world at.world
    (sealed_sets_are_answered_as_if_alone at grammar lines stands stays)
    ∙ sym (without grammar lines at) ∙ sym (own_is grammar (without_others grammar at lines) at)
