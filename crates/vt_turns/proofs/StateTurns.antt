-- The turns of a world and the calls under way in it.
use Rattle.std.proofs.Common.{length, map, nat_le, not, ◌&&◌, ◌≡◌, refl, sym, ap, subst, ◌∙◌, ◌⊎◌, inl, inr, ℕ, nat_eq, Bool, true, false, true≢false, List, Option, Some, None, Ok, Err, Result, is_some}
use Rattle.vt_spec.specs.declared.errors.Deny.{Deny}
use Rattle.vt_spec.specs.declared.errors.Rule.TheVariants.{S2, S5}
use Rattle.vt_spec.proofs.Common.{Asks, Call, Calls, Directive, Fresh, Item, Nobody, Progress, Queue, Refused, Reply, Someone, TaskName, Turned, Who, World, call_turn, denial, directed, item_turn, policy}
use Rattle.vt_spec.specs.Language.Answers.{Answer as AnswerMeant}
use Rattle.vt_spec.specs.Machine.Turns.{without_progress}
use Rattle.vt_laws_rules.specs.Numbers.{Allotment}
use Rattle.vt_laws_rules.proofs.rules.OwnRules.{denial_changes_nothing}
use Rattle.vt_laws_rules.proofs.denials.Unchanged.{directive_changes_nothing}
use Rattle.vt_laws_trees.proofs.runs.answered.AlikeWorlds.{sameness_is_an_equivalence}
use Rattle.vt_laws_turns.specs.Dated.{SameDated}
use Rattle.vt_request.specs.declared.answer.Answer.{Answer}
use Rattle.vt_request.specs.Answers.{result_of}
use Rattle.vt_answers.specs.Ends.{Directs, MayBeRefusedMemory}
use Rattle.vt_turns.specs.Ends.{EndsDated, IsReady}
use Rattle.vt_turns.specs.Going.{left_under_way, walked_in}
use Rattle.vt_turns.specs.Kept.{AllKeepWords, Walks, calls_without, others, progress_of}
use Rattle.vt_turns.specs.SchedValue.{sched_at, under_way_meant}
use Rattle.vt_turns.specs.Turned.{IsTurned, RunsWhole, Turns, allocates}
use Rattle.vt_spec.specs.Language.Limits.{longest_line}
use Rattle.vt_spec.specs.Language.Script.{is_silent}
use Rattle.vt_queues.specs.QueuesValue.{call_in, called}
use Rattle.vt_queues.specs.declared.call_line.CallLine.{CallLine}
use Rattle.vt_turns.specs.declared.state.State.{State}
use Rattle.vt_turns.proofs.CallTurns.{call_turn_is, turned_by}
use Rattle.vt_turns.proofs.KeptWords.{others_keep}
use Rattle.vt_turns.proofs.Mapped.{dropped_meant}

-- the reply to a line
abbrev replied_by : ℕ → Result AnswerMeant Deny → Option Reply
replied_by number answer = Some (record { line = number; answer = answer })

pub dated_itself : (world : World ℕ) → SameDated world world
dated_itself world = record {
  same = sameness_is_an_equivalence.itself world;
  tasks = refl;
  namespaces = refl;
  filesystems = refl;
  change = refl;
}

-- a line that asks for a call has one
three_hold : (a b c : Bool) → (a && b && c) ≡ true → c ≡ true
three_hold true true c holds = holds
three_hold true false c holds = absurd (true≢false (sym holds))
three_hold false b c holds = absurd (true≢false (sym holds))

pub asks_for_one : (line : CallLine) → is_some (call_in line) ≡ true
asks_for_one line = three_hold (nat_le (length line.text.items) longest_line) (not (is_silent line.text.items))
    (is_some (call_in line)) line.asks

with_call : {P : Type 0} (asked : Option Call) → is_some asked ≡ true → ((call : Call) → asked ≡ Some call → P) → P
with_call None there next = absurd (true≢false (sym there))
with_call (Some call) there next = next call refl

module _ {C : Type 0} (seen : C → World ℕ) (old : State C) (ready : IsReady (seen old.world)) where
  still : (now : C) → now ≡ old.world → SameDated (seen old.world) (seen now)
  still now same = subst (λ w. SameDated (seen old.world) (seen w)) (sym same) (dated_itself (seen old.world))

  still_ready : (now : C) → now ≡ old.world → IsReady (seen now)
  still_ready now same = subst (λ w. IsReady (seen w)) (sym same) ready

  left_meant : (name : TaskName) (new : State C) → new.under_way.items ≡ others name old.under_way.items
      → under_way_meant new ≡ without_progress name (under_way_meant old)
  left_meant name new left = ap (map progress_of) left ∙ sym (dropped_meant name old.under_way.items)

  -- A call's turn
  module _ (name : TaskName) (call : Call) (new : State C) where
    abbrev next : Option (Progress ℕ)
    next = walked_in (seen old.world) name call (under_way_meant old)

    abbrev pub call_turns : List Queue → ℕ → Option (Fresh ℕ) → Turned ℕ
    call_turns queues number fresh = call_turn nat_eq (sched_at seen old queues) name number call fresh

    abbrev Ends : Option (Result Answer Deny) → Type 0
    Ends answer = Turns seen call_turns true (Someone name) old answer new

    -- what is left of the call, where that is known
    turned_to : (left : Option (Progress ℕ)) → next ≡ left → (allotment : Allotment) (queues : List Queue) (number : ℕ)
        → turned_by (sched_at seen old queues) name number call allotment.new left
        ≡ call_turns queues number (Some allotment.new)
    turned_to left e allotment queues number =
        ap (turned_by (sched_at seen old queues) name number call allotment.new) (sym e)
        ∙ sym (call_turn_is (sched_at seen old queues) name number call allotment.new)

    -- it goes on in a later turn
    pub goes_on_later : new.world ≡ old.world → is_some next ≡ true
        → under_way_meant new ≡ left_under_way name next (under_way_meant old) → Ends None
    goes_on_later same goes left = by next refl goes left
      where
        by : (progress : Option (Progress ℕ)) → next ≡ progress → is_some progress ≡ true
            → under_way_meant new ≡ left_under_way name progress (under_way_meant old) → Ends None
        by None e goes left = absurd (true≢false (sym goes))
        by (Some progress) e goes left = record {
          given = Some ready.0.0;
          handed = ready.0.1;
          turned = λ queues number. subst (λ t. IsTurned seen t (Someone name) queues number None new)
              (turned_to (Some progress) e ready.0.0 queues number) (record {
                reply = refl;
                queues_left = refl;
                under_way = sym left;
                world = still new.world same;
              });
          ready = still_ready new.world same;
        }

    -- an allocation failed
    pub is_refused_memory : new.world ≡ old.world
        → under_way_meant new ≡ without_progress name (under_way_meant old) → (deny : Deny) → deny ≡ denial S5
        → Ends (Some (Err deny))
    is_refused_memory same left deny is = record {
      given = None;
      handed = refl;
      turned = λ queues number. record {
        reply = ap (λ (d : Deny). replied_by number (Err d)) (sym is);
        queues_left = refl;
        under_way = sym left;
        world = still new.world same;
      };
      ready = still_ready new.world same;
    }

    -- the call is run whole
    pub is_run_whole : (between : C) → between ≡ old.world → (result : Result Answer Deny)
        → EndsDated seen between name call result new.world → is_some next ≡ false
        → under_way_meant new ≡ left_under_way name next (under_way_meant old) → Ends (Some result)
    is_run_whole between same result ends over left =
        by next refl over left result (subst (λ w. EndsDated seen w name call result new.world) same ends)
      where
        whole : next ≡ None → under_way_meant new ≡ without_progress name (under_way_meant old)
            → (allotment : Allotment) → (result : Result Answer Deny)
            → (policy nat_eq allotment.new (seen old.world) name call).answer ≡ result_of result
            → SameDated (policy nat_eq allotment.new (seen old.world) name call).world (seen new.world)
            → (queues : List Queue) (number : ℕ)
            → IsTurned seen (call_turns queues number (Some allotment.new)) (Someone name) queues number (Some result) new
        whole e left allotment result answers leaves queues number =
            subst (λ t. IsTurned seen t (Someone name) queues number (Some result) new)
            (turned_to None e allotment queues number) (record {
              reply = ap (replied_by number) answers;
              queues_left = refl;
              under_way = sym left;
              world = leaves;
            })

        by_result : next ≡ None → under_way_meant new ≡ without_progress name (under_way_meant old)
            → (result : Result Answer Deny) → EndsDated seen old.world name call result new.world → Ends (Some result)
        by_result e left (Ok answer) ends = record {
          given = Some ends.allotment;
          handed = ends.serves;
          turned = whole e left ends.allotment (Ok answer) ends.outcome.0 ends.outcome.1;
          ready = ends.ready;
        }
        by_result e left (Err deny) ends = by_cause ends.outcome.0
          where
            by_cause : ((policy nat_eq ends.allotment.new (seen old.world) name call).answer ≡ Err deny)
                ⊎ ((deny ≡ denial S5) × MayBeRefusedMemory call
                (policy nat_eq ends.allotment.new (seen old.world) name call).answer) → Ends (Some (Err deny))
            by_cause (inl refused) = record {
              given = Some ends.allotment;
              handed = ends.serves;
              turned = whole e left ends.allotment (Err deny) refused
                  (subst (λ w. SameDated w (seen new.world))
                  (sym (denial_changes_nothing ends.allotment.new (seen old.world) name call deny refused))
                  (still new.world ends.outcome.1));
              ready = ends.ready;
            }
            by_cause (inr memory) = is_refused_memory ends.outcome.1 left deny memory.0

        by : (progress : Option (Progress ℕ)) → next ≡ progress → is_some progress ≡ false
            → under_way_meant new ≡ left_under_way name progress (under_way_meant old) → (result : Result Answer Deny)
            → EndsDated seen old.world name call result new.world → Ends (Some result)
        by (Some progress) e over left result ends = absurd (true≢false over)
        by None e over left result ends = by_result e left result ends

  -- Turns of other items

  abbrev pub item_turns : Who → Item → List Queue → ℕ → Option (Fresh ℕ) → Turned ℕ
  item_turns who item queues number fresh = item_turn nat_eq (sched_at seen old queues) who number item fresh

  abbrev Answers : Who → Item → Result Answer Deny → Type 0
  Answers who item result = Turns seen (item_turns who item) (allocates who item) who old (Some result) old

  answers_so : (who : Who) (item : Item) (result : Result Answer Deny)
      → ((queues : List Queue) (number : ℕ) → IsTurned seen (item_turns who item queues number (Some ready.0.0.new)) who queues
      number (Some result) old) → Answers who item result
  answers_so who item result turned = record { given = Some ready.0.0; handed = ready.0.1; turned = turned; ready = ready }

  -- a line that is refused
  refused_so : (who : Who) (deny : Deny) → Answers who (Refused deny) (Err deny)
  refused_so (Someone name) deny = answers_so (Someone name) (Refused deny) (Err deny) (λ queues number. record {
    reply = refl;
    queues_left = refl;
    under_way = refl;
    world = dated_itself (seen old.world);
  })
  refused_so Nobody deny = answers_so Nobody (Refused deny) (Err deny) (λ queues number. record {
    reply = refl;
    queues_left = refl;
    under_way = refl;
    world = dated_itself (seen old.world);
  })

  pub refused_turns : (who : Who) (item : Item) (deny : Deny) → item ≡ Refused deny → Answers who item (Err deny)
  refused_turns who item deny is = subst (λ i. Answers who i (Err deny)) (sym is) (refused_so who deny)

  -- a call in the queue of nobody
  nobodys_so : (call : Call) → Answers Nobody (Calls call) (Err (denial S2))
  nobodys_so call = answers_so Nobody (Calls call) (Err (denial S2)) (λ queues number. record {
    reply = refl;
    queues_left = refl;
    under_way = refl;
    world = dated_itself (seen old.world);
  })

  pub nobodys_turns : (asked : Option Call) → is_some asked ≡ true → (deny : Deny) → deny ≡ denial S2
      → Answers Nobody (called asked) (Err deny)
  nobodys_turns None there deny is = absurd (true≢false (sym there))
  nobodys_turns (Some call) there deny is =
      subst (λ d. Answers Nobody (Calls call) (Err d)) (sym is) (nobodys_so call)

  -- the call that a line in a task's queue asks for
  abbrev LineTurns : TaskName → Option Call → Option (Result Answer Deny) → State C → Type 0
  LineTurns name asked answer new = Turns seen (item_turns (Someone name) (called asked))
      (allocates (Someone name) (called asked)) (Someone name) old answer new

  pub line_turns : (name : TaskName) (asked : Option Call) (call : Call) → asked ≡ Some call
      → (answer : Option (Result Answer Deny)) (new : State C)
      → Turns seen (call_turns name call new) true (Someone name) old answer new → LineTurns name asked answer new
  line_turns name asked call is answer new turns =
      subst (λ a. LineTurns name a answer new) (sym is) turns

  -- The turn of a task's line, by what is left of its call: it goes on,
  module _ (name : TaskName) (line : CallLine) (calls : TaskName → Option Call) (first : calls name ≡ call_in line)
      (between : State C) (same : between.world ≡ old.world) (goes_on : Bool)
      (walks : (call : Call) → call_in line ≡ Some call → calls name ≡ Some call
      → Walks (seen old.world) name call calls old.under_way.items goes_on between.under_way.items) where
    pub line_goes_on : goes_on ≡ true → LineTurns name (call_in line) None between
    line_goes_on goes = with_call (call_in line) (asks_for_one line) (λ call asked.
        let w = walks call asked (first ∙ asked) in
        line_turns name (call_in line) call asked None between
        (goes_on_later name call between same (sym w.going ∙ goes) w.under_way))

    -- or is run whole.
    pub line_is_run : goes_on ≡ false → between.under_way.items ≡ others name old.under_way.items
        → (result : Result Answer Deny) (new : State C)
        → ((call : Call) → call_in line ≡ Some call → RunsWhole seen between.world name call result new.world)
        → map progress_of new.under_way.items ≡ map progress_of between.under_way.items
        → LineTurns name (call_in line) (Some result) new
    line_is_run over left result new ends meant = with_call (call_in line) (asks_for_one line) (λ call asked.
        by call asked (walks call asked (first ∙ asked)) (ends call asked))
      where
        by : (call : Call) → call_in line ≡ Some call
            → Walks (seen old.world) name call calls old.under_way.items goes_on between.under_way.items
            → RunsWhole seen between.world name call result new.world → LineTurns name (call_in line) (Some result) new
        by call asked w (inl ends) = line_turns name (call_in line) call asked (Some result) new
            (is_run_whole name call new between.world same result ends (sym w.going ∙ over) (meant ∙ w.under_way))
        by call asked w (inr memory) = subst (λ (r : Result Answer Deny). LineTurns name (call_in line) (Some r) new)
            (sym memory.0) (line_turns name (call_in line) call asked (Some (Err (denial S5))) new
            (is_refused_memory name call new (memory.1 ∙ same) (meant ∙ left_meant name between left) (denial S5) refl))

  -- an allocation failed
  pub line_is_refused : (name : TaskName) (line : CallLine) (new : State C) → new.world ≡ old.world
      → new.under_way.items ≡ others name old.under_way.items → (deny : Deny) → deny ≡ denial S5
      → LineTurns name (call_in line) (Some (Err deny)) new
  line_is_refused name line new same left deny is = with_call (call_in line) (asks_for_one line) (λ call asked.
      line_turns name (call_in line) call asked (Some (Err deny)) new
      (is_refused_memory name call new same (left_meant name new left) deny is))

  -- a directive
  directive_so : (who : Who) (directive : Directive) (result : Result Answer Deny)
      → Directs (seen old.world) directive result → Answers who (Asks directive) result
  directive_so who directive result told = by who told
    where
      told_world : SameDated (directed nat_eq (seen old.world) directive).world (seen old.world)
      told_world = subst (λ w. SameDated w (seen old.world)) (sym (directive_changes_nothing (seen old.world) directive))
          (dated_itself (seen old.world))

      failed : (w : Who) → allocates w (Asks directive) ≡ true
          → ((queues : List Queue) (number : ℕ)
          → IsTurned seen (item_turns w (Asks directive) queues number None) w queues number (Some (Err (denial S5))) old)
          → result ≡ Err (denial S5) → Answers w (Asks directive) result
      failed w runs turned is = subst (Answers w (Asks directive)) (sym is)
          (record { given = None; handed = runs; turned = turned; ready = ready })

      by : (w : Who) → Directs (seen old.world) directive result → Answers w (Asks directive) result
      by (Someone name) (inl is) = answers_so (Someone name) (Asks directive) result (λ queues number. record {
        reply = ap (replied_by number) (sym is);
        queues_left = refl;
        under_way = refl;
        world = told_world;
      })
      by Nobody (inl is) = answers_so Nobody (Asks directive) result (λ queues number. record {
        reply = ap (replied_by number) (sym is);
        queues_left = refl;
        under_way = refl;
        world = told_world;
      })
      by (Someone name) (inr is) = failed (Someone name) (ap (λ d. allocates (Someone name) (Asks d)) is.1) (λ queues number. record {
        reply = refl;
        queues_left = refl;
        under_way = refl;
        world = dated_itself (seen old.world);
      }) is.0
      by Nobody (inr is) = failed Nobody (ap (λ d. allocates Nobody (Asks d)) is.1) (λ queues number. record {
        reply = refl;
        queues_left = refl;
        under_way = refl;
        world = dated_itself (seen old.world);
      }) is.0

  pub directive_turns : (who : Who) (item : Item) (directive : Directive) → item ≡ Asks directive
      → (result : Result Answer Deny) → Directs (seen old.world) directive result → Answers who item result
  directive_turns who item directive is result told =
      subst (λ i. Answers who i result) (sym is) (directive_so who directive result told)

-- Words that are kept of calls, after a turn of a task's line

module _ {C : Type 0} (seen : C → World ℕ) (old : State C) (name : TaskName) (line : CallLine)
    (calls : TaskName → Option Call) (first : calls name ≡ call_in line)
    (keep : AllKeepWords (seen old.world) calls old.under_way.items) (between : State C)
    (same : between.world ≡ old.world) where
  -- it goes on,
  pub going_keeps : {goes_on : Bool}
      → ((call : Call) → call_in line ≡ Some call → calls name ≡ Some call
      → Walks (seen old.world) name call calls old.under_way.items goes_on between.under_way.items)
      → AllKeepWords (seen between.world) calls between.under_way.items
  going_keeps walks = with_call (call_in line) (asks_for_one line) (λ call asked.
      subst (λ (w : C). AllKeepWords (seen w) calls between.under_way.items) (sym same)
      (walks call asked (first ∙ asked)).words)

  -- or ends
  pub ending_keeps : between.under_way.items ≡ others name old.under_way.items
      → AllKeepWords (seen between.world) (calls_without name calls) between.under_way.items
  ending_keeps left = subst (λ (w : C). AllKeepWords (seen w) (calls_without name calls) between.under_way.items) (sym same)
      (others_keep (seen old.world) name calls old.under_way.items between.under_way.items left keep)
