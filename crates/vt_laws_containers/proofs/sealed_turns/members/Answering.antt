-- A turn of theirs that answers a call which ends alike in the part is a turn of their part.
use Rattle.std.proofs.Common.{arith, ◌≡◌, refl, sym, ap, subst, ◌∙◌, ℕ, nat_eq, Bool, true, false, true≢false, not, List, [], ◌∷◌, Some, None, Ok, Err, Result, filter, is_ok, is_some, map}
use Rattle.vt_spec.proofs.Common.{Among, Answer, Call, Calls, Fresh, Progress, Queue, Queued, Sched, Someone, TaskName, Turned, World, among-from_filter, common_steps, contains_from_among, first_of_list, is_among, none_is_some, policy, queue_of, same_name, shortened, turn, without_progress}
use Rattle.vt_laws_containers.proofs.Common.{Deny, Shape, Turns, denials_end_alike, filters_swapped, grown, is_task_call, turn_is, turn_shape}
use Rattle.vt_laws_containers.specs.SealedTurns.MembersTurns.{TheirAnswersAreOfTheGrownPart, TheirAnswersAreOfTheirPart, TheirRefusalsAreOfTheirPart, TurnsAlikeFor, part_of_sched}
use Rattle.vt_laws_containers.specs.SealedTurns.OutsidersTurns.{their_calls}
use Rattle.vt_laws_containers.proofs.sealed_turns.members.Grown.{were_of_the_set}
use Rattle.vt_laws_containers.proofs.sealed_turns.members.TurnsAlike.{their_turns_answer_alike}

-- what a turn that answers a call leaves
record IsAnswered (sched : Sched ℕ) (name : TaskName) (line : ℕ) (call : Call) (fresh : Fresh ℕ) (turned : Turned ℕ)
    : Type 0 where
  reply : turned.reply ≡ Some (record { line = line; answer = (policy nat_eq fresh sched.world name call).answer })
  world : turned.sched.world ≡ (policy nat_eq fresh sched.world name call).world
  queues : turned.sched.queues ≡ map (shortened (Someone name)) sched.queues
  under_way : turned.sched.under_way ≡ without_progress name sched.under_way

module _ (sched : Sched ℕ) (name : TaskName) {line : ℕ} {call : Call} (fresh : Fresh ℕ)
    (first : first_of_list (queue_of sched.queues (Someone name)) ≡ Some (record { line = line; item = Calls call }))
  where
    no_reply : (turned : Turned ℕ) → is_some turned.reply ≡ true → turned.reply ≡ None → ⊥
    no_reply turned answers none = cc

    left_under_way : (turned : Turned ℕ) → is_some turned.reply ≡ true → Shape sched (Someone name) (Some fresh) turned
        → turned.sched.under_way ≡ without_progress name sched.under_way
    left_under_way turned answers known = grind (arith, common_steps, none_is_some, true≢false, is_task_call, no_reply)

    by_items : (turned : Turned ℕ) → is_some turned.reply ≡ true → Shape sched (Someone name) (Some fresh) turned
        → (items : List Queued) → first_of_list items ≡ Some (record { line = line; item = Calls call })
        → Turns sched (Someone name) (Some fresh) items turned → IsAnswered sched name line call fresh turned
    by_items turned answers shape items e goes = grind (arith, common_steps, none_is_some, no_reply, left_under_way)

    answered : is_some (turn nat_eq sched (Someone name) (Some fresh)).reply ≡ true
        → IsAnswered sched name line call fresh (turn nat_eq sched (Someone name) (Some fresh))
    answered answers = by_items _ answers (turn_shape sched _ _) _ first (turn_is sched (Someone name) (Some fresh))

-- a test that passes no more than another keeps the same of what that one kept
filter_less : {A : Type 0} (p r : A → Bool) (xs : List A) → ((x : A) → Among x xs → p x ≡ true → r x ≡ true)
    → filter p (filter r xs) ≡ filter p xs
filter_less p r [] less = refl
filter_less {A} p r (x ∷ xs) less = grind (arith, common_steps, true≢false, filter_less p r xs)

-- Of a set what is left is the same, whether others than theirs are left out before, if each call under way of the set
-- is one of theirs.
calls_left_of : (names set : List TaskName) (name : TaskName) (under_way : List (Progress ℕ))
    → ((p : Progress ℕ) → Among p under_way → is_among same_name p.task set ≡ true
    → is_among same_name p.task names ≡ true) → their_calls set (without_progress name (their_calls names under_way))
    ≡ their_calls set (without_progress name under_way)
calls_left_of names set name under_way were =
    let own = λ (p : Progress ℕ). is_among same_name p.task names in
    let of_set = λ (p : Progress ℕ). is_among same_name p.task set in
    let others = λ (p : Progress ℕ). not (same_name name p.task) in
    ap (filter of_set) (sym (filters_swapped own others under_way))
    ∙ filter_less of_set own (filter others under_way) (λ p m. were p (among-from_filter others under_way p m).0)

abbrev sched_of : World ℕ → List Queue → List (Progress ℕ) → Sched ℕ
sched_of world queues under_way = record { world = world; queues = queues; under_way = under_way }

same_sched : (a b : World ℕ) (q r : List Queue) (u v : List (Progress ℕ)) → a ≡ b → q ≡ r → u ≡ v
    → sched_of a q u ≡ sched_of b r v
same_sched a b q r u v e f g = cc

pub their_answers_are_of_the_grown_part : TheirAnswersAreOfTheGrownPart
their_answers_are_of_the_grown_part sched names name call fresh turns ends =
    let part : Sched ℕ = part_of_sched names sched in
    let set : List TaskName = grown names name call (policy nat_eq fresh sched.world name call).answer in
    let one = answered sched name fresh turns.first turns.answers in
    let two = answered part name fresh turns.first
    (their_turns_answer_alike sched names name (Some fresh) turns.has turns.theirs ∙ turns.answers) in
    let whole : Sched ℕ = (turn nat_eq sched (Someone name) (Some fresh)).sched in
    let in_part : Sched ℕ = (turn nat_eq part (Someone name) (Some fresh)).sched in record {
      reply = cc (two.reply, ends.answer, one.reply);
      left = same_sched _ _ _ _ _ _ (cc (two.world, ends.part, one.world)) (two.queues ∙ sym one.queues)
          (ap (their_calls set) two.under_way
          ∙ calls_left_of names set name _ (λ p m. were_of_the_set names name call fresh turns.has.is p.task
          (turns.has.holds.there p (contains_from_among _ p m))) ∙ ap (their_calls set) (sym one.under_way));
    }

pub their_answers_are_of_their_part : TheirAnswersAreOfTheirPart
their_answers_are_of_their_part sched names name call fresh turns ends stay =
    subst (λ (set : List TaskName). TurnsAlikeFor sched names set name (Some fresh)) stay
    (their_answers_are_of_the_grown_part sched names name call fresh turns ends)

pub their_refusals_are_of_their_part : TheirRefusalsAreOfTheirPart
their_refusals_are_of_their_part sched names name call fresh turns theirs refused =
    their_answers_are_of_their_part sched names name call fresh turns
    (denials_end_alike sched.world names name call theirs fresh fresh refused)
    (by (policy nat_eq fresh sched.world name call).answer refused)
  where
    by : (answer : Result Answer Deny) → is_ok answer ≡ false → grown names name call answer ≡ names
    by (Ok answer) e = absurd (true≢false e)
    by (Err deny) e = refl
