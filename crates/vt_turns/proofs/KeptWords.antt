-- Words that are kept of calls under way.
use Rattle.std.proofs.Common.{◌≡◌, refl, sym, ap, subst, ◌∙◌, ℕ, nat_eq, not, ◌||◌, Bool, true, false, true≢false, cond, List, [], ◌∷◌, ◌++◌, Option, Some, None, Result, Ok, Err, IfSome, find, is_err, is_some, map, option_map, option_to_list}
use Rattle.std.specs.List.{All}
use Rattle.std.specs.Global.{Vec}
use Rattle.vt_spec.specs.declared.errors.Deny.{Deny}
use Rattle.vt_spec.specs.Lists.{first_of_list, rest_of, then_some}
use Rattle.vt_spec.specs.Machine.Turns.{without_progress}
use Rattle.vt_spec.proofs.Common.{All-cons, All-filter, All-head, All-map, All-nil, All-tail, All-weaker, Call, Item, Nobody, Progress, Queue, Queued, Someone, Task, TaskName, Who, World, looks_of, only_looks, queue_of, routes, same_name, same_name-swapped, same_task_name, shortened}
use Rattle.vt_laws_rules.proofs.denials.Unchanged.{look_changes_nothing}
use Rattle.vt_laws_trees.proofs.runs.answered.AlikeWorlds.{sameness_is_an_equivalence}
use Rattle.vt_laws_turns.proofs.played.Fronts.{shorter}
use Rattle.vt_laws_turns.proofs.same_states.TaskNumbers.{worlds_look_the_same}
use Rattle.vt_laws_turns.specs.Dated.{SameDated}
use Rattle.vt_location.specs.declared.numbers.FilesystemId.{FilesystemId}
use Rattle.vt_request.specs.declared.answer.Answer.{Answer}
use Rattle.vt_queues.specs.QueuesValue.{called}
use Rattle.vt_turns.specs.Ends.{EndsDated}
use Rattle.vt_turns.specs.Going.{AreWords, met_on, next_met, walked_by, walked_in}
use Rattle.vt_turns.specs.Kept.{AllKeepWords, GoesOn, HasFirst, IsOf, IsOfIt, KeepsWords, Walks, call_of_item, calls_after, calls_without, first_call, others, progress_of, without_words}
use Rattle.vt_turns.specs.ProgressValue.{words_meant}
use Rattle.vt_turns.specs.declared.progress.UnderWay.{UnderWay}
use Rattle.vt_turns.proofs.Mapped.{dropped_meant, found_meant}

abbrev pub is_its : TaskName → UnderWay → Bool
is_its name held = same_name name held.progress.task

abbrev Words : Type 0
Words = Vec (Vec FilesystemId)

on-some : {A : Type 0} {P Q : A → Type 0} (o : Option A) → ((a : A) → P a → Q a) → IfSome o P → IfSome o Q
on-some None more p = tt
on-some (Some a) more p = more a p

pub same_call : {one other : Call} → Some one ≡ Some other → one ≡ other
same_call e = cc

-- what is found passes, and has what all have
found_has : {A : Type 0} (test : A → Bool) (P : A → Type 0) (list : List A) (one : A) → find test list ≡ Some one
    → All P list → (test one ≡ true) × P one
found_has test P [] one e all = absurd cc
found_has {A} test P (a ∷ list) one e all = by (found_has test P list one) (test a) refl e
  where
    by : (find test list ≡ Some one → All P list → (test one ≡ true) × P one) → (b : Bool) → test a ≡ b
        → cond b (Some a) (find test list) ≡ Some one → (test one ≡ true) × P one
    by further true passes e =
        let same : a ≡ one = cc in
        subst (λ (x : A). (test x ≡ true) × P x) same (passes, All-head P a list all)
    by further false fails e = further e (All-tail P a list all)

module _ (world : World ℕ) (name : TaskName) (call : Call) (calls : TaskName → Option Call)
    (first : calls name ≡ Some call) where
  -- Words that are kept of the call that is first in a task's queue are its words,
  theirs : (held : UnderWay) → held.progress.task ≡ name → KeepsWords world calls held → IsOf world name call held
  theirs held task keeps = record {
    task = task;
    words = on-some held.words (λ (w : Words) kept.
        subst (λ (c : Call). AreWords world name c (words_meant w))
        (same_call (sym kept.1 ∙ ap calls task ∙ first))
        (subst (λ n. AreWords world n kept.0 (words_meant w)) task kept.2)) keeps;
  }

  -- and so are those of what is found of it.
  pub found_theirs : (list : List UnderWay) (found : Option UnderWay) → found ≡ find (is_its name) list
      → AllKeepWords world calls list → IsOfIt world name call found
  found_theirs list None e all = tt
  found_theirs list (Some held) e all =
      let has = found_has (is_its name) (KeepsWords world calls) list held (sym e) all in
      theirs held (sym (same_task_name name held.progress.task has.0)) has.1

  kept_so : (held : UnderWay) → IsOf world name call held → KeepsWords world calls held
  kept_so held of = on-some held.words (λ (w : Words) are. (
    call,
    ap calls of.task ∙ first,
    subst (λ n. AreWords world n call (words_meant w)) (sym of.task) are,
  )) of.words

  -- What a turn leaves
  module _ (old : List UnderWay) (keep : AllKeepWords world calls old) (found : Option UnderWay)
      (is : found ≡ find (is_its name) old) where
    walked_so : walked_by world name call (option_map progress_of found)
        ≡ walked_in world name call (map progress_of old)
    walked_so = ap (λ (o : Option UnderWay). walked_by world name call (option_map progress_of o)) is
        ∙ ap (walked_by world name call) (sym (found_meant name old))

    abbrev rest : List (Progress ℕ)
    rest = without_progress name (map progress_of old)

    others_still : AllKeepWords world calls (others name old)
    others_still = All-filter (λ (held : UnderWay). not (is_its name held)) (KeepsWords world calls) old keep

    goes_on_so : (left : UnderWay)
        → GoesOn world name call (walked_by world name call (option_map progress_of found)) (Some left)
        → (new : List UnderWay) → new ≡ left ∷ others name old → Walks world name call calls old true new
    goes_on_so left goes new e =
        let next : Some (progress_of left) ≡ walked_in world name call (map progress_of old) =
        goes.0 ∙ walked_so in
        record {
          going = ap is_some next;
          under_way = ap (map progress_of) e
              ∙ ap (λ l. progress_of left ∷ l) (sym (dropped_meant name old))
              ∙ ap (λ (o : Option (Progress ℕ)). option_to_list o ++ rest) next;
          words = subst (AllKeepWords world calls) (sym e)
              (All-cons (KeepsWords world calls) left (others name old) (kept_so left goes.1) others_still);
        }

    ends_so : GoesOn world name call (walked_by world name call (option_map progress_of found)) None
        → (new : List UnderWay) → new ≡ others name old → Walks world name call calls old false new
    ends_so goes new e =
        let next : None ≡ walked_in world name call (map progress_of old) = goes.0 ∙ walked_so in
        record {
          going = ap is_some next;
          under_way = ap (map progress_of) e ∙ sym (dropped_meant name old)
              ∙ ap (λ (o : Option (Progress ℕ)). option_to_list o ++ rest) next;
          words = subst (AllKeepWords world calls) (sym e) others_still;
        }

    -- by what is left of the call
    pub goes_by : (left : Option UnderWay)
        → GoesOn world name call (walked_by world name call (option_map progress_of found)) left
        → (next : UnderWay) → left ≡ Some next → (new : List UnderWay) → new ≡ next ∷ others name old
        → Walks world name call calls old true new
    goes_by left goes next e = goes_on_so next
        (subst (GoesOn world name call (walked_by world name call (option_map progress_of found))) e goes)

    pub ends_by : (left : Option UnderWay)
        → GoesOn world name call (walked_by world name call (option_map progress_of found)) left → left ≡ None
        → (new : List UnderWay) → new ≡ others name old → Walks world name call calls old false new
    ends_by left goes e =
        ends_so (subst (GoesOn world name call (walked_by world name call (option_map progress_of found))) e goes)

-- Calls that are first

-- the words of other tasks' calls stay known
pub others_keep : (world : World ℕ) (name : TaskName) (calls : TaskName → Option Call) (old new : List UnderWay)
    → new ≡ others name old → AllKeepWords world calls old → AllKeepWords world (calls_without name calls) new
others_keep world name calls old new e keep = subst (AllKeepWords world (calls_without name calls)) (sym e) (by old keep)
  where
    other : (held : UnderWay) → is_its name held ≡ false → KeepsWords world calls held
        → KeepsWords world (calls_without name calls) held
    other held apart = on-some held.words (λ (w : Words) kept. (
      kept.0,
      ap (λ b. cond b None (calls held.progress.task)) apart ∙ kept.1,
      kept.2,
    ))

    by : (list : List UnderWay) → AllKeepWords world calls list
        → AllKeepWords world (calls_without name calls) (others name list)
    by [] keep = All-nil (KeepsWords world (calls_without name calls))
    by (held ∷ list) keep =
        by_test (is_its name held) refl (by list (All-tail (KeepsWords world calls) held list keep))
      where
        by_test : (b : Bool) → is_its name held ≡ b
            → AllKeepWords world (calls_without name calls) (others name list)
            → AllKeepWords world (calls_without name calls) (cond (not b) (held ∷ others name list) (others name list))
        by_test true its rest = rest
        by_test false apart rest = All-cons (KeepsWords world (calls_without name calls)) held (others name list)
            (other held apart (All-head (KeepsWords world calls) held list keep)) rest

-- words stay known, where the calls that are known to be first still are
pub firsts_keep : (world : World ℕ) (calls more : TaskName → Option Call)
    → ((name : TaskName) (call : Call) → calls name ≡ Some call → more name ≡ Some call) → (list : List UnderWay)
    → AllKeepWords world calls list → AllKeepWords world more list
firsts_keep world calls more still list keep =
    All-weaker (KeepsWords world calls) (KeepsWords world more) (λ (held : UnderWay).
    on-some held.words (λ (w : Words) kept. (kept.0, still held.progress.task kept.0 kept.1, kept.2))) list keep

-- where what is first is no call, no words of its task's are known
pub no_call_first : (world : World ℕ) (who : Who) (item : Item) (calls : TaskName → Option Call) → call_of_item item ≡ None
    → HasFirst calls who item → (list : List UnderWay) → AllKeepWords world calls list
    → AllKeepWords world (calls_after who true calls) list
no_call_first world Nobody item calls none first list keep = keep
no_call_first world (Someone name) item calls none first list keep =
    firsts_keep world calls (calls_without name calls) still list keep
  where
    still : (other : TaskName) (call : Call) → calls other ≡ Some call → calls_without name calls other ≡ Some call
    still other call e = by (same_name name other) refl
      where
        by : (b : Bool) → same_name name other ≡ b → cond b None (calls other) ≡ Some call
        by true same =
            let there : Some call ≡ None =
            sym e ∙ ap calls (sym (same_task_name name other same)) ∙ first ∙ none in
            absurd cc
        by false apart = e

-- what is first in a queue
pub has_first : (queues : List Queue) (who : Who) (queued : Queued)
    → first_of_list (queue_of queues who) ≡ Some queued → HasFirst (first_call queues) who queued.item
has_first queues (Someone name) queued e =
    ap (λ (o : Option Queued). then_some o (λ (first : Queued). call_of_item first.item)) e
has_first queues Nobody queued e = tt

-- A turn without an answer leaves what is first,
pub unanswered_keep : (world : World ℕ) (who : Who) (calls : TaskName → Option Call) (list : List UnderWay)
    → AllKeepWords world (calls_after who false calls) list → AllKeepWords world calls list
unanswered_keep world (Someone name) calls list keep = keep
unanswered_keep world Nobody calls list keep = keep

abbrev call_at : List Queued → Option Call
call_at items = then_some (first_of_list items) (λ (first : Queued). call_of_item first.item)

still_first : (who : Who) (queues : List Queue) (name : TaskName) (call : Call)
    → calls_after who true (first_call queues) name ≡ Some call
    → first_call (map (shortened who) queues) name ≡ Some call
still_first Nobody queues name call e = ap call_at (shorter Nobody (Someone name) queues) ∙ e
still_first (Someone other) queues name call e = by (same_name other name) refl e
  where
    by : (b : Bool) → same_name other name ≡ b → cond b None (first_call queues name) ≡ Some call
        → first_call (map (shortened (Someone other)) queues) name ≡ Some call
    by true same e = absurd cc
    by false apart e = ap call_at (shorter (Someone other) (Someone name) queues
        ∙ ap (λ b. cond b (rest_of (queue_of queues (Someone name))) (queue_of queues (Someone name)))
        (same_name-swapped other name apart)) ∙ e

-- and one with an answer what is first in other queues.
pub answered_keep : (world : World ℕ) (who : Who) (queues left : List Queue) → left ≡ map (shortened who) queues
    → (list : List UnderWay) → AllKeepWords world (calls_after who true (first_call queues)) list
    → AllKeepWords world (first_call left) list
answered_keep world who queues left e list keep =
    subst (λ (q : List Queue). AllKeepWords world (first_call q) list) (sym e)
    (firsts_keep world (calls_after who true (first_call queues)) (first_call (map (shortened who) queues))
    (still_first who queues) list keep)

-- the call of a line is what is first
pub asked_first : (asked : Option Call) → call_of_item (called asked) ≡ asked
asked_first None = refl
asked_first (Some call) = refl

-- Calls

-- all words are given up
pub all_forgotten : (world : World ℕ) (calls : TaskName → Option Call) (old new : List UnderWay)
    → new ≡ map without_words old → AllKeepWords world calls new
all_forgotten world calls old new e = subst (AllKeepWords world calls) (sym e)
    (All-map (KeepsWords world calls) without_words old (λ k d within. tt))

pub meant_forgotten : (old : List UnderWay) → map progress_of (map without_words old) ≡ map progress_of old
meant_forgotten [] = refl
meant_forgotten (held ∷ list) = ap (λ l. progress_of held ∷ l) (meant_forgotten list)

-- in a world that shows the same, and has the same tasks, calls have the same words
same_words : (old new : World ℕ) → old.tasks ≡ new.tasks → looks_of nat_eq old ≡ looks_of nat_eq new
    → (list : List UnderWay) (calls : TaskName → Option Call) → AllKeepWords old calls list
    → AllKeepWords new calls list
same_words old new tasks looks list calls keep =
    All-weaker (KeepsWords old calls) (KeepsWords new calls) (λ (held : UnderWay).
    on-some held.words (λ (w : Words) kept.
    (kept.0, kept.1, λ walked. kept.2 walked ∙ met_so held.progress.task kept.0 walked))) list keep
  where
    met_so : (who : TaskName) (what : Call) (walked : ℕ) → next_met old who what walked ≡ next_met new who what walked
    met_so who what walked = λ i. then_some (find (λ (task : Task ℕ). same_name who task.name) (tasks i))
        (λ (task : Task ℕ). met_on (routes nat_eq (looks i) task what) walked)

module _ {C : Type 0} (seen : C → World ℕ) (old new : C) (name : TaskName) (call : Call) where
  -- a call that is refused, or only looks, leaves a world that shows the same
  pub words_stay : (result : Result Answer Deny) → EndsDated seen old name call result new
      → (only_looks call || is_err result) ≡ true → (list : List UnderWay) (calls : TaskName → Option Call)
      → AllKeepWords (seen old) calls list → AllKeepWords (seen new) calls list
  words_stay (Err deny) ends is list calls keep =
      subst (λ (c : C). AllKeepWords (seen c) calls list) (sym ends.outcome.1) keep
  words_stay (Ok answer) ends is list calls keep = by (only_looks call) refl is
    where
      by : (b : Bool) → only_looks call ≡ b → (b || false) ≡ true → AllKeepWords (seen new) calls list
      by false e is = absurd (true≢false (sym is))
      by true looks is =
          let same : SameDated (seen old) (seen new) =
          subst (λ w. SameDated w (seen new)) (look_changes_nothing ends.allotment.new (seen old) name call looks)
          ends.outcome.1 in
          same_words (seen old) (seen new) same.tasks (sym (worlds_look_the_same (seen new) (seen old)
          (sameness_is_an_equivalence.back (seen old) (seen new) same.same) ends.ready.1)) list calls keep
